-- Programs whose nodes have parts of the types that they need, and whose names, fields and methods exist.
use Rattle.std.specs.Prelude.{◌≡◌, ℕ, suc, ◌==◌, Bool, true, false, not, ◌&&◌, List, [], ◌∷◌, Option, Some, None}
use Rattle.std.specs.Prelude.{IsTrue}
use Rattle.std.specs.Prelude.{if◌then◌else◌}
use Rattle.std.specs.List.{list_all}
use Rattle.std.specs.Option.{option_map_or}
use Rattle.go_base.specs.declared.ids.FuncId.{FuncId}
use Rattle.go_base.specs.declared.ids.TypeId.{TypeId}
use Rattle.go_base.specs.declared.ids.VarId.{VarId}
use Rattle.go_tree.specs.declared.functions.FunctionDecl.{FunctionDecl}
use Rattle.go_tree.specs.declared.functions.FunctionForm.{FunctionForm}
use Rattle.go_tree.specs.declared.functions.FunctionForm.TheVariants as form
use Rattle.go_tree.specs.declared.program.Body.{Body}
use Rattle.go_tree.specs.declared.program.InitStep.{InitStep}
use Rattle.go_tree.specs.declared.program.Program.{Program}
use Rattle.go_type.specs.Same.{same_id}
use Rattle.go_type.specs.Table.{Table}
use Rattle.go_type.specs.declared.term.Signature.{Signature}
use Rattle.typed_trees.specs.Around.{Around, term, signature_in, is_plain, is_own, variable_at, function_at}
use Rattle.typed_trees.specs.Expressions.{seen_values}
use Rattle.typed_trees.specs.Statements.{Within, fits_block, values_are, variable_types}
use Rattle.typed_trees.specs.Tests.{Tests, AreTold}

-- ---- bodies of functions. Go specification, "Function declarations", "Method declarations" and "Function literals"

abbrev pub is_of_package : Option FuncId → Bool
is_of_package None = true
is_of_package (Some own) = false

abbrev pub is_of_another : FuncId → Option FuncId → Bool
is_of_another function None = false
is_of_another function (Some own) = not (own.number == function.number)

-- a receiver is a parameter, the first
abbrev pub with_receiver : Option TypeId → List TypeId → List TypeId
with_receiver None params = params
with_receiver (Some receiver) params = receiver ∷ params

abbrev pub is_initialiser : FunctionForm → Bool
is_initialiser form.PackageInit = true
is_initialiser _ = false

abbrev pub are_none : List TypeId → Bool
are_none [] = true
are_none _ = false

abbrev pub inside : List TypeId → Within
inside results = record { results = results; breaks = 0; continues = 0; falls = false }

module _ (around : Around) where
  -- variables that stand where a test says, of these types, one each
  abbrev pub are_variables : (Option FuncId → Bool) → List VarId → List TypeId → Bool
  are_variables stands [] [] = true
  are_variables stands (id ∷ ids) (of ∷ types) =
      option_map_or (λ it. same_id it.of of && stands it.function) (variable_at around id) false
      && are_variables stands ids types
  are_variables stands _ _ = false

  abbrev pub stand : (Option FuncId → Bool) → List VarId → Bool
  stand test ids = list_all (λ id. option_map_or (λ it. test it.function) (variable_at around id) false) ids

  -- parameters and results are variables of the function, and what it captures are variables of others
  abbrev pub fits_signature : Body → Option TypeId → Signature → Bool
  fits_signature body receiver signature =
      are_variables (is_own around.function) body.params (with_receiver receiver signature.params)
      && (are_variables (is_own around.function) body.results signature.results
      && (stand (is_of_another around.function) body.captured
      && fits_block around body.block (inside signature.results)))

  abbrev pub fits_declared : Body → FunctionDecl → Bool
  fits_declared body decl =
      option_map_or (λ signature. fits_signature body decl.receiver signature)
      (signature_in (term around decl.signature)) false

module _ (p : Program) (tests : Tests) where
  abbrev pub within_function : FuncId → List VarId → Around
  within_function function captured =
      record { program = p; tests = tests; function = function; captured = captured }

  abbrev pub fits_body : FuncId → FunctionDecl → Option Body → Bool
  fits_body id decl None = not decl.has_body
  fits_body id decl (Some body) = decl.has_body && fits_declared (within_function id body.captured) body decl

  -- each function has its body, from one with a number on
  abbrev pub fit_bodies : ℕ → List FunctionDecl → List (Option Body) → Bool
  fit_bodies n [] [] = true
  fit_bodies n (decl ∷ decls) (body ∷ bodies) =
      fits_body (record { number = n }) decl body && fit_bodies (suc n) decls bodies
  fit_bodies n _ _ = false

  -- ---- initialisers. Go specification, "Package initialization"

  abbrev pub initialises : ℕ → FunctionDecl → Bool
  initialises number decl = is_initialiser decl.form && (decl.«package» == number)

  -- the function that initialises a package, the first having a number
  abbrev pub initialiser_from : ℕ → ℕ → List FunctionDecl → Option FuncId
  initialiser_from n number [] = None
  initialiser_from n number (decl ∷ decls) =
      if initialises number decl then Some (record { number = n }) else initialiser_from (suc n) number decls

  -- variables of packages, and values of their types
  abbrev pub initialises_in : Around → InitStep → Bool
  initialises_in around step =
      stand around is_of_package step.variables
      && values_are around (seen_values around step.values) (variable_types around step.variables)

  abbrev pub fits_step : InitStep → Bool
  fits_step step =
      option_map_or (λ id. initialises_in (within_function id []) step) (initialiser_from 0 step.«package» p.functions)
      false

  -- ---- "Program execution": `main.main` has neither parameters nor results

  abbrev pub is_bare : Option Signature → Bool
  is_bare (Some signature) = are_none signature.params && are_none signature.results
  is_bare None = false

  abbrev pub fits_main : Option FuncId → Bool
  fits_main None = true
  fits_main (Some id) =
      option_map_or (λ decl. is_plain decl.form && is_bare (signature_in (term (within_function id []) decl.signature)))
      (function_at (within_function id []) id) false

  -- each body and each initialiser fits
  abbrev pub fits_program : Bool
  fits_program =
      fit_bodies 0 p.functions p.bodies && (list_all fits_step p.initialisers && fits_main p.main)

-- whichever tests tell what is true of the types, by them each node has parts of the types that it needs, and each
-- name, field and method that a node selects exists
abbrev pub IsTypedProgram : Program → Type 0
IsTypedProgram p = (tests : Tests) → AreTold p.types tests → IsTrue (fits_program p tests)

-- there are such tests
abbrev pub IsProgram : Program → Type 0
IsProgram p = (tests : Tests) × (AreTold p.types tests × IsTrue (fits_program p tests))

-- the tests that tell what is true of types are one, so it does not matter by which it is told
abbrev pub OneTests : Type 0
OneTests =
    (types : Table) (tests others : Tests) → AreTold types tests → AreTold types others → tests ≡ others
