-- What stands around a node of a typed tree, and what its names stand for.
use Rattle.std.specs.Prelude.{◌==◌, Bool, true, false, ◌&&◌, ◌||◌, List, Option, Some, None, slice_get}
use Rattle.std.specs.List.{list_any}
use Rattle.std.specs.Option.{option_and_then, option_map_or}
use Rattle.go_base.specs.declared.ids.FuncId.{FuncId}
use Rattle.go_base.specs.declared.ids.TypeId.{TypeId}
use Rattle.go_base.specs.declared.ids.VarId.{VarId}
use Rattle.go_tree.specs.declared.functions.FunctionDecl.{FunctionDecl}
use Rattle.go_tree.specs.declared.functions.FunctionForm.{FunctionForm}
use Rattle.go_tree.specs.declared.functions.FunctionForm.TheVariants as form
use Rattle.go_tree.specs.declared.program.Program.{Program}
use Rattle.go_tree.specs.declared.variables.Variable.{Variable}
use Rattle.go_type.specs.Assignable.{underlying_term_of}
use Rattle.go_type.specs.Kinds.{kind_of}
use Rattle.go_type.specs.Same.{same_id}
use Rattle.go_type.specs.Table.{term_at}
use Rattle.go_type.specs.declared.kinds.IntKind.{IntKind}
use Rattle.go_type.specs.declared.term.Signature.{Signature}
use Rattle.go_type.specs.declared.term.TypeTerm.{TypeTerm}
use Rattle.go_type.specs.declared.term.TypeTerm.TheVariants.{Func}
use Rattle.type_shapes.specs.Shapes.{is_text, is_truth, is_id}
use Rattle.typed_trees.specs.Tests.{Tests}

-- where a node stands: the program, the tests of its types, the function in whose body it is (in an initialiser of
-- package variables that which initialises the package), and the variables that this one captures of those around it
pub record Around : Type 0 where
  pub program : Program
  pub tests : Tests
  pub function : FuncId
  pub captured : List VarId

-- ---- types

module _ (around : Around) where
  -- the term of a type, and that of its underlying type
  abbrev pub term : TypeId → Option TypeTerm
  term of = term_at around.program.types of

  abbrev pub under : TypeId → Option TypeTerm
  under of = underlying_term_of around.program.types of

  abbrev pub integers : TypeId → Option IntKind
  integers of = kind_of around.program.types of

  abbrev pub has_integers : TypeId → Bool
  has_integers of = option_map_or (λ kind. true) (integers of) false

  abbrev pub has_texts : TypeId → Bool
  has_texts of = is_text (under of)

  abbrev pub has_truths : TypeId → Bool
  has_truths of = is_truth (under of)

  -- integers and strings are ordered
  abbrev pub is_ordered : TypeId → Bool
  is_ordered of = has_integers of || has_texts of

-- ---- functions

-- a thing where a test holds
abbrev pub only_if : {A : Type 0} → Bool → A → Option A
only_if true it = Some it
only_if false it = None

abbrev pub signature_in : Option TypeTerm → Option Signature
signature_in (Some (Func signature)) = Some signature
signature_in _ = None

-- a declared function, and no method, literal or initialiser
abbrev pub is_plain : FunctionForm → Bool
is_plain form.Function = true
is_plain _ = false

abbrev pub is_method : FunctionForm → Bool
is_method form.Method = true
is_method _ = false

abbrev pub is_literal_in : FuncId → FunctionForm → Bool
is_literal_in function (form.Literal within) = within.number == function.number
is_literal_in function _ = false

module _ (around : Around) where
  abbrev pub function_at : FuncId → Option FunctionDecl
  function_at id = slice_get around.program.functions id.number

  -- the type of a declared function
  abbrev pub function_type : FuncId → Option TypeId
  function_type id =
      option_and_then (λ it. only_if (is_plain it.form) it.signature) (function_at id)

  -- the type of a literal of the function
  abbrev pub literal_type : FuncId → Option TypeId
  literal_type id =
      option_and_then (λ it. only_if (is_literal_in around.function it.form) it.signature) (function_at id)

  -- the type of a declared method with a receiver of a type, without the receiver
  abbrev pub method_type_of : FuncId → TypeId → Option TypeId
  method_type_of id receiver =
      option_and_then (λ it. only_if (is_method it.form && is_id it.receiver receiver) it.signature) (function_at id)

-- ---- variables

abbrev pub is_among : VarId → List VarId → Bool
is_among id ids = list_any (λ it. it.number == id.number) ids

-- a variable of a package, of the function, or one that it captures
abbrev pub is_reached : FuncId → List VarId → VarId → Option FuncId → Bool
is_reached function captured id None = true
is_reached function captured id (Some own) = (own.number == function.number) || is_among id captured

abbrev pub is_own : FuncId → Option FuncId → Bool
is_own function None = false
is_own function (Some own) = own.number == function.number

module _ (around : Around) where
  abbrev pub variable_at : VarId → Option Variable
  variable_at id = slice_get around.program.variables id.number

  -- the variable can be named here, and has a type
  abbrev pub is_variable : VarId → TypeId → Bool
  is_variable id of =
      option_map_or (λ it. same_id it.of of && is_reached around.function around.captured id it.function)
      (variable_at id) false

  -- a variable of the function itself, of a type
  abbrev pub is_own_variable : VarId → TypeId → Bool
  is_own_variable id of =
      option_map_or (λ it. same_id it.of of && is_own around.function it.function) (variable_at id) false
