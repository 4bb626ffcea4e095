-- Which functions initialise packages. Go specification, "Package initialization".
use Rattle.std.specs.Prelude.{◌≡◌, ℕ, Option, Some, None, nat_eq, if◌then◌else◌}
use Rattle.std.specs.HashMap.{HashMap, get}
use Rattle.std.specs.declared.hash.FoldHasher.{FoldHasher}
use Rattle.std.specs.declared.hash.BuildHasherDefault.{BuildHasherDefault}
use Rattle.go_base.specs.declared.ids.FuncId.{FuncId}
use Rattle.go_tree.specs.declared.functions.FunctionDecl.{FunctionDecl}
use Rattle.go_tree.specs.declared.program.Program.{Program}
use Rattle.typed_trees.specs.Programs.{initialises, initialiser_from}
use Rattle.typed_trees.specs.Tests.{Tests}

-- functions, by the packages that they initialise
abbrev pub Numbers : Type 0
Numbers = HashMap ℕ ℕ (BuildHasherDefault FoldHasher)

-- the function of a number, and else what is given
abbrev pub function_or : Option ℕ → Option FuncId → Option FuncId
function_or (Some n) other = Some (record { number = n })
function_or None other = other

-- the function that initialises each package that has one
abbrev pub Initialise : Program → Tests → Numbers → Type 0
Initialise p tests numbers =
    (of : ℕ) → function_or (get nat_eq numbers of) None ≡ initialiser_from p tests 0 of p.functions

module _ (p : Program) (tests : Tests) where
  -- the first function that initialises a package stays
  abbrev pub noted : ℕ → FunctionDecl → ℕ → Option ℕ → Option ℕ
  noted number decl of (Some n) = Some n
  noted number decl of None = if initialises p tests of decl then Some number else None
