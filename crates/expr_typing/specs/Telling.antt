-- What stands around a node, by tests that tell what is true of the types of the program.
use Rattle.std.specs.Prelude.{List, [], ◌∷◌, Option, Some, None, if◌then◌else◌}
use Rattle.std.specs.Prelude.{◌==◌, ◌&&◌, ℕ, slice_get}
use Rattle.std.specs.Option.{option_and_then}
use Rattle.go_base.specs.declared.ids.FuncId.{FuncId}
use Rattle.go_base.specs.declared.ids.NameId.{NameId}
use Rattle.go_base.specs.declared.ids.TypeId.{TypeId}
use Rattle.go_tree.specs.declared.program.Program.{Program}
use Rattle.go_type.specs.Table.{Table}
use Rattle.go_type.specs.declared.methods.MethodEntry.{MethodEntry}
use Rattle.expr_typing.specs.declared.around.Around.{Around as Given}
use Rattle.type_shapes.specs.Shapes.{is_id}
use Rattle.typed_trees.specs.Around.{Around, only_if, is_plain, is_literal_in, is_method}
use Rattle.typed_trees.specs.Tests.{Tests, AreTold}

-- tests, and that they tell what is true of types
pub record Told (types : Table) : Type 0 where
  pub tests : Tests
  pub told : AreTold types tests

abbrev pub at_tests : Given → Tests → Around
at_tests a tests =
    record { program = a.program.now; tests = tests; function = a.function; captured = a.captured.now }

-- the type of the first method of a name
abbrev pub method_in : NameId → ℕ → List MethodEntry → Option TypeId
method_in name owner [] = None
method_in name owner (entry ∷ others) =
    if (entry.name.number == name.number) && (entry.«package» == owner) then Some entry.of
    else method_in name owner others

-- ---- the types of functions, by the program alone

module _ (p : Program) where
  abbrev pub function_type : FuncId → Option TypeId
  function_type id =
      option_and_then (λ it. only_if (is_plain it.form) it.signature) (slice_get p.functions id.number)

  abbrev pub literal_type : FuncId → FuncId → Option TypeId
  literal_type function id =
      option_and_then (λ it. only_if (is_literal_in function it.form) it.signature) (slice_get p.functions id.number)

  abbrev pub method_type_of : FuncId → TypeId → Option TypeId
  method_type_of id receiver =
      option_and_then (λ it. only_if (is_method it.form && is_id it.receiver receiver) it.signature)
      (slice_get p.functions id.number)
