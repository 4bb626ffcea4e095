-- Type assertions, and the forms that give a second value. Go specification, "Type assertions", "Type switches",
-- "Index expressions" and "Receive operator".
use Rattle.std.specs.Prelude.{Bool, true, false, List, [], ◌∷◌, Option, IsTrue, ◌⊎◌}
use Rattle.std.specs.Global.{Box}
use Rattle.go_base.specs.declared.ids.TypeId.{TypeId}
use Rattle.go_base.specs.declared.place.Pos.{Pos}
use Rattle.go_base.specs.declared.rule.Rule.TheVariants.{BadTypeAssertion}
use Rattle.go_tree.specs.declared.exprs.Callee.TheOpen as layers
use Rattle.go_tree.specs.declared.exprs.Callee.TheViews.{out-ExprKind}
use Rattle.go_tree.specs.declared.exprs.Callee.{Callee}
use Rattle.go_tree.specs.declared.exprs.Elements.{Elements}
use Rattle.go_tree.specs.declared.exprs.EntryInit.{EntryInit}
use Rattle.go_tree.specs.declared.exprs.ExprKind.{ExprKind}
use Rattle.go_tree.specs.declared.exprs.ExprKind.TheVariants as kinds
use Rattle.go_tree.specs.declared.exprs.FieldInit.{FieldInit}
use Rattle.go_tree.specs.declared.exprs.ItemInit.{ItemInit}
use Rattle.go_tree.specs.declared.exprs.TypedExpr.{TypedExpr}
use Rattle.go_tree.specs.declared.exprs.Values.{Values}
use Rattle.go_type.specs.declared.term.Basic.TheVariants as basic
use Rattle.go_type.specs.declared.term.TypeTerm.TheVariants.{Tuple}
use Rattle.go_type.specs.Assignable.{Implements}
use Rattle.go_type.specs.Table.{Table, basic_id}
use Rattle.typed_parts.specs.declared.meaning.Given.{Given}
use Rattle.typed_parts.specs.declared.meaning.Seen.{Seen}
use Rattle.typed_parts.specs.Joining.{asked}
use Rattle.typed_parts.specs.Judged.{Broken, Judged, and_then, breaks, fine}
use Rattle.typed_parts.specs.Limits.{Basis}
use Rattle.typed_parts.specs.Meanings.{one_value}
use Rattle.typed_parts.specs.Nodes.{node}
use Rattle.typed_parts.specs.Shapes.{is_interface}
use Rattle.typed_parts.specs.Turning.{Asks, IsHeld, IsThenSoundly, Keeps, Soundly}
use Rattle.typed_parts.specs.Made.{IsOnOne}

-- "For an expression x of interface type"
abbrev pub interface_given : Table → Given → Judged Given
interface_given types x = asked x (is_interface types x.expr.of) BadTypeAssertion

abbrev pub interface_value : Table → Seen → Judged Given
interface_value types part = and_then (one_value types part) (interface_given types)

-- "If T is not an interface type, .. T must implement the (interface) type of x"
abbrev pub MayBe : Table → TypeId → TypeId → Type 0
MayBe types of to = IsTrue (is_interface types to) ⊎ Implements types to of

abbrev pub case_broken : Pos → Bool → List Broken
case_broken at true = []
case_broken at false = record { at = at; rule = BadTypeAssertion } ∷ []

abbrev pub assertion_form : TypeId → Box TypedExpr → ExprKind
assertion_form to operand = kinds.AssertTo operand to false

-- the type has to be one that the value may have
pub data IsAssertedAs (types : Table) (to_at : Pos) (x : Given) (to : TypeId) : Judged TypedExpr → Type 0 where
  may_be : (made : TypedExpr) → MayBe types x.expr.of to → IsOnOne x.at to (assertion_form to) x.expr made
      → IsAssertedAs types to_at x to (fine made)
  may_not_be : (MayBe types x.expr.of to → ⊥) → IsAssertedAs types to_at x to (breaks to_at BadTypeAssertion)

abbrev pub IsAsserted : Pos → Given → TypeId → Basis → Basis → Judged TypedExpr → Type 0
IsAsserted to_at x to before after result = Keeps (λ types. IsAssertedAs types to_at x to) before after result

abbrev pub IsAssertedTo : Pos → Option TypeId → Given → Basis → Basis → Judged TypedExpr → Type 0
IsAssertedTo to_at to x before after result = Soundly (IsAsserted to_at x) to before after result

-- "x.(T)", where T is at a place
abbrev pub IsTypeAssertion : Seen → Option TypeId → Pos → Basis → Basis → Judged TypedExpr → Type 0
IsTypeAssertion x to to_at before after result =
    IsThenSoundly (Asks (λ types. interface_value types x)) (IsAssertedTo to_at to) before after result

-- ---- "an additional untyped boolean value"

-- an index of a map, a receive and a type assertion
abbrev pub has_second_layer : layers.ExprKind-F Callee Elements ExprKind Values EntryInit FieldInit ItemInit TypedExpr
    → Bool
has_second_layer (layers.ExprKind-F.MapIndex table key comma_ok) = true
has_second_layer (layers.ExprKind-F.Receive channel comma_ok) = true
has_second_layer (layers.ExprKind-F.AssertTo operand to comma_ok) = true
has_second_layer _ = false

abbrev pub has_second : ExprKind → Bool
has_second kind = has_second_layer (out-ExprKind kind)

abbrev pub paired_layer : TypedExpr → TypeId
    → layers.ExprKind-F Callee Elements ExprKind Values EntryInit FieldInit ItemInit TypedExpr → TypedExpr
paired_layer x pair (layers.ExprKind-F.MapIndex table key comma_ok) = node x.at pair (kinds.MapIndex table key true)
paired_layer x pair (layers.ExprKind-F.Receive channel comma_ok) = node x.at pair (kinds.Receive channel true)
paired_layer x pair (layers.ExprKind-F.AssertTo operand to comma_ok) = node x.at pair (kinds.AssertTo operand to true)
paired_layer x pair _ = x

-- the same with its second value, of a type for both; any other expression as it is
abbrev pub paired_with_ok : TypedExpr → TypeId → TypedExpr
paired_with_ok x pair = paired_layer x pair (out-ExprKind x.kind)

abbrev pub IsPaired : TypedExpr → TypeId → Basis → Basis → Judged TypedExpr → Type 0
IsPaired x pair before after result = Asks (λ types. fine (paired_with_ok x pair)) before after result

abbrev pub IsWithOk : TypedExpr → Basis → Basis → Judged TypedExpr → Type 0
IsWithOk x before after result =
    IsThenSoundly (IsHeld (Tuple (x.of ∷ basic_id basic.Bool ∷ []))) (IsPaired x) before after result
