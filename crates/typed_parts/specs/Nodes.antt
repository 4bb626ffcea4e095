-- The nodes of names and literals, and nodes that stand in others. Go specification, "Operands" and "Constants".
use Rattle.std.specs.Prelude.{◌≡◌, ℤ, Option, Some, None, Result, Ok, Err}
use Rattle.std.specs.Global.{Box}
use Rattle.std.specs.Option.{option_map}
use Rattle.go_base.specs.declared.ids.TypeId.{TypeId}
use Rattle.go_base.specs.declared.place.Pos.{Pos}
use Rattle.go_base.specs.declared.rule.Rule.TheVariants.{ConstantOutOfRange}
use Rattle.go_rules.specs.declared.untyped.Untyped.{Untyped}
use Rattle.go_rules.specs.declared.untyped.Untyped.TheVariants as kind
use Rattle.go_rules.specs.Untyped.{basic_of}
use Rattle.go_tree.specs.declared.exprs.ExprKind.{ExprKind}
use Rattle.go_tree.specs.declared.exprs.ExprKind.TheVariants.{ConstOf}
use Rattle.go_tree.specs.declared.exprs.TypedExpr.{TypedExpr}
use Rattle.go_type.specs.declared.constants.Const.TheVariants as constant
use Rattle.go_type.specs.Table.{basic_id}
use Rattle.typed_parts.specs.Judged.{Judged, fine, breaks}

abbrev pub node : Pos → TypeId → ExprKind → TypedExpr
node at of kind = record { at = at; of = of; kind = kind }

abbrev pub untyped : Untyped → TypeId
untyped kind = basic_id (basic_of kind)

abbrev pub iota : Pos → ℤ → TypedExpr
iota at number = node at (untyped kind.Int) (ConstOf (constant.Int number))

-- an integer literal without a value is too large for one
abbrev pub integer_literal : Pos → Option ℤ → Judged TypedExpr
integer_literal at (Some number) = fine (iota at number)
integer_literal at None = breaks at ConstantOutOfRange

abbrev pub unboxed : Box TypedExpr → TypedExpr
unboxed x = x.value

abbrev pub unboxed_both : Box TypedExpr × Box TypedExpr → TypedExpr × TypedExpr
unboxed_both (x, y) = (x.value, y.value)

-- what came and is sound stands in boxes
abbrev pub IsBoxed : {E : Type 0} → Result (Option TypedExpr) E → Result (Option (Box TypedExpr)) E → Type 0
IsBoxed expr (Ok boxed) = expr ≡ Ok (option_map unboxed boxed)
IsBoxed expr (Err error) = Unit {0}

abbrev pub AreBoxed : {E : Type 0} → Result (Option (TypedExpr × TypedExpr)) E
    → Result (Option (Box TypedExpr × Box TypedExpr)) E → Type 0
AreBoxed exprs (Ok boxed) = exprs ≡ Ok (option_map unboxed_both boxed)
AreBoxed exprs (Err error) = Unit {0}
