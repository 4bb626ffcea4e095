-- Nodes made of operands, which stand in them in boxes.
use Rattle.std.specs.Prelude.{◌≡◌}
use Rattle.std.specs.Global.{Box}
use Rattle.go_base.specs.declared.ids.TypeId.{TypeId}
use Rattle.go_base.specs.declared.place.Pos.{Pos}
use Rattle.go_tree.specs.declared.exprs.ExprKind.{ExprKind}
use Rattle.go_tree.specs.declared.exprs.TypedExpr.{TypedExpr}
use Rattle.typed_parts.specs.Nodes.{node}

-- of one operand
abbrev pub IsOnOne : Pos → TypeId → (Box TypedExpr → ExprKind) → TypedExpr → TypedExpr → Type 0
IsOnOne at of form x made = (b : Box TypedExpr) × ((b.value ≡ x) × (made ≡ node at of (form b)))

-- of two operands
abbrev pub IsOnTwo : Pos → TypeId → (Box TypedExpr → Box TypedExpr → ExprKind) → TypedExpr → TypedExpr → TypedExpr
    → Type 0
IsOnTwo at of form x y made =
    (b : Box TypedExpr) × ((c : Box TypedExpr)
    × ((b.value ≡ x) × ((c.value ≡ y) × (made ≡ node at of (form b c)))))
