-- Nodes made of operands, which stand in them in boxes.
use Rattle.std.specs.Prelude.{◌≡◌}
use Rattle.std.specs.Global.{Box}
use Rattle.go_base.specs.declared.ids.TypeId.{TypeId}
use Rattle.go_base.specs.declared.place.Pos.{Pos}
use Rattle.go_tree.specs.declared.exprs.ExprKind.{ExprKind}
use Rattle.go_tree.specs.declared.exprs.TypedExpr.{TypedExpr}
use Rattle.typed_parts.specs.Nodes.{node}

-- of one operand
pub data IsOnOne (at : Pos) (of : TypeId) (form : Box TypedExpr → ExprKind) (x : TypedExpr) : TypedExpr → Type 0 where
  in_box : (b : Box TypedExpr) → b.value ≡ x → IsOnOne at of form x (node at of (form b))

-- of two operands
pub data IsOnTwo (at : Pos) (of : TypeId) (form : Box TypedExpr → Box TypedExpr → ExprKind) (x y : TypedExpr)
    : TypedExpr → Type 0 where
  in_boxes : (b c : Box TypedExpr) → b.value ≡ x → c.value ≡ y → IsOnTwo at of form x y (node at of (form b c))
