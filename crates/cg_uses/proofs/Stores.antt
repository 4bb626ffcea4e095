-- What is stored with a place.
use Rattle.std.proofs.Common.{◌≡◌, refl, sym, ap, ◌∙◌, [], ◌++◌, List, append-nil}
use Rattle.go_tree.specs.declared.exprs.Callee.{Callee}
use Rattle.go_tree.specs.declared.exprs.Elements.{Elements}
use Rattle.go_tree.specs.declared.exprs.EntryInit.{EntryInit}
use Rattle.go_tree.specs.declared.exprs.ExprKind.{ExprKind}
use Rattle.go_tree.specs.declared.exprs.FieldInit.{FieldInit}
use Rattle.go_tree.specs.declared.exprs.ItemInit.{ItemInit}
use Rattle.go_tree.specs.declared.exprs.TypedExpr.{TypedExpr}
use Rattle.go_tree.specs.declared.exprs.Values.{Values}
use Rattle.go_tree.specs.declared.exprs.Callee.TheOpen as layers
use Rattle.go_tree.specs.declared.exprs.Callee.TheOpen.{ExprKind-F}
use Rattle.go_tree.specs.declared.exprs.ExprKind.TheVariants as kinds
use Rattle.go_tree.specs.declared.exprs.Callee.TheViews.{roll-ExprKind, out-ExprKind, roll-out-ExprKind}
use Rattle.cg_nodes.specs.declared.nodes.Mention.{Mention}
use Rattle.cg_nodes.specs.declared.nodes.Parts.TheVariants as parts_of
use Rattle.cg_nodes.specs.Uses.{stored_key, seen_expr}
use Rattle.cg_uses.specs.Statements.{Setting, uses_here, stored_with, stores_to}

pub store_with_key : (s : Setting) (x : TypedExpr) (table key comma_ok : _) → x.kind ≡ kinds.MapIndex table key comma_ok → stores_to s x ≡ uses_here s x ++ stored_key parts_of.Nothing (seen_expr s.types key.value)
unfolding stores_to
store_with_key s x table key comma_ok is =
    ap (λ (k : ExprKind). uses_here s x ++ stored_with s (out-ExprKind k)) is ∙ ap (λ (y : ExprKind-F Callee Elements ExprKind Values EntryInit FieldInit ItemInit TypedExpr). uses_here s x ++ stored_with s y) (kinds.outs-MapIndex table key comma_ok)

layer_without : (s : Setting) (y : ExprKind-F Callee Elements ExprKind Values EntryInit FieldInit ItemInit TypedExpr) → ((table key comma_ok : _) → roll-ExprKind y ≡ kinds.MapIndex table key comma_ok → ⊥) → stored_with s y ≡ []
layer_without s (layers.ExprKind-F.MapIndex table key comma_ok) other = absurd (other table key comma_ok (kinds.rolls-MapIndex table key comma_ok))
layer_without s _ other = refl

pub store_without : (s : Setting) (x : TypedExpr) → ((table key comma_ok : _) → x.kind ≡ kinds.MapIndex table key comma_ok → ⊥) → stores_to s x ≡ uses_here s x
unfolding stores_to
store_without s x other =
    ap (λ (ms : List Mention). uses_here s x ++ ms) (layer_without s (out-ExprKind x.kind) (λ table key comma_ok e. other table key comma_ok (sym (roll-out-ExprKind x.kind) ∙ e))) ∙ append-nil (uses_here s x)
