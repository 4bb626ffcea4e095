use Rattle.std.proofs.Common.{◌++◌, List, ap, sym, ◌∙◌, append_assoc}
use Rattle.std.proofs.lemmas.Result.{IfOk-equal}
use Rattle.go_tree.specs.declared.exprs.TypedExpr.{TypedExpr}
use Rattle.cg_nodes.specs.declared.nodes.Mention.{Mention}
use Rattle.cg_nodes.specs.declared.nodes.Parts.TheVariants as parts_of
use Rattle.cg_nodes.specs.Uses.{seen_expr, stored_key}
use Rattle.cg_uses.specs.Settings.{setting_of}
use Rattle.cg_uses.specs.Statements.{uses_here}
use Rattle.cg_uses.proofs.Stores.{store_with_key, store_without}
use Rattle.cg_uses.proofs.targets.store_to.Goals as goal

pub returns-in-MapIndex : goal.returns-in-MapIndex
returns-in-MapIndex c =
    let s = setting_of c.args.around.now in
    let old = c.args.out.now.items in
    let stored = stored_key parts_of.Nothing (seen_expr s.types c.in-MapIndex.key.value) in
    let whole = store_with_key s c.args.place.now c.in-MapIndex.map c.in-MapIndex.key c.in-MapIndex.comma_ok c.in-MapIndex.is in
    IfOk-equal _ _ _ _ c.store_key.ensures
    (ap (λ (x : TypedExpr). c.in_expr.new.out.items ++ stored_key parts_of.Nothing (seen_expr s.types x)) c.deref.ensures
    ∙ (ap (λ (ms : List Mention). ms ++ stored) c.in_ok-in_expr.ensures ∙ (append_assoc old (uses_here s c.args.place.now) stored ∙ ap (λ (ms : List Mention). old ++ ms) (sym whole))))

pub returns-in_default : goal.returns-in_default
returns-in_default c =
    let whole = store_without (setting_of c.args.around.now) c.args.place.now c.in_default.not-MapIndex in
    c.in_ok-in_expr.ensures ∙ ap (λ (ms : List Mention). c.args.out.now.items ++ ms) (sym whole)
