use Rattle.std.proofs.Common.{◌∙◌, sym, subst, Option, Result}
use Rattle.go_base.specs.declared.memory.NoMemory.{NoMemory}
use Rattle.go_tree.specs.declared.exprs.Elements.TheVariants.{Items}
use Rattle.go_tree.specs.declared.exprs.TypedExpr.{TypedExpr}
use Rattle.typed_parts.specs.Turning.{Turns}
use Rattle.typed_literals.specs.Composing.{IsNode}
use Rattle.typed_literals.proofs.Rows.{finished_by, finished_nothing}
use Rattle.typed_literals.proofs.arrays.finished.Goals as goal

pub returns-in-Some : goal.returns-in-Some
returns-in-Some c =
    let mid = c.finished_type-of.new.ground in
    let last = c.literal_node-expr.new.ground in
    finished_by c.args.ground.now mid last c.args.literal c.args.elem c.args.items c.in-Some.items c.args.len c.finished_type-of.result c.in_ok-of.field-0 c.in-Some.of c.sound.result
    c.finished_type-of.ensures (sym c.both.ensures ∙ c.in_ok-of.was) c.in-Some.is
    (subst (λ (r : Result (Option TypedExpr) NoMemory). Turns mid last r (IsNode c.args.literal c.in-Some.of (Items c.in-Some.items c.args.len))) (sym c.sound.ensures) c.literal_node-expr.ensures)

pub returns-in-None : goal.returns-in-None
returns-in-None c =
    finished_nothing c.args.ground.now c.finished_type-of.new.ground c.args.literal c.args.elem c.args.items c.args.len c.finished_type-of.result c.in_ok-of.field-0
    c.finished_type-of.ensures (sym c.both.ensures ∙ c.in_ok-of.was) c.in-None.is
