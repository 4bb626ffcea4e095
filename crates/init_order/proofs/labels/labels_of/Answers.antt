use Rattle.std.proofs.Common.{◌≡◌, ◌<◌, ◌∙◌, refl, sym, subst, length, slice_index, arith}
use Rattle.init_order.specs.Taking.{AreLabels}
use Rattle.init_order.proofs.Picking.{label_read, one_group, not_some, label_more}
use Rattle.init_order.proofs.labels.labels_of.Goals as goal

pub returns-then-is_some-clause-labels : goal.returns-then-is_some-clause-labels
returns-then-is_some-clause-labels c =
    let low = c.requires c.loop-step.step c.loop-step-test.true in
    let size = c.loop-step.invariant.size in
    let ok = c.loop-step.labels.ok.0 in
    one_group c.args.groups.now c.loop-step.step c.loop-step.labels.items c.index.result.now c.loop-step.invariant.so_far c.loop-step-test.true (omega arith) c.index.ensures
    (sym c.is_some.ensures ∙ c.if-is_some.true)

pub loop-step-preserved : goal.loop-step-preserved
loop-step-preserved c =
    let low = c.requires c.loop-step.step c.loop-step-test.true in
    let size = c.loop-step.invariant.size in
    let ok = c.loop-step.labels.ok.0 in
    let room : slice_index c.args.groups.now c.loop-step.step < length c.loop-step.labels.items = omega arith in
    record {
      size = c.loop-step.invariant.size;
      so_far = label_more c.args.groups.now c.loop-step.step c.loop-step.labels.items _ c.loop-step.invariant.so_far room
          (label_read c.loop-step.labels.items (slice_index c.args.groups.now c.loop-step.step) c.index.result.now room c.index.ensures ∙ not_some c.index.result.now (sym c.is_some.ensures ∙ c.if-is_some.false))
          refl;
    }

pub returns-clause-labels : goal.returns-clause-labels
returns-clause-labels c =
    let end : c.loop-step.step ≡ length c.args.groups.now = (let a = c.loop-step-test.false in let b = c.loop-step.auto.step-end in omega arith) in
    subst (λ n. AreLabels c.args.groups.now n c.loop-step.labels.items) end c.loop-step.invariant.so_far
