use Rattle.std.proofs.Common.{◌≡◌, ◌∙◌, List, ap, length, refl, subst, arith}
use Rattle.cg_nodes.specs.declared.nodes.Value.{Value}
use Rattle.cg_numbers.proofs.Collecting.{extends_on, extends_self}
use Rattle.cg_vta.specs.Choosing.{PutsBound, bound_at}
use Rattle.cg_vta.proofs.Choices.{BoundBelow, bound_all, bound_more, bound_none}
use Rattle.cg_vta.proofs.called.bound_groups.Goals as goal

pub loop-number-init : goal.loop-number-init
loop-number-init c =
    let n = c.args.numbers.now in
    record { extends = extends_self n; values = refl; bound = bound_none n n.values.keys _ c.new-groups.ensures.items }

pub loop-number-preserved : goal.loop-number-preserved
loop-number-preserved c =
    let i = c.loop-number.invariant in
    let m = c.loop-number.numbers in
    let n = c.put_bound.new.numbers in
    let values = c.args.numbers.now.values.keys in
    let k = c.loop-number.number in
    let old = c.loop-number.groups.items in
    let new = c.put_bound.new.groups.items in
    let put : PutsBound n (bound_at values k) old new = subst (λ s. PutsBound n (bound_at s.keys k) old new) i.values c.in_ok-put_bound.ensures.bound in
    record {
      extends = extends_on i.extends c.in_ok-put_bound.ensures.extends;
      values = c.in_ok-put_bound.ensures.values ∙ i.values;
      bound = bound_more m n c.in_ok-put_bound.ensures.extends values k old new put i.bound;
    }

pub returns-clause-bound : goal.returns-clause-bound
returns-clause-bound c =
    let values = c.args.numbers.now.values.keys in
    let n = c.loop-number.numbers in
    let same : length c.values-number-end.result.now ≡ length values = ap (λ (l : List Value). length l) c.values-number-end.ensures in
    let e : c.loop-number.number ≡ length values = omega (arith, same, c.loop-number-test.false, c.loop-number.auto.number-end) in
    bound_all n values c.loop-number.groups.items (ap (λ s. s.keys) c.loop-number.invariant.values) (subst (λ k. BoundBelow n values k c.loop-number.groups.items) e c.loop-number.invariant.bound)

pub returns-clause-extends : goal.returns-clause-extends
returns-clause-extends c = c.loop-number.invariant.extends

pub returns-clause-values : goal.returns-clause-values
returns-clause-values c = c.loop-number.invariant.values
