use Rattle.std.proofs.Common.{refl, subst, sym}
use Rattle.std.proofs.lemmas.Result.{IfOk-weaker}
use Rattle.cg_numbers.specs.Numbered.{Extends, StandsFor}
use Rattle.cg_numbers.specs.declared.likeness.Likeness.{Likeness}
use Rattle.cg_numbers.proofs.Collecting.{extends_on}
use Rattle.cg_sets.proofs.Meeting.{lists_made, seeds_met, sites_met}
use Rattle.cg_vta.proofs.Choices.{are_bound, bound_later}
use Rattle.cg_vta.proofs.Ending.{flows_met, made_later}
use Rattle.cg_vta.proofs.by_flow.vta.Goals as goal

pub returns-clause-exact : goal.returns-clause-exact
returns-clause-exact c =
    let p = c.args.program.now in
    let m = c.in_ok-met.met in
    let b = c.bound_groups.new.numbers in
    let n = c.answers_of.new.numbers in
    let x = c.in_ok-bound.ensures.extends in
    let y = c.in_ok-all.ensures.extends in
    let e : Extends m.numbers n = extends_on x y in
    let collects = c.in_ok-met.ensures.met in
    let made = made_later p m.numbers b x c.in_ok-bound.ensures.values (lists_made p m collects) in
    let stands : StandsFor p.types n.likeness.types n.likeness.bares = subst (λ (l : Likeness). StandsFor p.types l.types l.bares) (sym e.likeness) c.in_ok-met.ensures.types in
    IfOk-weaker c.edges_by_flow.result _ _
    (λ edges both. (n.likeness.types, n.likeness.bares, record { stands = stands; pointed = c.in_ok-all.ensures.pointed }, both))
    (c.edges_by_flow.ensures.exact p refl (sites_met p m collects n e) (seeds_met p m collects n e) (flows_met p m collects n e) (bound_later p b n c.in_ok-bound.bound.items y (are_bound p b made c.in_ok-bound.bound.items c.in_ok-bound.ensures.bound)) (c.in_ok-all.ensures.answers made))
