use Rattle.std.proofs.Common.{◌≡◌, subst, sym}
use Rattle.std.proofs.lemmas.Result.{IfOk-weaker}
use Rattle.cg_numbers.specs.Numbered.{StandsFor}
use Rattle.cg_numbers.specs.declared.likeness.Likeness.{Likeness}
use Rattle.cg_sets.proofs.Meeting.{lists_made, sites_met}
use Rattle.cg_sets.proofs.by_class.cha.Goals as goal

pub returns-clause-exact : goal.returns-clause-exact
returns-clause-exact c =
    let p = c.args.program.now in
    let m = c.in_ok-met.met in
    let n = c.answers_of.new.numbers in
    let e = c.in_ok-all.ensures.extends in
    let collects = c.in_ok-met.ensures.met in
    let stands : StandsFor p.types n.likeness.types n.likeness.bares = subst (λ (l : Likeness). StandsFor p.types l.types l.bares) (sym e.likeness) c.in_ok-met.ensures.types in
    IfOk-weaker c.edges_by_class.result _ _
    (λ edges both. (n.likeness.types, n.likeness.bares, record { stands = stands; pointed = c.in_ok-all.ensures.pointed }, both))
    (c.edges_by_class.ensures.exact p (sites_met p m collects n e) (c.in_ok-all.ensures.answers (lists_made p m collects)))
