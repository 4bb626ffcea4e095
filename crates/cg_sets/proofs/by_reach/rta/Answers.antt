use Rattle.std.proofs.Common.{◌≡◌, ap, subst, sym}
use Rattle.std.proofs.lemmas.Result.{IfOk-weaker}
use Rattle.cg_nodes.specs.declared.nodes.Value.TheVariants as value_of
use Rattle.cg_numbers.specs.Numbered.{StandsFor}
use Rattle.cg_numbers.specs.declared.likeness.Likeness.{Likeness}
use Rattle.cg_numbers.specs.declared.numbers.Numbers.{Numbers}
use Rattle.cg_numbers.proofs.Collecting.{extends_on, value_put}
use Rattle.cg_sets.specs.Candidates.{ArePointed, IsBase}
use Rattle.cg_sets.proofs.Meeting.{lists_made, seeds_met, sites_met}
use Rattle.cg_sets.proofs.Reached.{answers_later}
use Rattle.cg_solve.specs.Tables.{row}
use Rattle.cg_sets.proofs.by_reach.rta.Goals as goal

pub returns-clause-exact : goal.returns-clause-exact
returns-clause-exact c =
    let p = c.args.program.now in
    let m = c.in_ok-met.met in
    let a = c.answers_of.new.numbers in
    let n = c.value.new.self in
    let x = c.in_ok-all.ensures.extends in
    let y = c.in_ok-fault.ensures.extends in
    let e = extends_on x y in
    let collects = c.in_ok-met.ensures.met in
    let stands : StandsFor p.types n.likeness.types n.likeness.bares = subst (λ (l : Likeness). StandsFor p.types l.types l.bares) (sym e.likeness) c.in_ok-met.ensures.types in
    let pointed : ArePointed n.likeness.types (IsBase p n.likeness.types n.likeness.bares) = subst (λ (l : Likeness). ArePointed l.types (IsBase p l.types l.bares)) (sym y.likeness) c.in_ok-all.ensures.pointed in
    let answers = answers_later p a n (row c.in_ok-all.all.rows) y (ap (λ (k : Numbers). k.groups) c.in_ok-fault.ensures.same) (c.in_ok-all.ensures.answers (lists_made p m collects)) in
    IfOk-weaker c.edges_by_reach.result _ _
    (λ edges both. (n.likeness.types, n.likeness.bares, record { stands = stands; pointed = pointed }, both))
    (c.edges_by_reach.ensures.exact (sites_met p m collects n e) (seeds_met p m collects n e) answers (value_put a n y c.in_ok-fault.fault (value_of.Class p.error_string) c.in_ok-fault.ensures.ok))
