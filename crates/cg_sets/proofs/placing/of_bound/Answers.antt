use Rattle.std.proofs.Common.{◌≡◌, ◌∙◌, Some, ap, subst, sym}
use Rattle.std.specs.Prelude.{slice_get}
use Rattle.cg_nodes.specs.declared.nodes.Group.TheVariants as group_of
use Rattle.cg_nodes.specs.declared.nodes.Node.TheVariants as node_of
use Rattle.cg_nodes.specs.declared.nodes.Value.TheVariants as value_of
use Rattle.cg_numbers.specs.Numbered.{Extends}
use Rattle.cg_numbers.specs.declared.numbers.Numbers.{Numbers}
use Rattle.cg_numbers.proofs.Collecting.{extends_on, extends_self, group_put}
use Rattle.cg_numbers.proofs.Lists.{at_later}
use Rattle.cg_sets.specs.Answering.{ArePlaced, OfThis}
use Rattle.cg_sets.specs.declared.candidates.Candidate.{Candidate}
use Rattle.cg_sets.proofs.Standings.{bound_placed, bound_unplaced, of_itself, placed_like}
use Rattle.cg_sets.proofs.placing.of_bound.Goals as goal

pub returns-in_default-clause-placed : goal.returns-in_default-clause-placed
returns-in_default-clause-placed c = λ v listed. bound_unplaced c.args.program.now c.args.numbers.now c.args.function (sym c.decl_of.ensures ∙ c.in_default.is)

pub returns-in_default-clause-extends : goal.returns-in_default-clause-extends
returns-in_default-clause-extends c = extends_self c.args.numbers.now

pub returns-clause-placed : goal.returns-clause-placed
returns-clause-placed c = λ v listed.
    let p = c.args.program.now in
    let n0 = c.args.numbers.now in
    let n1 = c.bare_node.new.self in
    let n2 = c.group.new.self in
    let e1 = c.in_ok-receiver.ensures.extends in
    let e2 = c.in_ok-group.ensures.extends in
    let from0 : Extends n0 n2 = extends_on e1 e2 in
    let d = c.in-Some.decl in
    let f = c.args.function in
    let this = value_of.Bound f in
    let x = of_itself f c.args.value 1 c.in_ok-receiver.receiver in
    let is : slice_get p.functions f.number ≡ Some d = sym c.decl_of.ensures ∙ c.in-Some.is in
    subst (λ (y : Candidate). ArePlaced n2 (OfThis p n0.likeness this) (Some (record { group = c.in_ok-group.group; candidate = y }))) (sym c.plain-candidate.ensures)
    (placed_like p n2 n0.likeness this (Some (record { group = c.in_ok-group.group; candidate = x })) from0.likeness
    (bound_placed p n2 f d c.args.value c.in_ok-receiver.receiver c.in_ok-group.group is
    (at_later n0.values.keys n2.values.keys c.args.value this from0.values v)
    (at_later n1.nodes.keys n2.nodes.keys c.in_ok-receiver.receiver node_of.Nothing e2.nodes c.in_ok-receiver.ensures.ok)
    (group_put n1 n2 e2 c.in_ok-group.group (group_of.Signed d.signature) c.in_ok-group.ensures.ok))
    listed)

pub returns-clause-extends : goal.returns-clause-extends
returns-clause-extends c = extends_on c.in_ok-receiver.ensures.extends c.in_ok-group.ensures.extends

pub returns-clause-values : goal.returns-clause-values
returns-clause-values c = ap (λ (n : Numbers). n.values) c.group.ensures.same ∙ ap (λ (n : Numbers). n.values) c.bare_node.ensures.same
