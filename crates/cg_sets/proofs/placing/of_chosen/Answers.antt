use Rattle.std.proofs.Common.{◌≡◌, ◌∙◌, Some, ap, subst, sym}
use Rattle.cg_nodes.specs.declared.nodes.Group.TheVariants as group_of
use Rattle.cg_nodes.specs.declared.nodes.Node.TheVariants as node_of
use Rattle.cg_nodes.specs.declared.nodes.Value.TheVariants as value_of
use Rattle.cg_numbers.specs.Numbered.{Extends}
use Rattle.cg_numbers.specs.declared.numbers.Numbers.{Numbers}
use Rattle.cg_numbers.proofs.Collecting.{extends_on}
use Rattle.cg_numbers.proofs.Lists.{at_later}
use Rattle.cg_sets.specs.Answering.{ArePlaced, OfThis}
use Rattle.cg_sets.specs.declared.candidates.Candidate.{Candidate}
use Rattle.cg_sets.proofs.Standings.{chosen_placed, of_operand, placed_like}
use Rattle.cg_sets.proofs.placing.of_chosen.Goals as goal

pub returns-clause-placed : goal.returns-clause-placed
returns-clause-placed c = λ p v listed.
    let n0 = c.args.numbers.now in
    let n1 = c.bare_node.new.self in
    let n2 = c.bare_group.new.self in
    let n3 = c.bare_node-2.new.self in
    let n4 = c.bare_group-2.new.self in
    let e1 = c.in_ok-of.ensures.extends in
    let e2 = c.in_ok-chosen.ensures.extends in
    let e3 = c.in_ok-receiver.ensures.extends in
    let e4 = c.in_ok-group.ensures.extends in
    let of = c.in_ok-of.of in
    let chosen = c.in_ok-chosen.chosen in
    let value = c.args.value in
    let this = value_of.BoundSelector c.args.at c.args.selector c.args.signature in
    let from1 : Extends n1 n4 = extends_on e2 (extends_on e3 e4) in
    let from0 : Extends n0 n4 = extends_on e1 from1 in
    let from2 : Extends n2 n4 = extends_on e3 e4 in
    let x = of_operand p n4 value of chosen c.in_ok-receiver.receiver in
    subst (λ (y : Candidate). ArePlaced n4 (OfThis p n0.likeness this) (Some (record { group = c.in_ok-group.group; candidate = y }))) (sym c.plain-candidate.ensures)
    (placed_like p n4 n0.likeness this (Some (record { group = c.in_ok-group.group; candidate = x })) from0.likeness
    (chosen_placed p n4 c.args.at c.args.selector c.args.signature value of chosen c.in_ok-receiver.receiver c.in_ok-group.group
    (at_later n0.values.keys n4.values.keys value this from0.values v)
    (at_later n1.nodes.keys n4.nodes.keys of (node_of.Operand c.args.at) from1.nodes c.in_ok-of.ensures.ok)
    (at_later n2.groups.keys n4.groups.keys chosen (group_of.Selected c.args.selector) from2.groups c.in_ok-chosen.ensures.ok)
    (at_later n3.nodes.keys n4.nodes.keys c.in_ok-receiver.receiver node_of.Nothing e4.nodes c.in_ok-receiver.ensures.ok)
    c.in_ok-group.ensures.ok)
    listed)

pub returns-clause-extends : goal.returns-clause-extends
returns-clause-extends c = extends_on c.in_ok-of.ensures.extends (extends_on c.in_ok-chosen.ensures.extends (extends_on c.in_ok-receiver.ensures.extends c.in_ok-group.ensures.extends))

pub returns-clause-values : goal.returns-clause-values
returns-clause-values c = ap (λ (n : Numbers). n.values) c.bare_group-2.ensures.same ∙ (ap (λ (n : Numbers). n.values) c.bare_node-2.ensures.same ∙ (ap (λ (n : Numbers). n.values) c.bare_group.ensures.same ∙ ap (λ (n : Numbers). n.values) c.bare_node.ensures.same))
