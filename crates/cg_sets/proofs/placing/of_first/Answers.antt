use Rattle.std.proofs.Common.{◌≡◌, ◌∙◌, Some, ap}
use Rattle.cg_nodes.specs.Kinds.{is_interface}
use Rattle.cg_nodes.specs.declared.nodes.Group.TheVariants as group_of
use Rattle.cg_nodes.specs.declared.nodes.Node.TheVariants as node_of
use Rattle.cg_nodes.specs.declared.nodes.Value.TheVariants as value_of
use Rattle.cg_numbers.specs.Numbered.{Extends}
use Rattle.cg_numbers.specs.declared.likeness.Likeness.{Likeness}
use Rattle.cg_numbers.specs.declared.numbers.Numbers.{Numbers}
use Rattle.cg_numbers.proofs.Collecting.{extends_on}
use Rattle.cg_numbers.proofs.Lists.{at_later}
use Rattle.cg_sets.proofs.Standings.{first_placed, of_argument, placed_like}
use Rattle.cg_sets.proofs.placing.of_first.Goals as goal

pub returns-clause-placed : goal.returns-clause-placed
returns-clause-placed c = λ p v listed kind.
    let n0 = c.args.numbers.now in
    let n1 = c.bare_group.new.self in
    let n2 = c.bare_node.new.self in
    let n3 = c.bare_group-2.new.self in
    let e1 = c.in_ok-chosen.ensures.extends in
    let e2 = c.in_ok-receiver.ensures.extends in
    let e3 = c.in_ok-group.ensures.extends in
    let value = c.args.value in
    let this = value_of.Unbound c.args.selector c.args.signature in
    let from1 : Extends n1 n3 = extends_on e2 e3 in
    let from0 : Extends n0 n3 = extends_on e1 from1 in
    placed_like p n3 n0.likeness this (Some (record { group = c.in_ok-group.group; candidate = of_argument p n3 value c.in_ok-chosen.chosen c.in_ok-receiver.receiver })) from0.likeness
    (first_placed p n3 c.args.selector c.args.signature value c.in_ok-chosen.chosen c.in_ok-receiver.receiver c.in_ok-group.group (ap (λ (l : Likeness). is_interface l.types c.args.selector.of) from0.likeness ∙ kind)
    (at_later n0.values.keys n3.values.keys value this from0.values v)
    (at_later n1.groups.keys n3.groups.keys c.in_ok-chosen.chosen (group_of.Selected c.args.selector) from1.groups c.in_ok-chosen.ensures.ok)
    (at_later n2.nodes.keys n3.nodes.keys c.in_ok-receiver.receiver node_of.Nothing e3.nodes c.in_ok-receiver.ensures.ok)
    c.in_ok-group.ensures.ok)
    listed

pub returns-clause-extends : goal.returns-clause-extends
returns-clause-extends c = extends_on c.in_ok-chosen.ensures.extends (extends_on c.in_ok-receiver.ensures.extends c.in_ok-group.ensures.extends)

pub returns-clause-values : goal.returns-clause-values
returns-clause-values c = ap (λ (n : Numbers). n.values) c.bare_group-2.ensures.same ∙ (ap (λ (n : Numbers). n.values) c.bare_node.ensures.same ∙ ap (λ (n : Numbers). n.values) c.bare_group.ensures.same)
