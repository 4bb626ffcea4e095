use Rattle.std.proofs.Common.{◌≡◌, ◌∙◌, Some, ap, subst, sym}
use Rattle.cg_nodes.specs.declared.nodes.Group.TheVariants as group_of
use Rattle.cg_nodes.specs.declared.nodes.Node.TheVariants as node_of
use Rattle.cg_nodes.specs.declared.nodes.Value.TheVariants as value_of
use Rattle.cg_numbers.specs.Alike.{like_group}
use Rattle.cg_numbers.specs.Numbered.{Extends, IsAt}
use Rattle.cg_numbers.specs.declared.likeness.Likeness.{Likeness}
use Rattle.cg_numbers.proofs.Collecting.{extends_on, extends_self}
use Rattle.cg_numbers.proofs.Lists.{at_later}
use Rattle.cg_sets.specs.Answering.{ArePlaced, signature_of}
use Rattle.cg_sets.specs.Candidates.{OfFunction}
use Rattle.cg_sets.specs.declared.candidates.Candidate.{Candidate}
use Rattle.cg_sets.proofs.Standings.{function_placed, function_unplaced, of_itself}
use Rattle.cg_sets.proofs.placing.of_function.Goals as goal

pub returns-in_default-clause-placed : goal.returns-in_default-clause-placed
returns-in_default-clause-placed c = function_unplaced c.args.program.now c.args.numbers.now c.args.numbers.now.likeness c.args.function (sym c.signature_of.ensures ∙ c.in_default.is)

pub returns-in_default-clause-extends : goal.returns-in_default-clause-extends
returns-in_default-clause-extends c = extends_self c.args.numbers.now

pub returns-clause-placed : goal.returns-clause-placed
returns-clause-placed c =
    let p = c.args.program.now in
    let n0 = c.args.numbers.now in
    let n1 = c.bare_value.new.self in
    let n2 = c.bare_node.new.self in
    let n3 = c.group.new.self in
    let e1 = c.in_ok-value.ensures.extends in
    let e2 = c.in_ok-receiver.ensures.extends in
    let e3 = c.in_ok-group.ensures.extends in
    let from1 : Extends n1 n3 = extends_on e2 e3 in
    let to2 : Extends n0 n2 = extends_on e1 e2 in
    let l = n0.likeness in
    let f = c.args.function in
    let id = c.in-Some.signature in
    let value = c.in_ok-value.value in
    let receiver = c.in_ok-receiver.receiver in
    let group = c.in_ok-group.group in
    let is : signature_of p f ≡ Some id = sym c.signature_of.ensures ∙ c.in-Some.is in
    let at : IsAt n3.groups.keys group (like_group l.types l.bares (group_of.Signed id)) = subst (λ (k : Likeness). IsAt n3.groups.keys group (like_group k.types k.bares (group_of.Signed id))) to2.likeness c.in_ok-group.ensures.ok in
    subst (λ (y : Candidate). ArePlaced n3 (OfFunction p l.types l.bares f) (Some (record { group = group; candidate = y }))) (sym c.plain-candidate.ensures)
    (function_placed p n3 l f id value receiver group is
    (at_later n1.values.keys n3.values.keys value (value_of.Function f) from1.values c.in_ok-value.ensures.ok)
    (at_later n2.nodes.keys n3.nodes.keys receiver node_of.Nothing e3.nodes c.in_ok-receiver.ensures.ok) at)

pub returns-clause-extends : goal.returns-clause-extends
returns-clause-extends c = extends_on c.in_ok-value.ensures.extends (extends_on c.in_ok-receiver.ensures.extends c.in_ok-group.ensures.extends)
