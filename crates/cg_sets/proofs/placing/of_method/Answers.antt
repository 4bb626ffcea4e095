use Rattle.std.proofs.Common.{◌≡◌, ◌∙◌, ℕ, Some, ap, subst, sym}
use Rattle.cg_nodes.specs.Kinds.{is_interface}
use Rattle.cg_nodes.specs.declared.nodes.Value.TheVariants as value_of
use Rattle.cg_numbers.specs.Numbered.{Extends}
use Rattle.cg_numbers.specs.declared.likeness.Likeness.{Likeness}
use Rattle.cg_numbers.specs.declared.numbers.Numbers.{Numbers}
use Rattle.cg_numbers.proofs.Collecting.{extends_on}
use Rattle.cg_numbers.proofs.Lists.{at_later}
use Rattle.cg_sets.specs.Answering.{ArePlaced, OfThis}
use Rattle.cg_sets.proofs.ClassMethods.{aims_later, is_method_later}
use Rattle.cg_sets.proofs.Standings.{first_later, method_placed, placed_like, selected_so}
use Rattle.cg_sets.proofs.placing.of_method.Goals as goal

pub returns-clause-placed : goal.returns-clause-placed
returns-clause-placed c = λ v listed kind is named.
    let p = c.args.program.now in
    let s = c.args.selector in
    let e = c.args.entry.now in
    let n0 = c.args.numbers.now in
    let n1 = c.aiming_of.new.numbers in
    let n2 = c.first_receiver.new.numbers in
    let n3 = c.bare_group.new.self in
    let e1 = c.in_ok-aiming.ensures.extends in
    let e2 = c.in_ok-receiver.ensures.extends in
    let e3 = c.in_ok-group.ensures.extends in
    let value = c.args.value in
    let this = value_of.Unbound s c.args.signature in
    let from1 : Extends n1 n3 = extends_on e2 e3 in
    let from0 : Extends n0 n3 = extends_on e1 from1 in
    let x = c.in_ok-aiming.aiming in
    let so = selected_so s e named in
    let placed = method_placed p n3 s c.args.signature e x value c.in_ok-receiver.receiver c.in_ok-group.group (ap (λ (l : Likeness). is_interface l.types s.of) from0.likeness ∙ kind) (is_method_later n0 n3 from0 s.of e is) so.0 so.1
    (aims_later n1 n3 from1 p.functions s.of e x c.in_ok-aiming.ensures.aims)
    (first_later p n1 n2 n3 e2 e3 s.of x.goal c.args.signature x.receiver c.in_ok-receiver.receiver c.in_ok-receiver.ensures.first)
    (at_later n0.values.keys n3.values.keys value this from0.values v) c.in_ok-group.ensures.ok
    in
    placed_like p n3 n0.likeness this (Some (record { group = c.in_ok-group.group; candidate = record { value = value; goal = x.goal; skip = 1; base = c.base_of.result; receiver = c.in_ok-receiver.receiver } })) from0.likeness
    (λ k. subst (λ (b : ℕ). ArePlaced n3 (OfThis p n3.likeness this) (Some (record { group = c.in_ok-group.group; candidate = record { value = value; goal = x.goal; skip = 1; base = b; receiver = c.in_ok-receiver.receiver } }))) (sym c.base_of.ensures) (placed k))
    listed

pub returns-clause-extends : goal.returns-clause-extends
returns-clause-extends c = extends_on c.in_ok-aiming.ensures.extends (extends_on c.in_ok-receiver.ensures.extends c.in_ok-group.ensures.extends)

pub returns-clause-values : goal.returns-clause-values
returns-clause-values c = ap (λ (n : Numbers). n.values) c.bare_group.ensures.same ∙ (c.in_ok-receiver.ensures.values ∙ c.in_ok-aiming.ensures.values)
