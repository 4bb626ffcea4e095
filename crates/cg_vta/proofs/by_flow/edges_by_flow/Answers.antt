use Rattle.std.proofs.Common.{◌≡◌, ◌∙◌, Bool, List, ap, subst, sym}
use Rattle.std.specs.Prelude.{◌↔◌}
use Rattle.std.specs.List.{Contains}
use Rattle.std.proofs.lemmas.Result.{IfOk-weaker}
use Rattle.go_base.specs.declared.ids.TypeId.{TypeId}
use Rattle.cg_numbers.specs.Numbered.{Extends}
use Rattle.cg_numbers.specs.declared.likeness.Likeness.{Likeness}
use Rattle.cg_numbers.specs.declared.numbers.Numbers.{Numbers}
use Rattle.cg_numbers.specs.declared.sites.Flow.{Flow}
use Rattle.cg_numbers.specs.declared.sites.Site.{Site}
use Rattle.cg_numbers.proofs.Collecting.{extends_on}
use Rattle.cg_sets.specs.Rules.{AreSites}
use Rattle.cg_sets.specs.declared.edges.Edge.{Edge}
use Rattle.cg_sets.proofs.Reached.{answers_later}
use Rattle.cg_solve.specs.Tables.{row}
use Rattle.cg_solve.specs.declared.solving.Rule.{Rule}
use Rattle.cg_vta.specs.Choosing.{AreCalled}
use Rattle.cg_vta.specs.Facts.{AreFacts, AreStarts}
use Rattle.cg_vta.specs.Flows.{IsVtaEdge}
use Rattle.cg_vta.specs.Passing.{AreFlows, AreStreams}
use Rattle.cg_vta.proofs.Ending.{seeds_later, sites_later, starts_later}
use Rattle.cg_vta.proofs.Streams.{called_later, flows_later}
use Rattle.cg_vta.proofs.by_flow.edges_by_flow.Goals as goal

pub returns-clause-exact : goal.returns-clause-exact
returns-clause-exact c = λ p error met made flows bound answers.
    let n0 = c.args.met.numbers in
    let n1 = c.starts_of.new.numbers in
    let n2 = c.flows_of.new.numbers in
    let sites = c.args.met.sites.items in
    let rows = row c.args.all.now.rows in
    let starts = c.in_ok-starts.starts in
    let x = c.in_ok-starts.ensures.extends in
    let y = c.in_ok-rules.ensures.extends in
    let e : Extends n0 n2 = extends_on x y in
    let first : n1.groups ≡ n0.groups = c.in_ok-starts.ensures.groups in
    let last : n2.groups ≡ n1.groups = ap (λ (n : Numbers). n.groups) c.in_ok-rules.ensures.same in
    let marks = c.in_ok-called.called.items in
    let called : AreCalled p n1 c.as_slice-2.result.now =
    subst (λ (l : List Bool). AreCalled p n1 l) (sym c.as_slice-2.ensures.value) (called_later p n0 n1 marks x first (c.in_ok-called.ensures p met bound answers))
    in
    let flow : AreFlows p n1 c.as_slice.result.now = subst (λ (l : List Flow). AreFlows p n1 l) (sym c.as_slice.ensures.value) (flows_later p n0 n1 c.args.met.flows.items x flows) in
    let streams : AreStreams p n2 c.as_slice-3.result.now =
    subst (λ (l : List Rule). AreStreams p n2 l) (sym c.as_slice-3.ensures.value) (c.in_ok-rules.ensures.flows p flow (answers_later p n0 n1 rows x first answers) called)
    in
    let at_first : AreStarts n1 p.error_string starts = subst (λ (t : TypeId). AreStarts n1 t starts) (sym error) c.in_ok-starts.ensures.at in
    let at = starts_later n1 n2 y p.error_string starts at_first in
    let facts : AreFacts p n2 sites rows starts.nothing (row c.in_ok-facts.facts) = c.in_ok-facts.ensures p (seeds_later p n0 n2 e c.args.met.seeds.items made) at streams in
    let here : c.as_slice-4.result.now ≡ sites = c.as_slice-4.ensures.value in
    IfOk-weaker c.asked_edges.result _ _
    (λ edges all. subst (λ (l : Likeness). (edge : Edge) → Contains edges edge ↔ IsVtaEdge p l.types l.bares edge) e.likeness all)
    (c.asked_edges.ensures.members p n2 (subst (λ (l : List Site). AreSites p n2 l) (sym here) (sites_later p n0 n2 e sites met)) (answers_later p n0 n2 rows e (last ∙ first) answers)
    (subst (λ (l : List Site). AreFacts p n2 l rows starts.nothing (row c.in_ok-facts.facts)) (sym here) facts) at.empty)
