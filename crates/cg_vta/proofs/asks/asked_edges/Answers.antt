use Rattle.std.proofs.Common.{◌≡◌, List, Some, inl, inr, subst, sym}
use Rattle.std.proofs.lemmas.Result.{IfOk-weaker}
use Rattle.cg_numbers.specs.declared.sites.Site.{Site}
use Rattle.cg_sets.specs.declared.asking.Question.{Question}
use Rattle.cg_solve.specs.Lists.{Has}
use Rattle.cg_solve.specs.Tables.{row}
use Rattle.cg_solve.specs.declared.solving.Rule.{Rule}
use Rattle.cg_vta.specs.Asks.{AreAnswered, AreAsked, ask_of}
use Rattle.cg_vta.specs.declared.asks.Ask.{Ask}
use Rattle.cg_vta.proofs.Answered.{has_edge, is_edge}
use Rattle.cg_vta.proofs.asks.asked_edges.Goals as goal

pub returns-clause-members : goal.returns-clause-members
returns-clause-members c = λ p n met answers facts empty.
    let sites = c.args.sites.now in
    let rows = row c.args.all.now.rows in
    let known = row c.args.facts.now in
    let nothing = c.args.nothing in
    let before = c.questions_of.new.asks.list.keys in
    let asks = c.rules_of.new.asks.list.keys in
    let questions = c.as_slice.result.now in
    let rules = c.as_slice-2.result.now in
    let asked : AreAsked before sites questions = subst (λ (l : List Question). AreAsked before sites l) (sym c.as_slice.ensures.value) c.in_ok-questions.ensures.questions in
    let answered : AreAnswered known rows nothing before asks rules = subst (λ (l : List Rule). AreAnswered known rows nothing before asks l) (sym c.as_slice-2.ensures.value) (c.in_ok-rules.ensures rows c.in_ok-goals.ensures) in
    let of_sites : (a : Ask) → Has before a → (x : Site) × Has sites x × (ask_of x.call ≡ Some a) =
    λ a h. elim (c.in_ok-questions.ensures.only a h) [ inl i ↦ absurd (subst (λ (l : List Ask). Has l a) c.none-asks.ensures i) | inr r ↦ r ]
    in
    IfOk-weaker c.edges_of.result _ _
    (λ found both e. (
      λ h. is_edge p n sites rows nothing known met answers facts empty before asks questions rules asked answered of_sites e ((both e).0 h),
      λ h. (both e).1 (has_edge p n sites rows nothing known met answers facts empty before asks questions rules asked answered of_sites e h),
    ))
    c.edges_of.ensures.members
