use Rattle.std.proofs.Common.{◌≡◌, ◌∙◌, List, Bool, ap, map, subst, sym}
use Rattle.std.specs.List.{filter}
use Rattle.std.proofs.lemmas.Result.{IfOk-weaker}
use Rattle.go_base.specs.declared.ids.FuncId.{FuncId}
use Rattle.cg_nodes.specs.declared.nodes.Value.{Value}
use Rattle.cg_numbers.specs.declared.sites.Site.{Site}
use Rattle.cg_sets.specs.Graphs.{Known, Reached, Rta}
use Rattle.cg_sets.specs.Reaching.{IsMade, IsReach, runs_in}
use Rattle.cg_sets.specs.Rules.{AreRules, question_of}
use Rattle.cg_sets.specs.declared.asking.Question.{Question}
use Rattle.cg_sets.specs.declared.candidates.Candidate.{Candidate}
use Rattle.cg_solve.specs.declared.solving.Rule.{Rule}
use Rattle.cg_sets.proofs.Calling.{AreQuestions, has_edge, is_edge}
use Rattle.cg_sets.proofs.Reached.{asked_where}
use Rattle.cg_solve.specs.Tables.{row}
use Rattle.cg_sets.proofs.by_reach.edges_by_reach.Goals as goal

pub returns-clause-exact : goal.returns-clause-exact
returns-clause-exact c = λ met made answers fault.
    let p = c.args.program.now in
    let n = c.args.met.now.numbers in
    let sites = c.args.met.now.sites.items in
    let rows = row c.args.all.now.rows in
    let marks = c.in_ok-marks.marks.items in
    let questions = c.as_slice-4.result.now in
    let rules = c.as_slice-5.result.now in
    let known = λ (v : Value). Rta p n.likeness.types n.likeness.bares (Known v) in
    let runs = λ (f : FuncId). Rta p n.likeness.types n.likeness.bares (Reached f) in
    let reach : IsReach p n marks = c.in_ok-marks.ensures met made answers fault in
    let asked : questions ≡ map question_of (filter (runs_in marks) sites) =
    c.as_slice-4.ensures.value ∙ (c.in_ok-questions.ensures ∙ (ap (λ (l : List Site). map question_of (filter (runs_in c.as_slice-3.result.now) l)) c.as_slice-2.ensures.value ∙ ap (λ (m : List Bool). map question_of (filter (runs_in m) sites)) c.as_slice-3.ensures.value))
    in
    let asks : AreQuestions sites runs questions = subst (AreQuestions sites runs) (sym asked) (asked_where p n marks reach sites) in
    let live : AreRules rows (IsMade marks) rules =
    subst (AreRules rows (IsMade marks)) (sym c.as_slice-5.ensures.value) (subst (λ (m : List Bool). AreRules rows (IsMade m) c.in_ok-rules.rules.items) c.as_slice.ensures.value c.in_ok-rules.ensures)
    in
    IfOk-weaker c.edges_of.result _ _
    (λ found both e. (
      λ h. is_edge p n sites rows rules questions known (IsMade marks) runs met answers live asks (λ x v at k. (reach.made x.value v at).0 k) (λ x v at k. (reach.made x.value v at).1 k) e ((both e).0 h),
      λ h. (both e).1 (has_edge p n sites rows rules questions known (IsMade marks) runs met answers live asks (λ x v at k. (reach.made x.value v at).0 k) (λ x v at k. (reach.made x.value v at).1 k) e h),
    ))
    c.edges_of.ensures.members
