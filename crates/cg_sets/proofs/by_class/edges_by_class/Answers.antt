use Rattle.std.proofs.Common.{◌≡◌, ◌∙◌, List, ap, sym, subst, map}
use Rattle.std.proofs.lemmas.Result.{IfOk-weaker}
use Rattle.cg_nodes.specs.declared.nodes.Value.{Value}
use Rattle.cg_sets.specs.Graphs.{Always}
use Rattle.cg_sets.specs.Rules.{question_of, AreRules, IsAny}
use Rattle.cg_sets.specs.declared.asking.Question.{Question}
use Rattle.cg_sets.proofs.Calling.{AreQuestions, is_edge, has_edge}
use Rattle.cg_sets.proofs.Meeting.{all_asked}
use Rattle.cg_solve.specs.Tables.{row}
use Rattle.cg_solve.specs.declared.solving.Rule.{Rule}
use Rattle.cg_sets.proofs.by_class.edges_by_class.Goals as goal

pub returns-clause-exact : goal.returns-clause-exact
returns-clause-exact c = λ p met answers.
    let n = c.args.met.now.numbers in
    let sites = c.args.met.now.sites.items in
    let rows = row c.args.all.now.rows in
    let runs = Always p n.likeness.types n.likeness.bares in
    let questions : c.as_slice-2.result.now ≡ map question_of sites = c.as_slice-2.ensures.value ∙ (c.in_ok-questions.ensures ∙ ap (map question_of) c.as_slice.ensures.value) in
    let asks : AreQuestions sites runs c.as_slice-2.result.now = subst (AreQuestions sites runs) (sym questions) (all_asked p n.likeness.types n.likeness.bares sites) in
    let rules : AreRules rows IsAny c.as_slice-3.result.now = subst (AreRules rows IsAny) (sym c.as_slice-3.ensures.value) c.in_ok-rules.ensures in
    let any = λ (v : Value). Unit {0} in
    IfOk-weaker c.edges_of.result _ _
    (λ found both e. (
      λ h. is_edge p n sites rows c.as_slice-3.result.now c.as_slice-2.result.now any IsAny runs met answers rules asks (λ x v a k. tt) (λ x v a k. tt) e ((both e).0 h),
      λ h. (both e).1 (has_edge p n sites rows c.as_slice-3.result.now c.as_slice-2.result.now any IsAny runs met answers rules asks (λ x v a k. tt) (λ x v a k. tt) e h),
    ))
    c.edges_of.ensures.members
