use Rattle.std.proofs.Common.{◌≡◌, ◌∙◌, ◌++◌, List, ap, flat_map, subst, sym}
use Rattle.std.proofs.lemmas.Result.{IfOk-weaker}
use Rattle.cg_numbers.specs.declared.sites.Site.{Site}
use Rattle.cg_solve.specs.Tables.{row}
use Rattle.cg_solve.specs.declared.solving.Rule.{Rule}
use Rattle.cg_vta.specs.Choosing.{chosen_group, group_rule}
use Rattle.cg_vta.specs.Rows.{AreOf}
use Rattle.cg_vta.proofs.Choices.{are_called}
use Rattle.cg_vta.proofs.called.called_groups.Goals as goal

pub returns : goal.returns
returns c = λ p met bound answers.
    let n = c.args.met.now.numbers in
    let sites = c.args.met.now.sites.items in
    let rows = row c.args.all.now.rows in
    let bounds = c.args.bound.items in
    let starts = c.as_slice-4.result.now in
    let rules = c.as_slice-3.result.now in
    let all : starts ≡ bounds ++ flat_map chosen_group sites = c.as_slice-4.ensures.value ∙ (c.in_ok-starts.ensures ∙ ap (λ (l : List Site). bounds ++ flat_map chosen_group l) c.as_slice.ensures.value) in
    let are : AreOf rows group_rule rules = subst (λ (l : List Rule). AreOf rows group_rule l) (sym c.as_slice-3.ensures.value) c.in_ok-rules.ensures in
    IfOk-weaker c.solve.result _ _
    (λ marks solved. are_called p n sites bounds rows starts rules met bound answers are all c.laws.ensures.groups marks.items solved)
    c.solve.ensures
