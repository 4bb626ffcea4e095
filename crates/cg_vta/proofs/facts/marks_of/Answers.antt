use Rattle.std.proofs.Common.{◌∙◌}
use Rattle.std.proofs.lemmas.Result.{IfOk-weaker}
use Rattle.cg_vta.proofs.Following.{only_seeds}
use Rattle.cg_vta.proofs.facts.marks_of.Goals as goal

pub returns : goal.returns
returns c = IfOk-weaker c.solve.result _ _ (λ marks solved. only_seeds _ c.args.numbers.now marks.items (c.as_slice-2.ensures.value ∙ c.new-rules.ensures.items) solved) c.solve.ensures
