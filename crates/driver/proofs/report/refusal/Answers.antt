use Rattle.std.proofs.Common.{◌∙◌, append_assoc}
use Rattle.std.proofs.lemmas.Result.{IfOk-weaker}
use Rattle.driver.proofs.report.refusal.Goals as goal

pub returns : goal.returns
returns c = IfOk-weaker c.format.result _ _ (λ text e. e ∙ rw (c.as_str-path.ensures, c.text-text.ensures, c.code-code.ensures) (simp append_assoc)) c.format.ensures.ok
