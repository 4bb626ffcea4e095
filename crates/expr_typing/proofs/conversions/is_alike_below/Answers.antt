use Rattle.std.proofs.Common.{◌∙◌}
use Rattle.expr_typing.proofs.Told.{same_answer}
use Rattle.expr_typing.proofs.conversions.is_alike_below.Goals as goal

pub returns : goal.returns
returns c = λ told.
    let types = c.args.around.program.now.types in
    same_answer c.is_same_but_tags.result (told.tests.alike c.underlying.result c.underlying-2.result) c.is_same_but_tags.ensures (told.told.alike c.underlying.result c.underlying-2.result)
    ∙ (λ i. told.tests.alike (c.underlying.ensures i) (c.underlying-2.ensures i))
