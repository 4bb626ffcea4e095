use Rattle.expr_typing.proofs.Told.{same_answer}
use Rattle.expr_typing.proofs.asking.comparable.Goals as goal

pub returns : goal.returns
returns c = λ tests told. same_answer c.comparable.result (tests.answers.comparable c.args.of) c.comparable.ensures (told.answers.comparable c.args.of)
