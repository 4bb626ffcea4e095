use Rattle.expr_typing.proofs.Told.{same_answer}
use Rattle.expr_typing.proofs.asking.implements.Goals as goal

pub returns : goal.returns
returns c = λ tests told. same_answer c.implements.result (tests.answers.implements c.args.of c.args.interface) c.implements.ensures (told.answers.implements c.args.of c.args.interface)
