use Rattle.typed_operators.proofs.Compared.{case_stays}
use Rattle.typed_operators.proofs.comparing.case_operand.Goals as goal

pub returns-in-Typed : goal.returns-in-Typed
returns-in-Typed c =
    case_stays c.args.ground.now c.args.how c.args.expr c.args.tag c.in-Typed.is
