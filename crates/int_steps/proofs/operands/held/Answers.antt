use Rattle.int_steps.proofs.Held.{held_at}
use Rattle.int_steps.proofs.operands.held.Goals as goal

pub returns-in-Some : goal.returns-in-Some
returns-in-Some c =
    held_at c.args.regs.now c.args.function.now c.args.operand.now c.slot_of.result c.in-Some.slot _ c.slot_of.ensures
    c.in-Some.is c.get.ensures
