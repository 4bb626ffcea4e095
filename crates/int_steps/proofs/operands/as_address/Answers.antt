use Rattle.std.proofs.Common.{arith, sym}
use Rattle.int_steps.proofs.Held.{not_pointer}
use Rattle.int_steps.proofs.operands.as_address.Goals as goal

pub returns-in-Pointer : goal.returns-in-Pointer
returns-in-Pointer c = grind arith

pub returns-in_default : goal.returns-in_default
returns-in_default c = sym (not_pointer c.args.value.now c.in_default.not-Pointer)
