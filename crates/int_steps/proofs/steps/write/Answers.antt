use Rattle.go_value.specs.Values.{value_of}
use Rattle.int_steps.proofs.Held.{written}
use Rattle.int_steps.proofs.steps.write.Goals as goal

pub returns-in-Some-clause-slots : goal.returns-in-Some-clause-slots
returns-in-Some-clause-slots c =
    written c.args.regs.now c.set.new.self c.args.function.now c.args.register c.in-Some.register c.register_slot.result
    (value_of c.args.value) c.in-Some.is c.register_slot.ensures c.set.ensures.slots
