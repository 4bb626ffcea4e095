use Rattle.std.proofs.Common.{refl}
use Rattle.interp_calls.proofs.Frames.{result_given}
use Rattle.interp_calls.proofs.calling.give_result.Goals as goal

pub returns-in-Some-Some-clause-given : goal.returns-in-Some-Some-clause-given
returns-in-Some-Some-clause-given c =
    result_given c.args.to c.args.value c.in-Some-Some.to c.in-Some-Some.value c.args.machine.now
    (record (c.args.machine.now) { current = record (c.args.machine.now.current) { stack = c.set.new.self } })
    c.in-Some-Some.is-0 c.in-Some-Some.is-1 refl c.set.ensures.slots

pub returns-in-Some-Some-clause-others : goal.returns-in-Some-Some-clause-others
returns-in-Some-Some-clause-others c = refl

pub returns-in_default-clause-others : goal.returns-in_default-clause-others
returns-in_default-clause-others c = refl
