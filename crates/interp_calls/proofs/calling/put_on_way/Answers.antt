use Rattle.std.proofs.Common.{refl}
use Rattle.interp_calls.proofs.Calls.{all_on_way}
use Rattle.interp_calls.proofs.calling.put_on_way.Goals as goal

pub returns-clause-read : goal.returns-clause-read
returns-clause-read c =
    all_on_way c.push_args.result c.args.machine.now (record (c.args.machine.now) { waiting = c.clear.new.self })
    c.push_args.new.self c.args.args.now c.push_args.ensures.read c.clear.ensures.items refl

pub returns-clause-others : goal.returns-clause-others
returns-clause-others c = c.push_args.ensures.others
