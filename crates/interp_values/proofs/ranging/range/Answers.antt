use Rattle.go_store.specs.Stores.{stored}
use Rattle.interp_state.proofs.Turns.{given}
use Rattle.interp_state.specs.Machines.{machine_of}
use Rattle.plan_mean.specs.Operands.{with_one}
use Rattle.plan_mean.specs.Step.{acts}
use Rattle.ssa_mean.specs.Comes.{of_option}
use Rattle.ssa_mean.specs.Ranges.{range_of}
use Rattle.interp_values.proofs.ranging.range.Goals as goal

pub returns : goal.returns
unfolding acts
returns c =
    let m = c.args.machine.now in
    given c.args.to c.range_state-state.result (with_one (machine_of m) c.args.operand.now
    (λ it. of_option (range_of (stored m.store) it)))
    c.give.result m c.give.new.self c.give.ensures c.range_state-state.ensures
