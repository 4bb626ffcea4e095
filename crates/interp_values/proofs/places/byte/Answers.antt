use Rattle.std.proofs.Common.{Err, rules}
use Rattle.std.specs.Int.{w128}
use Rattle.std.specs.Int.RustNames.{FitsSigned}
use Rattle.go_value.specs.Values.{number}
use Rattle.interp_state.proofs.Turns.{given}
use Rattle.interp_state.specs.Machines.{machine_of}
use Rattle.interp_values.proofs.Stepped.{met_as, sets_number}
use Rattle.plan_mean.specs.Operands.{with_two}
use Rattle.plan_mean.specs.Step.{acts}
use Rattle.ssa_mean.specs.Places.{index_of}
use Rattle.interp_values.proofs.places.byte.Goals as goal

pub returns-in-Ok : goal.returns-in-Ok
unfolding acts
returns-in-Ok c =
    let fits : FitsSigned w128 c.in-Ok.byte = search rules in
    sets_number c.set_int.result c.args.to c.in-Ok.byte c.args.machine.now c.set_int.new.self
    (with_two (machine_of c.args.machine.now) c.args.operand.now c.args.index.now index_of)
    fits c.set_int.ensures.goes c.set_int.ensures.wrote c.in-Ok.ensures

pub returns-in-Err : goal.returns-in-Err
unfolding acts
returns-in-Err c =
    given c.args.to (Err c.in-Err.met)
    (with_two (machine_of c.args.machine.now) c.args.operand.now c.args.index.now index_of)
    c.meet.result c.args.machine.now c.meet.new.self c.meet.ensures
    (met_as number c.in-Err.met (with_two (machine_of c.args.machine.now) c.args.operand.now c.args.index.now index_of)
    c.in-Err.ensures)
