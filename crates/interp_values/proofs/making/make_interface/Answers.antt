use Rattle.std.proofs.Common.{subst}
use Rattle.go_type.specs.Table.{Table}
use Rattle.go_value.specs.Interfaces.{converted}
use Rattle.interp_state.proofs.Turns.{given_in}
use Rattle.interp_state.specs.Machines.{machine_of}
use Rattle.interp_state.specs.Turns.{IsGiven}
use Rattle.interp_values.proofs.Made.{types_are}
use Rattle.plan_mean.specs.Operands.{with_one}
use Rattle.plan_mean.specs.Step.{acts}
use Rattle.ssa_mean.specs.Comes.{of_result}
use Rattle.interp_values.proofs.making.make_interface.Goals as goal

pub returns : goal.returns
unfolding acts
returns c =
    let m = c.args.machine.now in
    given_in c.args.to c.made_interface-made.result
    (λ w. with_one (machine_of m) c.args.operand.now (λ inner. of_result (converted w.naming.types c.args.of inner)))
    c.give.result m c.give.new.self c.give.ensures
    (λ w within. subst (λ (types : Table). IsGiven c.made_interface-made.result
    (with_one (machine_of m) c.args.operand.now (λ inner. of_result (converted types c.args.of inner))))
    (types_are w m within) c.made_interface-made.ensures)
