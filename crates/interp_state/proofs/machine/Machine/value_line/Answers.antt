use Rattle.interp_state.proofs.Panics.{line_told}
use Rattle.interp_state.proofs.machine.Machine.value_line.Goals as goal

pub returns-in_ok-text-in-Interface : goal.returns-in_ok-text-in-Interface
returns-in_ok-text-in-Interface c =
    line_told c.shown.result c.args.self.now c.args.value.now c.in-Interface.dynamic c.deref.result.now
    c.in_ok-text-in-Interface.text c.as_slice.result.now c.in-Interface.is c.deref.ensures c.in_ok-text-in-Interface.ensures
    c.as_slice.ensures c.shown.ensures
