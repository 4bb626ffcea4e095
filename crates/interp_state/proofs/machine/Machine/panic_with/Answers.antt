use Rattle.interp_state.proofs.Panics.{panics_nil, panics_dynamic}
use Rattle.interp_state.proofs.machine.Machine.panic_with.Goals as goal

pub returns-in-NilInterface : goal.returns-in-NilInterface
returns-in-NilInterface c =
    panics_nil c.meet.result c.args.self.now c.meet.new.self c.args.value c.in-NilInterface.is c.meet.ensures

pub returns-in-Interface : goal.returns-in-Interface
returns-in-Interface c =
    panics_dynamic c.throw.result c.args.self.now c.throw.new.self c.args.value _ c.in-Interface.is c.throw.ensures
