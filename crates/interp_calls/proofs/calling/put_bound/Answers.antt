use Rattle.std.proofs.Common.{◌∙◌, ap, refl, sym}
use Rattle.interp_calls.proofs.calling.put_bound.Goals as goal
use Rattle.interp_state.specs.Machines.{free_of}
use Rattle.interp_state.specs.States.{slots_of}
use Rattle.plan_mean.specs.Slots.{with_slots_from}

pub returns-in-Nothing-clause-slots : goal.returns-in-Nothing-clause-slots
returns-in-Nothing-clause-slots c =
    sym (ap (λ bound. with_slots_from c.args.first (free_of bound) (slots_of c.args.machine.now)) c.in-Nothing.is)

pub returns-in-Nothing-clause-others : goal.returns-in-Nothing-clause-others
returns-in-Nothing-clause-others c = refl

pub returns-in-Receiver-clause-slots : goal.returns-in-Receiver-clause-slots
returns-in-Receiver-clause-slots c =
    c.set.ensures.slots
    ∙ sym (ap (λ bound. with_slots_from c.args.first (free_of bound) (slots_of c.args.machine.now)) c.in-Receiver.is)

pub returns-in-Receiver-clause-others : goal.returns-in-Receiver-clause-others
returns-in-Receiver-clause-others c = refl

pub returns-in-Captured-clause-others : goal.returns-in-Captured-clause-others
returns-in-Captured-clause-others c = c.put_captured-put.ensures.others
