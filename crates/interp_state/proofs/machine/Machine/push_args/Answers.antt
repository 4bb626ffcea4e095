use Rattle.std.proofs.Common.{◌+◌, ◌∙◌, Some, ap, sym, take}
use Rattle.interp_state.proofs.SlotFrames.{item_at}
use Rattle.interp_state.proofs.Arguments.{read_more, all_read, item_more, all_items}
use Rattle.interp_state.specs.Machines.{machine_of}
use Rattle.interp_state.specs.declared.machine.Machine.{Machine}
use Rattle.interp_state.proofs.machine.Machine.push_args.Goals as goal

pub loop-arg-preserved : goal.loop-arg-preserved
loop-arg-preserved c = (
  read_more c.args.self.now c.loop-arg.self (take c.loop-arg.arg-index c.args.args.now)
      (take (c.loop-arg.arg-index + 1) c.args.args.now) c.arg-item.result c.args.self.now.waiting.items
      c.loop-arg.self.waiting.items c.push_arg.new.self.waiting.items (ap machine_of c.loop-arg.invariant.1)
      (item_more c.args.args.now c.loop-arg.arg-index c.arg-item.result
      (item_at c.args.args.now c.loop-arg.arg-index c.arg-item.result c.loop-arg-test.true ∙ ap Some (sym c.arg-item.is))) c.in_ok-push_arg.ensures.read
      c.loop-arg.invariant.0,
  c.push_arg.ensures.others
      ∙ ap (λ (m : Machine). record m { waiting = c.push_arg.new.self.waiting }) c.loop-arg.invariant.1,
)

pub returns-clause-read : goal.returns-clause-read
returns-clause-read c =
    all_read (machine_of c.args.self.now) c.args.args.now (take c.loop-arg.arg-index c.args.args.now)
    c.args.self.now.waiting.items c.loop-arg.self.waiting.items
    (all_items c.args.args.now c.loop-arg.arg-index c.loop-arg-test.false) c.loop-arg.invariant.0
