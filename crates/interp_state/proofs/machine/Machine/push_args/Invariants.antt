use Rattle.std.proofs.Common.{◌≡◌, take}
use Rattle.interp_state.proofs.Arguments.{AreRead}
use Rattle.interp_state.specs.Machines.{machine_of}
use Rattle.interp_state.proofs.machine.Machine.push_args.Given as goal

-- the operands so far were read, and nothing else changed
abbrev pub invariant-loop-arg : goal.invariant-loop-arg
invariant-loop-arg l =
    AreRead (machine_of l.fn.self) (take l.arg-index l.args) l.fn.self.waiting.items l.self.waiting.items
    × (l.self ≡ record (l.fn.self) { waiting = l.self.waiting })
