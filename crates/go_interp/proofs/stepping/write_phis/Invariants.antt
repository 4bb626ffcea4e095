use Rattle.std.proofs.Common.{◌≡◌, length}
use Rattle.go_interp.proofs.Phis.{LeadsOn}
use Rattle.go_interp.proofs.stepping.write_phis.Given as goal

-- what is left to be written leads to what is to be written
abbrev pub invariant-loop-phi : goal.invariant-loop-phi
invariant-loop-phi l =
    (length l.fn.phis ≡ length l.fn.machine.waiting.items → LeadsOn l.left l.machine l.fn.phis l.fn.machine)
    × (l.machine ≡ record (l.fn.machine) {
      current = record (l.fn.machine.current) { stack = l.machine.current.stack };
      waiting = l.machine.waiting;
    })

abbrev pub decreases-loop-phi : goal.decreases-loop-phi
decreases-loop-phi l = length l.left
