use Rattle.std.proofs.Common.{◌≡◌, drop}
use Rattle.code_plan.specs.Registers.{late_at, late_from}
use Rattle.code_plan.specs.Sites.{pending_of}
use Rattle.code_plan.proofs.operands.Place.pending_cell.Given as goal

abbrev pub invariant-loop-load : goal.invariant-loop-load
invariant-loop-load l =
    late_from l.found (pending_of (drop l.load-index l.load-items)) l.register
    ≡ late_at (pending_of l.self.pending.now) l.register
