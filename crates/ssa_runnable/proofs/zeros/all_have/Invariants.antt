use Rattle.std.proofs.Common.{◌≡◌, true, take}
use Rattle.std.specs.List.{list_all}
use Rattle.ssa_runnable.specs.Zeros.{zero_at}
use Rattle.ssa_runnable.proofs.zeros.all_have.Given as goal

abbrev pub invariant-loop-id : goal.invariant-loop-id
invariant-loop-id l = list_all (zero_at l.known) (take l.id-index l.ids) ≡ true
