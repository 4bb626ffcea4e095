use Rattle.std.proofs.Common.{◌≡◌, true, take}
use Rattle.std.specs.List.{list_all}
use Rattle.ssa_print.specs.Codes.{is_own}
use Rattle.ssa_print.proofs.printing.count_own.Given as goal

abbrev pub invariant-loop-index : goal.invariant-loop-index
invariant-loop-index l = list_all (λ f. is_own f.kind) (take l.index l.functions) ≡ true
