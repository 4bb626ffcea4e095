use Rattle.std.proofs.Common.{◌≡◌, false, take}
use Rattle.std.specs.List.{list_any}
use Rattle.cg_sets.specs.Answering.{is_selected}
use Rattle.cg_sets.proofs.placing.entry_of.Given as goal

abbrev pub invariant-loop-entry : goal.invariant-loop-entry
invariant-loop-entry l = list_any (is_selected l.selector) (take l.entry-index l.set) ≡ false
