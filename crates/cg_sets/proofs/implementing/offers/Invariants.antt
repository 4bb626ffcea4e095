use Rattle.std.proofs.Common.{◌≡◌, false, take}
use Rattle.std.specs.List.{list_any}
use Rattle.go_type.specs.Table.{term_at}
use Rattle.cg_sets.specs.Implementing.{is_named, methods_in}
use Rattle.cg_sets.proofs.implementing.offers.Given as goal

abbrev pub invariant-loop-method : goal.invariant-loop-method
invariant-loop-method l = list_any (is_named l.selector.name l.selector.«package») (take l.method-index (methods_in (term_at l.types l.selector.of))) ≡ false
