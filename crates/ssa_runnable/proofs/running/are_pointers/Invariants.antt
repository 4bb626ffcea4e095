use Rattle.std.proofs.Common.{◌≡◌, true, take}
use Rattle.std.specs.List.{list_all}
use Rattle.go_type.specs.Assignable.{underlying_term_of}
use Rattle.go_type.specs.Selector.{is_pointer}
use Rattle.ssa_runnable.proofs.running.are_pointers.Given as goal

abbrev pub invariant-loop-id : goal.invariant-loop-id
invariant-loop-id l = list_all (λ of. is_pointer (underlying_term_of l.types of)) (take l.id-index l.ids) ≡ true
