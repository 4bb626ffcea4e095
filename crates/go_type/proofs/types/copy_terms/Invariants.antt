use Rattle.std.proofs.Common.{◌≡◌, take}
use Rattle.go_type.specs.Table.{same_term}
use Rattle.std.specs.List.{IsDistinct}
use Rattle.go_type.proofs.types.copy_terms.Given as goal

abbrev pub invariant-loop-term : goal.invariant-loop-term
invariant-loop-term l = record { copied : l.copy.keys ≡ take l.term-index l.terms; distinct : IsDistinct same_term l.terms }
