use Rattle.std.proofs.Common.{◌≡◌, length}
use Rattle.go_grammar.specs.TypeReading.{has_names}
use Rattle.go_fragments.specs.Entries.{entries}
use Rattle.go_fragments.proofs.groups.has_names.Given as goal

abbrev pub invariant-loop-rest : goal.invariant-loop-rest
invariant-loop-rest l = has_names (entries l.rest) ≡ has_names (entries l.list)

abbrev pub decreases-loop-rest : goal.decreases-loop-rest
decreases-loop-rest l = length l.rest
