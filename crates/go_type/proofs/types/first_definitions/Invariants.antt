use Rattle.std.proofs.Common.{◌≡◌, ◌∷◌, []}
use Rattle.std.specs.List.{repeat}
use Rattle.go_type.specs.Table.{no_definition}
use Rattle.go_type.proofs.types.first_definitions.Given as goal

abbrev pub invariant-loop : goal.invariant-loop
invariant-loop l = l.definitions.items ≡ repeat l.counter (no_definition ∷ [])
