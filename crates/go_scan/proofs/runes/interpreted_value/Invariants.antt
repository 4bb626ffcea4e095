use Rattle.std.proofs.Common.{length, drop, ◌-◌, ◌≡◌, ◌++◌, ◌≤◌}
use Rattle.std.specs.Prelude.{flat_map}
use Rattle.go_ast.specs.Literals.{item, item_rests}
use Rattle.go_scan.proofs.RestLaws.{string_bytes_of}
use Rattle.go_scan.proofs.runes.interpreted_value.Given as goal

abbrev pub invariant-loop-at : goal.invariant-loop-at
invariant-loop-at l = record {
  within : l.at ≤ length l.inner;
  whole : flat_map string_bytes_of (item_rests (item 34) l.inner) ≡ l.value.items ++ flat_map string_bytes_of (item_rests (item 34) (drop l.at l.inner));
}

abbrev pub decreases-loop-at : goal.decreases-loop-at
decreases-loop-at l = length l.inner - l.at
