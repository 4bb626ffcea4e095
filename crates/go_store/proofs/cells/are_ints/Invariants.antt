use Rattle.std.proofs.Common.{ℕ, ◌<◌, slice_index_or}
use Rattle.go_store.specs.Cells.{IsPlain}
use Rattle.go_value.specs.Values.{Field}
use Rattle.go_store.proofs.cells.are_ints.Given as goal

abbrev pub invariant-loop-part : goal.invariant-loop-part
invariant-loop-part l = (k : ℕ) (d : Field) → k < l.part-index → IsPlain (slice_index_or l.parts k d)
