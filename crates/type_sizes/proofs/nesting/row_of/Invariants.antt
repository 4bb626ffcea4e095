use Rattle.std.proofs.Common.{take}
use Rattle.type_sizes.specs.Nesting.{IsRow}
use Rattle.type_sizes.proofs.nesting.row_of.Given as goal

abbrev pub invariant-loop-part : goal.invariant-loop-part
invariant-loop-part l = IsRow (take l.part-index l.parts) l.fn.reached.keys l.reached.keys l.row.items
