use Rattle.std.proofs.Common.{◌≡◌, true, take}
use Rattle.typed_trees.specs.Nodes.{are_distinct}
use Rattle.expr_typing.proofs.distinct.are_distinct.Given as goal

abbrev pub invariant-loop-number : goal.invariant-loop-number
invariant-loop-number l = record {
  keys : l.given.keys ≡ take l.number-index l.numbers;
  distinct : are_distinct (take l.number-index l.numbers) ≡ true;
}
