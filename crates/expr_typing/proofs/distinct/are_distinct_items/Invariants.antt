use Rattle.std.proofs.Common.{◌≡◌, map, take}
use Rattle.expr_typing.proofs.distinct.are_distinct_items.Given as goal

abbrev pub invariant-loop-item : goal.invariant-loop-item
invariant-loop-item l = l.numbers.items ≡ map (λ x. x.index) (take l.item-index l.items)
