use Rattle.std.proofs.Common.{◌≡◌}
use Rattle.cg_numbers.specs.Numbered.{Extends}
use Rattle.cg_vta.proofs.Choices.{BoundBelow}
use Rattle.cg_vta.proofs.called.bound_groups.Given as goal

abbrev pub invariant-loop-number : goal.invariant-loop-number
invariant-loop-number l = record {
  extends : Extends l.fn.numbers l.numbers;
  values : l.numbers.values ≡ l.fn.numbers.values;
  bound : BoundBelow l.numbers l.fn.numbers.values.keys l.number l.groups.items;
}
