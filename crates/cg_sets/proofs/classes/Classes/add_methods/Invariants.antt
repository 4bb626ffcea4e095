use Rattle.std.proofs.Common.{◌≡◌}
use Rattle.cg_numbers.specs.Numbered.{Extends}
use Rattle.cg_sets.specs.Classes.{Below, HasMethods}
use Rattle.cg_sets.proofs.classes.Classes.add_methods.Given as goal

abbrev pub invariant-loop-class : goal.invariant-loop-class
invariant-loop-class l = record {
  list : l.self.list ≡ l.fn.self.list;
  extends : Extends l.fn.numbers l.numbers;
  methods : HasMethods l.program l.fn.numbers l.fn.self (Below 0) → HasMethods l.program l.numbers l.self (Below l.class);
}
