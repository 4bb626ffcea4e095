use Rattle.std.proofs.Common.{◌≡◌, take}
use Rattle.cg_numbers.specs.Numbered.{Extends}
use Rattle.cg_sets.specs.Classes.{Below, HasMethods}
use Rattle.cg_sets.proofs.ClassMethods.{UpTo}
use Rattle.cg_sets.proofs.classes.Classes.add_methods_of.Given as goal

abbrev pub invariant-loop-entry : goal.invariant-loop-entry
invariant-loop-entry l = record {
  list : l.self.list ≡ l.fn.self.list;
  extends : Extends l.fn.numbers l.numbers;
  methods : HasMethods l.program l.fn.numbers l.fn.self (Below l.class) → HasMethods l.program l.numbers l.self (UpTo l.class (take l.entry-index l.entry-items));
}
