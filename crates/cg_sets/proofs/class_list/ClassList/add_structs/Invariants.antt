use Rattle.cg_sets.specs.ClassLists.{AddsBases, IsStructBase}
use Rattle.cg_sets.proofs.class_list.ClassList.add_structs.Given as goal

abbrev pub invariant-loop-number : goal.invariant-loop-number
invariant-loop-number l = AddsBases l.fn.numbers l.numbers l.fn.self l.self (IsStructBase l.number l.fn.numbers.likeness.types l.fn.numbers.likeness.bares)
