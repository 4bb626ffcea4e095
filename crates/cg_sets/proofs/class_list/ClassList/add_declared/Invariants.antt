use Rattle.std.proofs.Common.{take}
use Rattle.cg_sets.specs.ClassLists.{AddsBases, IsDeclaredBase}
use Rattle.cg_sets.proofs.class_list.ClassList.add_declared.Given as goal

abbrev pub invariant-loop-declared : goal.invariant-loop-declared
invariant-loop-declared l = AddsBases l.fn.numbers l.numbers l.fn.self l.self (IsDeclaredBase (take l.declared-index l.declared-items) l.program l.fn.numbers.likeness.types l.fn.numbers.likeness.bares)
