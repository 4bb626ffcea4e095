use Rattle.std.proofs.Common.{take}
use Rattle.std.specs.List.{AllZip}
use Rattle.cg_sets.specs.Implementing.{IsRequired}
use Rattle.cg_sets.proofs.implementing.required_of.Given as goal

abbrev pub invariant-loop-method : goal.invariant-loop-method
invariant-loop-method l = AllZip (IsRequired l.likeness l.classes) (take l.method-index l.methods) l.required.items
