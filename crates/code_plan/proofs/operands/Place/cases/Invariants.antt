use Rattle.std.proofs.Common.{take}
use Rattle.std.specs.List.{AllZip}
use Rattle.code_plan.specs.Forms.{IsCase}
use Rattle.code_plan.specs.Sites.{site_of}
use Rattle.code_plan.proofs.operands.Place.cases.Given as goal

abbrev pub invariant-loop-case : goal.invariant-loop-case
invariant-loop-case l = AllZip (IsCase (site_of l.self)) (take l.case-index l.cases) l.planned.items
