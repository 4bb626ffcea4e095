use Rattle.std.proofs.Common.{[], take}
use Rattle.std.specs.List.{AllZip}
use Rattle.code_plan.specs.Plans.{IsPhi}
use Rattle.code_plan.specs.Sites.{site_with}
use Rattle.code_plan.proofs.blocks.Body.phis.Given as goal

abbrev pub invariant-loop-instr : goal.invariant-loop-instr
invariant-loop-instr l =
    AllZip (IsPhi (site_with l.self [])) (take l.instr-index l.instrs) l.all.items
