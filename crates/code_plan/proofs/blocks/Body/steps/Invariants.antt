use Rattle.std.proofs.Common.{[], take}
use Rattle.code_plan.specs.Sites.{HasRun, site_with}
use Rattle.code_plan.proofs.blocks.Body.steps.Given as goal

abbrev pub invariant-loop-instr : goal.invariant-loop-instr
invariant-loop-instr l = HasRun (site_with l.self []) (take l.instr-index l.instrs) l.run
