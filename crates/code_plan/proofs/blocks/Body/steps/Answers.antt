use Rattle.std.proofs.Common.{[]}
use Rattle.code_plan.proofs.Going.{first_run, more_run, whole_run}
use Rattle.code_plan.specs.Sites.{site_with}
use Rattle.code_plan.proofs.blocks.Body.steps.Goals as goal

pub loop-instr-init : goal.loop-instr-init
loop-instr-init c =
    first_run (site_with c.args.self.now []) (record { steps = c.new.result; pending = c.new-2.result })
    c.args.instrs.now c.new.ensures.items c.new-2.ensures.items

pub loop-instr-preserved : goal.loop-instr-preserved
loop-instr-preserved c =
    more_run (site_with c.args.self.now []) c.loop-instr.run c.turn.new.run c.args.instrs.now c.loop-instr.instr-index
    c.instr-item.result c.loop-instr-test.true c.instr-item.is c.loop-instr.invariant c.in_ok-turn.ensures

pub returns : goal.returns
returns c =
    whole_run (site_with c.args.self.now []) c.loop-instr.run c.args.instrs.now c.loop-instr.instr-index
    c.loop-instr-test.false c.loop-instr.invariant
