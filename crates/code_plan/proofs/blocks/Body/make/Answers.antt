use Rattle.code_plan.proofs.Going.{made_more}
use Rattle.code_plan.proofs.blocks.Body.make.Goals as goal

pub returns : goal.returns
returns c =
    λ instrs h. made_more c.args.self.now c.args.instr.now c.in_ok-step.step c.waits.result c.may_write.result
    c.args.run.now.pending.items c.clear_where.new.pending.items _ c.clear_where-2.new.pending.items
    c.args.run.now.steps.items c.push.new.self.items instrs c.waits.ensures c.clear_where.ensures
    c.as_slice.ensures.value c.in_ok-step.ensures c.may_write.ensures c.clear_where-2.ensures
    c.in_ok-push.ensures.items h
