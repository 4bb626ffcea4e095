use Rattle.std.proofs.Common.{[]}
use Rattle.code_plan.proofs.Zipped.{zip_more, zip_whole}
use Rattle.code_plan.specs.Plans.{IsPhi}
use Rattle.code_plan.specs.Sites.{site_with}
use Rattle.code_plan.proofs.blocks.Body.phis.Goals as goal

pub loop-instr-preserved : goal.loop-instr-preserved
loop-instr-preserved c =
    zip_more (IsPhi (site_with c.args.self.now [])) c.args.instrs.now c.loop-instr.all.items _
    c.loop-instr.instr-index c.instr-item.result c.in_ok-phi.field-0 c.loop-instr.invariant c.loop-instr-test.true
    c.instr-item.is c.in_ok-phi.ensures c.in_ok-push.ensures.items

pub returns : goal.returns
returns c =
    zip_whole (IsPhi (site_with c.args.self.now [])) c.args.instrs.now _ _ c.loop-instr-test.false c.loop-instr.invariant
