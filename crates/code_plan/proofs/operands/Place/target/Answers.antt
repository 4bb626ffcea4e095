use Rattle.code_plan.proofs.Leading.{leads_further}
use Rattle.code_plan.specs.Forms.{here}
use Rattle.code_plan.proofs.operands.Place.target.Goals as goal

pub loop-init : goal.loop-init
loop-init c = here c.args.block.number

pub loop-preserved : goal.loop-preserved
loop-preserved c =
    leads_further c.args.self.now.function.now _ c.args.block.number c.loop.at.number c.in-Some.next
    c.as_slice-blocks.ensures c.loop.invariant c.in-Some.ensures
