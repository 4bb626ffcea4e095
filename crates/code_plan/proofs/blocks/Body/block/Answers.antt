use Rattle.code_plan.proofs.Fronts.{block_by}
use Rattle.code_plan.proofs.blocks.Body.block.Goals as goal

pub returns : goal.returns
returns c =
    block_by c.args.self.now c.args.block.now c.as_slice-instrs.result.now c.phis_first-front.result
    (record { phis = c.in_ok-phis.field-0; steps = c.in_ok-steps.field-0 }) c.as_slice-instrs.ensures
    c.phis_first-front.ensures.value c.in_ok-phis.ensures c.in_ok-steps.ensures
