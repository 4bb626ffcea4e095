use Rattle.std.proofs.Common.{[], subst}
use Rattle.std.specs.List.{AllZip}
use Rattle.code_plan.proofs.Zipped.{zip_more, zip_whole}
use Rattle.code_plan.specs.Plans.{IsBlock}
use Rattle.code_plan.specs.Registers.{Site}
use Rattle.code_plan.specs.Sites.{site_with}
use Rattle.code_plan.specs.declared.steps.PlannedBlock.{PlannedBlock}
use Rattle.ssa_ir.specs.declared.code.Block.{Block}
use Rattle.code_plan.proofs.blocks.Body.blocks.Goals as goal

abbrev planned : Site → Block → PlannedBlock → Type 0
planned s = IsBlock s.code s.function s.marks

pub loop-block-preserved : goal.loop-block-preserved
loop-block-preserved c =
    zip_more (planned (site_with c.args.self.now [])) c.as_slice-block-items.result.now c.loop-block.all.items _
    c.loop-block.block-index c.block-item.result c.in_ok-block.field-0 c.loop-block.invariant c.loop-block-test.true
    c.block-item.is c.in_ok-block.ensures c.in_ok-push.ensures.items

pub returns : goal.returns
returns c =
    subst (λ l. AllZip (planned (site_with c.args.self.now [])) l c.loop-block.all.items) c.as_slice-block-items.ensures
    (zip_whole (planned (site_with c.args.self.now [])) c.as_slice-block-items.result.now _ _ c.loop-block-test.false
    c.loop-block.invariant)
