use Rattle.code_plan.proofs.Zipped.{zip_more, zip_whole}
use Rattle.code_plan.specs.Forms.{IsCase}
use Rattle.code_plan.specs.Sites.{site_of}
use Rattle.code_plan.proofs.operands.Place.cases.Goals as goal

pub loop-case-preserved : goal.loop-case-preserved
loop-case-preserved c =
    zip_more (IsCase (site_of c.args.self.now)) c.args.cases.now c.loop-case.planned.items _ c.loop-case.case-index
    c.case-item.result c.in_ok-case.field-0 c.loop-case.invariant c.loop-case-test.true c.case-item.is
    c.in_ok-case.ensures c.in_ok-push.ensures.items

pub returns : goal.returns
returns c =
    zip_whole (IsCase (site_of c.args.self.now)) c.args.cases.now _ _ c.loop-case-test.false c.loop-case.invariant
