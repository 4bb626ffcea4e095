use Rattle.std.proofs.Common.{sym, ◌∙◌}
use Rattle.ssa_runnable.specs.Runnable.{has_meaning}
use Rattle.ssa_runnable.proofs.Lists.{cases_fail, cases_pass}
use Rattle.ssa_runnable.proofs.sites.Site.cases.Goals as goal

pub returns-then-not-case : goal.returns-then-not-case
returns-then-not-case c =
    sym (cases_fail (has_meaning c.args.self.now.code.now) c.args.cases.now c.loop-case.case-index c.case-item.result
    c.loop-case-test.true c.case-item.is (sym c.case.ensures ∙ c.if-not-case.true))

pub returns : goal.returns
returns c =
    sym (cases_pass (has_meaning c.args.self.now.code.now) c.args.cases.now c.loop-case.case-index
    c.loop-case-test.false c.loop-case.invariant)
