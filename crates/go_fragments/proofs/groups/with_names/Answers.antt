use Rattle.std.proofs.Common.{arith}
use Rattle.go_fragments.proofs.Grouping.{groups_start, groups_go_on, groups_end_fails, groups_end}
use Rattle.go_fragments.proofs.groups.with_names.Goals as goal

pub loop-entry-init : goal.loop-entry-init
loop-entry-init c = grind (arith, groups_start)

pub loop-entry-preserved : goal.loop-entry-preserved
loop-entry-preserved c = grind (arith, groups_go_on)

pub returns-in_err-whole : goal.returns-in_err-whole
returns-in_err-whole c = grind (arith, groups_end_fails)

pub returns : goal.returns
returns c = grind (arith, groups_end)

pub returns-in_default-closed : goal.returns-in_default-closed
returns-in_default-closed c = grind (arith, groups_end)
