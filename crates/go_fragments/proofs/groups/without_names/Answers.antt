use Rattle.std.proofs.Common.{arith}
use Rattle.go_fragments.proofs.Grouping.{types_start, types_go_on, types_end_none, types_end}
use Rattle.go_fragments.proofs.groups.without_names.Goals as goal

pub loop-entry-init : goal.loop-entry-init
loop-entry-init c = grind (arith, types_start)

pub loop-entry-preserved : goal.loop-entry-preserved
loop-entry-preserved c = grind (arith, types_go_on)

pub returns-in_default-without_name-2 : goal.returns-in_default-without_name-2
returns-in_default-without_name-2 c = grind (arith, types_end_none)

pub returns : goal.returns
returns c = grind (arith, types_end)
