use Rattle.std.proofs.Common.{arith}
use Rattle.go_fragments.proofs.Grouping.{name_by_parts}
use Rattle.go_fragments.proofs.groups.name_read_as_type.Goals as goal

pub returns-in-None-Some-Some : goal.returns-in-None-Some-Some
returns-in-None-Some-Some c = grind (arith, name_by_parts)

pub returns-in_default : goal.returns-in_default
returns-in_default c = grind (arith, name_by_parts)

pub returns-in_default-2 : goal.returns-in_default-2
returns-in_default-2 c = grind (arith, name_by_parts)

pub returns-in_default-3 : goal.returns-in_default-3
returns-in_default-3 c = grind (arith, name_by_parts)
