use Rattle.std.proofs.Common.{arith}
use Rattle.go_fragments.proofs.Grouping.{a_name_left}
use Rattle.go_fragments.proofs.groups.has_no_name.Goals as goal

pub returns-in-len1-up : goal.returns-in-len1-up
returns-in-len1-up c = a_name_left c.args.names.now (omega arith)
