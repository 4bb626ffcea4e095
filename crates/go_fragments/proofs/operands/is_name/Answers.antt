use Rattle.std.proofs.Common.{sym}
use Rattle.go_fragments.proofs.Variants.{not_name}
use Rattle.go_fragments.proofs.operands.is_name.Goals as goal

pub returns-in_default : goal.returns-in_default
returns-in_default c = sym (not_name c.args.expr.now c.in_default.not-Name)
