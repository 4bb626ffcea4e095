use Rattle.std.proofs.Common.{sym}
use Rattle.go_fragments.proofs.Variants.{no_local_name}
use Rattle.go_fragments.proofs.groups.local_name.Goals as goal

pub returns-in_default : goal.returns-in_default
returns-in_default c = sym (no_local_name c.args.form.now c.in_default.not-Name)
