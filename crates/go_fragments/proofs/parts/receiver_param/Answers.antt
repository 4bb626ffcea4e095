use Rattle.std.proofs.Common.{None}
use Rattle.go_grammar.proofs.Views.{view_param_made}
use Rattle.go_fragments.proofs.parts.receiver_param.Goals as goal

pub returns : goal.returns
returns c = view_param_made (record { names = c.args.names; ellipsis = None; form = c.args.form; comma = c.args.comma })
