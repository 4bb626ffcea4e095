use Rattle.go_grammar.proofs.Views.{view_param_made}
use Rattle.go_fragments.proofs.groups.param_of.Goals as goal

pub returns : goal.returns
returns c = view_param_made (record { names = c.args.names; ellipsis = c.args.entry.ellipsis; form = c.args.entry.form; comma = c.args.entry.comma })
