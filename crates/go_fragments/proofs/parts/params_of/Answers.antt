use Rattle.go_grammar.proofs.Views.{view_params_made}
use Rattle.go_fragments.proofs.parts.params_of.Goals as goal

pub returns : goal.returns
returns c = view_params_made (record { «open» = c.args.bracket; params = c.args.params; close = c.args.close })
