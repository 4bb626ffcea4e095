use Rattle.go_grammar.proofs.Views.{view_type_spec_made}
use Rattle.go_fragments.proofs.parts.type_spec_of.Goals as goal

pub returns : goal.returns
returns c = view_type_spec_made (record { name = c.args.spec.name; assign = c.args.spec.assign; form = c.args.spec.form; semicolon = c.args.semicolon })
