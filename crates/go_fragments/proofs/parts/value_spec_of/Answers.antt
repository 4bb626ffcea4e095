use Rattle.go_grammar.proofs.Views.{view_value_spec_made}
use Rattle.go_fragments.proofs.parts.value_spec_of.Goals as goal

pub returns : goal.returns
returns c = view_value_spec_made _
