use Rattle.go_grammar.proofs.Views.{view_signature_made}
use Rattle.go_fragments.proofs.parts.signature_of.Goals as goal

pub returns : goal.returns
returns c = view_signature_made _
