use Rattle.go_grammar.proofs.Views.{view_func_decl_made}
use Rattle.go_fragments.proofs.parts.func_of.Goals as goal

pub returns : goal.returns
returns c = view_func_decl_made _
