use Rattle.std.proofs.Common.{arith}
use Rattle.go_grammar.proofs.Views.{view_type_expr_name}
use Rattle.go_fragments.proofs.parts.named_type.Goals as goal

pub returns : goal.returns
returns c = grind (arith, view_type_expr_name)
