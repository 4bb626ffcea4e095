use Rattle.std.proofs.Common.{arith}
use Rattle.go_grammar.proofs.Views.{view_stmt_break, view_stmt_continue, view_stmt_fallthrough}
use Rattle.go_fragments.proofs.simples.branch.Goals as goal

pub returns-in-Some : goal.returns-in-Some
returns-in-Some c = grind (arith, view_stmt_break)

pub returns-in-Some-next_if : goal.returns-in-Some-next_if
returns-in-Some-next_if c = grind (arith, view_stmt_continue)

pub returns : goal.returns
returns c = grind (arith, view_stmt_fallthrough)
