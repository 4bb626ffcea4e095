use Rattle.std.proofs.Common.{arith}
use Rattle.go_grammar.proofs.Views.{view_field_line_embedded}
use Rattle.go_fragments.proofs.Lines.{braces_end}
use Rattle.go_fragments.proofs.groups.embedded_field.Goals as goal

pub returns-in_err-semicolon : goal.returns-in_err-semicolon
returns-in_err-semicolon c = grind (arith, braces_end)

pub returns : goal.returns
returns c = grind (arith, view_field_line_embedded, braces_end)
