use Rattle.std.proofs.Common.{◌≡◌, ◌-◌}
use Rattle.go_ast.specs.declared.token.Kind.TheVariants.{CloseParen}
use Rattle.go_grammar.specs.Reading.{many_in}
use Rattle.go_grammar.specs.Tests.{not_closed}
use Rattle.go_grammar.specs.View.{each, view_import_spec}
use Rattle.go_fragments.proofs.Loops.{behind}
use Rattle.go_parse.specs.FileParts.{import_line_in, import_lines_in}
use Rattle.go_parse.proofs.parser.import_lines.Given as goal

abbrev pub invariant-loop : goal.invariant-loop
invariant-loop l = behind (each view_import_spec l.specs.items) (many_in (not_closed CloseParen) import_line_in (l.end - l.counter) l.rest) ≡ import_lines_in l.tokens
