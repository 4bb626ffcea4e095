use Rattle.std.proofs.Common.{◌≡◌, ◌-◌}
use Rattle.go_ast.specs.declared.token.Kind.TheVariants.{Colon, Name}
use Rattle.go_grammar.specs.Reading.{many_in}
use Rattle.go_grammar.specs.Tests.{begins_both}
use Rattle.go_grammar.specs.View.{each, view_label}
use Rattle.go_fragments.specs.Statements.{label_in, labels_in}
use Rattle.go_fragments.proofs.Loops.{behind}
use Rattle.go_fragments.proofs.simples.labels.Given as goal

abbrev pub invariant-loop : goal.invariant-loop
invariant-loop l = behind (each view_label l.labels.items) (many_in (begins_both Name Colon) label_in (l.end - l.counter) l.rest) ≡ labels_in l.tokens
