use Rattle.std.proofs.Common.{◌≡◌, ◌-◌}
use Rattle.go_ast.specs.declared.token.Kind.TheVariants.{Comma, Name}
use Rattle.go_grammar.specs.Forests.{append}
use Rattle.go_grammar.specs.Reading.{many_in, then_in}
use Rattle.go_grammar.specs.Tests.{begins, word_in}
use Rattle.go_grammar.specs.View.{each, one, view_listed_name}
use Rattle.go_fragments.specs.Words.{names_in}
use Rattle.go_fragments.proofs.Loops.{behind}
use Rattle.go_fragments.proofs.tokens.names.Given as goal

abbrev pub invariant-loop : goal.invariant-loop
invariant-loop l = behind (append (each view_listed_name l.names.items) (one l.name)) (many_in (begins Comma) (then_in (word_in Comma) (word_in Name)) (l.end - l.counter) l.rest) ≡ names_in l.tokens
