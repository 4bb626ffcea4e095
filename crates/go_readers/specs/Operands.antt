-- Reading operands in parentheses.
use Rattle.std.specs.Prelude.{Some}
use Rattle.go_ast.specs.declared.token.Kind.TheVariants as kinds
use Rattle.go_grammar.specs.Forests as forms
use Rattle.go_grammar.specs.Forests.{empty, node, append}
use Rattle.go_grammar.specs.Reading.{Reader, ◌>>=◌}
use Rattle.go_grammar.specs.Tests.{word_in}
use Rattle.go_grammar.specs.TypeReading.{Parsers, Item}

abbrev pub paren_in : Parsers → Reader
paren_in p tokens = do
  opened ← word_in kinds.OpenParen tokens
  inner ← p.expr Item 1 opened.1
  closed ← word_in kinds.CloseParen inner.1
  Some (node forms.ParenForm (append opened.0 (append inner.0 closed.0)) empty, closed.1)
