-- Lines of a struct type without names of their own.
use Rattle.go_ast.specs.declared.token.Kind.TheVariants as kinds
use Rattle.go_grammar.specs.Forests as forms
use Rattle.go_grammar.specs.Grammar as sorts
use Rattle.go_grammar.specs.Grammar.{closes_braces}
use Rattle.go_grammar.specs.Reading.{Reader, Node, Part, run}
use Rattle.go_grammar.specs.Tests.{◌⨟◌, maybe_word, end_of_line}
use Rattle.go_grammar.specs.TypeReading.{Parsers, at_type}

-- `T` or `*T` as a field, and the semicolon behind it
abbrev pub embedded_line_in : Parsers → Reader
embedded_line_in p =
    run (at_type p)
    (Node forms.EmbeddedFieldForm (maybe_word kinds.Star ⨟ Part sorts.TypeName ⨟ maybe_word kinds.Text) ⨟ end_of_line
    closes_braces)
