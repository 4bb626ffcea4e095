-- Lists of expressions, and operands behind operators.
use Rattle.std.specs.Prelude.{◌+◌, Some}
use Rattle.go_ast.specs.declared.token.Token.{Token}
use Rattle.go_grammar.specs.Forests as forms
use Rattle.go_grammar.specs.Forests.{Forest, empty, leaf, node, append}
use Rattle.go_grammar.specs.Grammar as sorts
use Rattle.go_grammar.specs.Grammar.{precedence}
use Rattle.go_grammar.specs.ExprReading.{of_operand}
use Rattle.go_grammar.specs.Reading.{Reader, Part, run, ◌>>=◌}
use Rattle.go_grammar.specs.Tests.{list_of}
use Rattle.go_grammar.specs.TypeReading.{Place, Parsers}

abbrev pub at_list : Parsers → Place → sorts.Sort → Reader
at_list p place sort = p.expr place 1

abbrev pub list_in : Parsers → Place → Reader
list_in p place = run (at_list p place) (list_of (Part sorts.Item))

-- what is read behind an operator, with the operand before it
abbrev pub operation_in : Parsers → Place → Forest → Token → Reader
operation_in p place left operator tokens =
    p.expr (of_operand place) (precedence operator.kind + 1) tokens >>= λ right. Some
    (node forms.BinaryForm (append left (leaf operator right.0)) empty, right.1)
