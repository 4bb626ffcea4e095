-- Lines of a struct type and of an interface type, and types that begin with a token of their own.
use Rattle.go_ast.specs.declared.token.Kind.TheVariants as kinds
use Rattle.go_grammar.specs.Forests as forms
use Rattle.go_grammar.specs.Grammar.{closes_braces}
use Rattle.go_grammar.specs.Reading.{Reader, node_in, then_in, Either, Many, run}
use Rattle.go_grammar.specs.Tests.{word_in, ◌⨟◌, semicolon, end_of_line, not_closed, not_empty}
use Rattle.go_grammar.specs.TypeReading.{Parsers, at_type, field_plan, element_plan, signature_in}

abbrev pub field_line_in : Parsers → Reader
field_line_in p = run (at_type p) (Either not_empty (field_plan ⨟ end_of_line closes_braces) semicolon)

abbrev pub field_lines_in : Parsers → Reader
field_lines_in p =
    run (at_type p)
    (Many (not_closed kinds.CloseBrace) (Either not_empty (field_plan ⨟ end_of_line closes_braces) semicolon))

abbrev pub element_line_in : Parsers → Reader
element_line_in p = run (at_type p) (Either not_empty (element_plan ⨟ end_of_line closes_braces) semicolon)

abbrev pub element_lines_in : Parsers → Reader
element_lines_in p =
    run (at_type p)
    (Many (not_closed kinds.CloseBrace) (Either not_empty (element_plan ⨟ end_of_line closes_braces) semicolon))

abbrev pub paren_type_in : Parsers → Reader
paren_type_in p =
    node_in forms.ParenTypeForm (then_in (word_in kinds.OpenParen) (then_in p.type_expr (word_in kinds.CloseParen)))

abbrev pub pointer_type_in : Parsers → Reader
pointer_type_in p = node_in forms.PointerForm (then_in (word_in kinds.Star) p.type_expr)

abbrev pub function_type_in : Parsers → Reader
function_type_in p = node_in forms.FunctionForm (then_in (word_in kinds.FuncWord) (signature_in p))
