-- What a declaration of constants, types or variables declares.
use Rattle.std.specs.Prelude.{Bool, true, false, Some, List, Option}
use Rattle.go_grammar.specs.View.{each, token_if}
use Rattle.go_ast.specs.declared.token.Kind.{Kind}
use Rattle.go_ast.specs.declared.token.Kind.TheVariants as kinds
use Rattle.go_ast.specs.declared.token.Token.{Token}
use Rattle.go_grammar.specs.Forests.{Form, Forest, append, empty}
use Rattle.go_grammar.specs.Grammar as sorts
use Rattle.go_grammar.specs.Grammar.{Sort, closes_parens}
use Rattle.go_grammar.specs.Reading.{Reader, Part, Many, run, node_in, then_in, either_in}
use Rattle.go_grammar.specs.Tests.{◌⨟◌, word, maybe, begins, end_of_line, not_closed, group_of, word_in}
use Rattle.go_grammar.specs.TypeReading.{Parsers}
use Rattle.go_grammar.specs.ExprReading.{block_in}
use Rattle.go_grammar.specs.StmtReading.{at_part, at_spec, exprs, receiver_plan}

abbrev pub value_sort : Bool → Sort
value_sort true = sorts.ConstSpec
value_sort false = sorts.VarSpec

abbrev pub spec_line_in : Parsers → Sort → Reader
spec_line_in p sort = run (at_spec p) (Part sort ⨟ end_of_line closes_parens)

abbrev pub spec_lines_in : Parsers → Sort → Reader
spec_lines_in p sort = run (at_spec p) (Many (not_closed kinds.CloseParen) (Part sort ⨟ end_of_line closes_parens))

abbrev pub group_in : Parsers → Sort → Reader
group_in p sort = run (at_spec p) (group_of (Part sort))

-- any number of specifications in parentheses
abbrev pub parens_in : Parsers → Sort → Reader
parens_in p sort = then_in (word_in kinds.OpenParen) (then_in (spec_lines_in p sort) (word_in kinds.CloseParen))

-- a word, and what it declares
abbrev pub declaration_in : Parsers → Form → Kind → Sort → Reader
declaration_in p form kind sort = node_in form (then_in (word_in kind) (group_in p sort))

-- specifications with the parentheses around them
abbrev pub view_group : {A : Type 0} → (A → Forest) → Option Token → List A → Option Token → Forest
view_group view opening specs closing = append (token_if opening) (append (each view specs) (token_if closing))

-- `=` and values, or nothing
abbrev pub optional_values_in : Parsers → Reader
optional_values_in p = run (at_part p) (maybe (begins kinds.Assign) (word kinds.Assign ⨟ exprs sorts.Plain))

-- ---- functions and methods

abbrev pub receiver_in : Parsers → Reader
receiver_in p = run (at_part p) receiver_plan

abbrev pub optional_receiver_in : Parsers → Reader
optional_receiver_in p = either_in (begins kinds.OpenParen) (receiver_in p) (λ tokens. Some (empty, tokens))

abbrev pub optional_body_in : Parsers → Reader
optional_body_in p = either_in (begins kinds.OpenBrace) (block_in p) (λ tokens. Some (empty, tokens))
