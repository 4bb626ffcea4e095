-- What the readers of files give, beside what is read part after part.
use Rattle.std.specs.Prelude.{◌≡◌, ℕ, ◌-◌, List, length, Option, Some, None, Result, Ok, Err}
use Rattle.go_ast.specs.declared.token.Kind.TheVariants as kinds
use Rattle.go_ast.specs.declared.token.Token.{Token}
use Rattle.go_grammar.specs.Forests.{Forest, empty}
use Rattle.go_grammar.specs.Grammar as sorts
use Rattle.go_grammar.specs.Grammar.{Sort, closes_parens, is_semicolon}
use Rattle.go_grammar.specs.Reading.{Reader, Part, Many, run, sign_in, then_in}
use Rattle.go_grammar.specs.Tests.{begins, ◌⨟◌, word, maybe_word, end_of_line, not_closed}
use Rattle.go_grammar.specs.TypeReading.{Parsers}
use Rattle.go_grammar.specs.StmtReading.{at_import, import_plan, is_more}
use Rattle.go_grammar.specs.PartReading.{package_clause_plan, part_in, parts_in, and_then}
use Rattle.go_grammar.specs.View.{one, ◌⊕◌}
use Rattle.go_parse.specs.declared.parser.PackageClause.{PackageClause}
use Rattle.parse_answer.specs.declared.error.ParseError.{ParseError}
use Rattle.parse_answer.specs.declared.error.ParseError.TheVariants as errors

-- of so many tokens, where the part begins behind which so many are left
abbrev pub at_index : {A : Type 0} → ℕ → Result A ℕ → Result A ℕ
at_index all (Ok x) = Ok x
at_index all (Err left) = Err (all - left)

-- what is answered where reading stops
abbrev pub IsStopped : {Y : Type 0} → ℕ → ParseError → Result Y ℕ → Type 0
IsStopped all (errors.TooDeep index) read = ⊥
IsStopped all (errors.Unexpected index) read = at_index all read ≡ Err index
IsStopped all errors.OutOfMemory read = Unit {0}

-- What was returned, seen by view, is what is read of so many tokens, unless memory ran out.
abbrev pub GivesParts : {X Y : Type 0} → ℕ → (X → Y) → Result X ParseError → Result Y ℕ → Type 0
GivesParts all view (Ok x) read = at_index all read ≡ Ok (view x)
GivesParts all view (Err error) read = IsStopped all error read

abbrev pub view_clause : PackageClause → Forest
view_clause x = one x.word ⊕ one x.name ⊕ one x.semicolon

abbrev pub clause_in : Reader
clause_in = run (λ (sort : Sort) tokens. None) package_clause_plan

-- the path of an import, with its name where it has one
abbrev pub path_in : Reader
path_in = run (λ (sort : Sort) tokens. None) (maybe_word kinds.Name ⨟ word kinds.Text)

-- an import in parentheses, and the semicolon behind it
abbrev pub import_line_in : Reader
import_line_in = run at_import (Part sorts.ImportSpec ⨟ end_of_line closes_parens)

-- an import without parentheses
abbrev pub import_alone_in : Reader
import_alone_in = run at_import (Part sorts.ImportSpec)

abbrev pub import_lines_in : Reader
import_lines_in = run at_import (Many (not_closed kinds.CloseParen) (Part sorts.ImportSpec ⨟ end_of_line closes_parens))

-- an import declaration, and the semicolon behind it
abbrev pub import_in : Reader
import_in = then_in (run at_import import_plan) (sign_in is_semicolon)

abbrev pub decl_line_in : Parsers → Reader
decl_line_in p = part_in p sorts.PackageDecl

abbrev pub imports_in : ℕ → List Token → Result (Forest × List Token) ℕ
imports_in all rest = parts_in (begins kinds.ImportWord) import_in all empty rest

abbrev pub decls_in : Parsers → ℕ → List Token → Result Forest ℕ
decls_in p all rest = and_then (parts_in is_more (decl_line_in p) all empty rest) (λ decls. Ok decls.0)
