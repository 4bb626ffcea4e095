-- Reading a file part after part: the package clause, imports while `import` stands there, and declarations up to the
-- end.
use Rattle.std.specs.Prelude.{ℕ, zero, suc, List, length, Option, Some, None, Result, Ok, Err, Bool, if◌then◌else◌}
use Rattle.go_ast.specs.declared.token.Kind.TheVariants as kinds
use Rattle.go_ast.specs.declared.token.Token.{Token}
use Rattle.go_grammar.specs.Forests as forms
use Rattle.go_grammar.specs.Forests.{Forest, empty, node, append}
use Rattle.go_grammar.specs.Grammar as sorts
use Rattle.go_grammar.specs.Grammar.{Sort}
use Rattle.go_grammar.specs.Reading.{Reader, Plan, Part, run}
use Rattle.go_grammar.specs.Tests.{begins, ◌⨟◌, word, semicolon}
use Rattle.go_grammar.specs.TypeReading.{Parsers}
use Rattle.go_grammar.specs.StmtReading.{at_file, is_more}

abbrev pub package_clause_plan : Plan Sort
package_clause_plan = word kinds.PackageWord ⨟ word kinds.Name ⨟ semicolon

-- an import or a declaration, with the semicolon behind it
abbrev pub part_in : Parsers → Sort → Reader
part_in p sort = run (at_file p) (Part sort ⨟ semicolon)

-- goes on with what was read, and else says how many tokens were left
abbrev pub or_stop : {A B : Type 0} → Option A → ℕ → (A → Result B ℕ) → Result B ℕ
or_stop None left go_on = Err left
or_stop (Some x) left go_on = go_on x

abbrev pub and_then : {A B : Type 0} → Result A ℕ → (A → Result B ℕ) → Result B ℕ
and_then (Ok x) go_on = go_on x
and_then (Err left) go_on = Err left

-- At most n parts behind a front, as long as the tokens pass a test: the trees, and what is left; or how many tokens
-- are left where a part cannot be read.
abbrev pub parts_in : (List Token → Bool) → Reader → ℕ → Forest → List Token → Result (Forest × List Token) ℕ
parts_in test part zero front tokens = Ok (front, tokens)
parts_in test part (suc n) front tokens =
    if test tokens then or_stop (part tokens) (length tokens) (λ x. parts_in test part n (append front x.0) x.1)
    else Ok (front, tokens)

-- the tree of a file, or how many tokens are left where a part cannot be read
abbrev pub file_by_parts : Parsers → List Token → Result Forest ℕ
file_by_parts p tokens =
    or_stop (run (at_file p) package_clause_plan tokens) (length tokens) (λ clause.
    and_then (parts_in (begins kinds.ImportWord) (part_in p sorts.Import) (length tokens) empty clause.1) (λ imports.
    and_then (parts_in is_more (part_in p sorts.PackageDecl) (length tokens) empty imports.1) (λ decls.
    Ok (node forms.FileForm (append clause.0 (append imports.0 decls.0)) empty))))
