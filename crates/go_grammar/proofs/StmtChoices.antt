-- The choices of the plans of clauses and lines are right.
use Rattle.std.proofs.Common.{◌≡◌, ℕ, Bool, false, List, [], ◌∷◌, ◌++◌, refl, ap, ◌∙◌}
use Rattle.std.specs.Prelude.{◌||◌, not}
use Rattle.go_ast.specs.declared.token.Kind.{Kind}
use Rattle.go_ast.specs.declared.token.Kind.TheVariants as kinds
use Rattle.go_ast.specs.declared.token.Token.{Token}
use Rattle.go_grammar.specs.Forests.{yield}
use Rattle.go_grammar.specs.Shapes.{is}
use Rattle.go_grammar.specs.Grammar as sorts
use Rattle.go_grammar.specs.Grammar.{Sort, Context, grammar, is_semicolon}
use Rattle.go_grammar.specs.Reading.{is_next}
use Rattle.go_grammar.specs.Tests.{not_closed}
use Rattle.go_grammar.specs.StmtReading.{clause_plan, clauses_plan, guard_plan, comm_plan, ends_statements, lines_plan}
use Rattle.go_grammar.proofs.Fronts.{IsFirst}
use Rattle.go_grammar.proofs.Choices.{Sure, next_is, next_is_not, behind_is}
use Rattle.go_grammar.proofs.Plans.{is_open, is_closed}
use Rattle.go_grammar.proofs.TypeChoices.{anything}
use Rattle.go_grammar.proofs.DeclChoices.{follow_part, deficit_part, ends_lines, list_sure}

-- ---- clauses

pub clause_sure : Sure follow_part deficit_part clause_plan ends_lines 0
clause_sure = (
  (
    is_open kinds.DefaultWord _ _ refl,
    is_closed kinds.DefaultWord _ _ refl,
    (tt, list_sure follow_part deficit_part sorts.Item (λ kind. is kind kinds.Colon) 2 refl refl refl refl refl refl),
    tt,
  ),
  (tt, (refl, refl)),
)

abbrev pub follow_clauses : Sort → Kind → Bool
follow_clauses sorts.CaseClause kind = ends_lines kind
follow_clauses _ kind = false

abbrev pub no_deficit : Sort → ℕ
no_deficit sort = 0

closing_brace : (rest : List Token) → IsFirst (λ kind. is kind kinds.CloseBrace) rest → not_closed kinds.CloseBrace rest ≡ false
closing_brace rest f = ap not (behind_is (λ kind. is kind kinds.CloseBrace) (λ kind. is kind kinds.CloseBrace) refl rest f)

pub clauses_sure : Sure follow_clauses no_deficit clauses_plan anything 0
clauses_sure = (tt, ((is_open kinds.CloseBrace _ _ refl, closing_brace, refl, (refl, refl)), tt))

pub guard_sure : Sure follow_clauses no_deficit guard_plan anything 0
guard_sure = (tt, (tt, (tt, (tt, (tt, ((is_open kinds.CloseBrace _ _ refl, closing_brace, refl, (refl, refl)), tt))))))

-- ---- clauses of `select`

abbrev pub follow_comm : Sort → Kind → Bool
follow_comm sorts.Comm kind = is kind kinds.Colon
follow_comm sorts.Lines kind = ends_lines kind
follow_comm _ kind = false

abbrev pub deficit_comm : Sort → ℕ
deficit_comm sorts.Comm = 1
deficit_comm sorts.Lines = 2
deficit_comm _ = 0

pub comm_sure : Sure follow_comm deficit_comm comm_plan ends_lines 0
comm_sure = ((is_open kinds.DefaultWord _ _ refl, is_closed kinds.DefaultWord _ _ refl, (tt, (refl, refl)), tt), (tt, (refl, refl)))

-- ---- lines

-- what may stand behind a statement
abbrev pub ends_line : Kind → Bool
ends_line kind = is_semicolon kind || is kind kinds.CloseBrace

abbrev pub follow_lines : Sort → Kind → Bool
follow_lines sorts.Statement kind = ends_line kind
follow_lines _ kind = false

abbrev pub deficit_lines : Sort → ℕ
deficit_lines sorts.Statement = 1
deficit_lines _ = 0

-- the test of the first token that says that lines end
lines_test : (tokens : List Token) → ends_statements tokens ≡ is_next ends_lines tokens
lines_test [] = refl
lines_test (token ∷ tokens) = refl

pub lines_sure : Sure follow_lines deficit_lines lines_plan ends_lines 1
lines_sure = (
  λ tree rest x f. ap not (lines_test (yield tree ++ rest) ∙ next_is_not ends_lines _ _ refl tree rest x f),
  λ rest f. ap not (lines_test rest ∙ behind_is ends_lines ends_lines refl rest f),
  refl,
  (
    λ tree rest x f. ap not (next_is_not is_semicolon _ _ refl tree rest x f),
    λ tree rest x f. ap not (next_is is_semicolon _ _ refl tree rest x f),
    ((refl, refl), (next_is is_semicolon _ _ refl, next_is_not is_semicolon _ _ refl, tt, tt)),
    tt,
  ),
)
