-- The choices of the plans of lists and declarations are right.
use Rattle.std.proofs.Common.{◌≡◌, ℕ, ◌+◌, leb, Bool, true, false, List, [], ◌∷◌, ◌++◌, refl, ap, ◌∙◌}
use Rattle.std.specs.Prelude.{◌&&◌, ◌||◌, not, ◌==◌}
use Rattle.go_ast.specs.declared.token.Kind.{Kind}
use Rattle.go_ast.specs.declared.token.Kind.TheVariants as kinds
use Rattle.go_ast.specs.declared.token.Token.{Token}
use Rattle.go_grammar.specs.Forests.{Forest, yield}
use Rattle.go_grammar.specs.Shapes as shapes
use Rattle.go_grammar.specs.Shapes.{Shape, Fits, is, ◌⨟◌, ◌∣◌}
use Rattle.go_grammar.specs.Grammar as sorts
use Rattle.go_grammar.specs.Grammar.{Sort, Context, grammar, is_semicolon, closes_parens, begins_type, precedence}
use Rattle.go_grammar.specs.Reading.{Part, is_next}
use Rattle.go_grammar.specs.Tests as plans
use Rattle.go_grammar.specs.Tests.{begins, begins_both, begins_type_at, not_closed, group_of, goes_on}
use Rattle.go_grammar.specs.StmtReading.{const_spec_plan, type_spec_plan, var_spec_plan, decl_plan, import_spec_plan, import_plan}
use Rattle.go_grammar.proofs.Cuts.{implies}
use Rattle.go_grammar.proofs.Fronts.{IsFirst}
use Rattle.go_grammar.proofs.Choices.{behind, least, Sure, next_is, next_is_not, behind_is, behind_is_not}
use Rattle.go_grammar.proofs.Plans.{pair_then, begins_other_pair, is_open, is_closed}

-- ---- what may stand behind parts of statements

-- behind an operand these go on with it
abbrev pub extends : Kind → Bool
extends kinds.Dot = true
extends kinds.OpenBracket = true
extends kinds.OpenParen = true
extends kinds.OpenBrace = true
extends _ = false

abbrev pub ends_expr : Kind → Bool
ends_expr kind = not (extends kind) && precedence kind == 0

-- outside brackets a brace ends an expression
abbrev pub ends_header : Kind → Bool
ends_header kind = is kind kinds.OpenBrace || ends_expr kind

abbrev pub ends_lines : Kind → Bool
ends_lines kind = is kind kinds.CloseBrace || is kind kinds.CaseWord || is kind kinds.DefaultWord

abbrev pub follow_part : Sort → Kind → Bool
follow_part (sorts.Binary sorts.Disjunction sorts.Plain) kind = ends_expr kind
follow_part (sorts.Binary sorts.Disjunction sorts.Header) kind = ends_header kind
follow_part sorts.Item kind = ends_expr kind
follow_part sorts.AnyType kind = true
follow_part sorts.Signature kind = true
follow_part sorts.Block kind = true
follow_part sorts.Lines kind = ends_lines kind
follow_part _ kind = false

-- how many tokens have to stand beside a part
abbrev pub deficit_part : Sort → ℕ
deficit_part (sorts.Binary level context) = 1
deficit_part sorts.Item = 1
deficit_part sorts.AnyType = 1
deficit_part sorts.Lines = 2
deficit_part _ = 0

-- ---- lists

both_true : (a b : Bool) → a ≡ true → b ≡ true → (a && b) ≡ true
both_true true b h k = k
both_true false b h k = absurd cc

first_false : (a b : Bool) → a ≡ false → (a && b) ≡ false
first_false false b h = refl
first_false true b h = absurd cc

-- behind a comma another item, and no parenthesis
pub item_goes_on : (item : Shape Sort) (next : Kind → Bool) → implies (behind item next) (λ kind. not (is kind kinds.CloseParen)) ≡ true
    → (tree : Forest) (rest : List Token) → Fits grammar (shapes.word kinds.Comma ⨟ item) tree rest → IsFirst next rest → goes_on (yield tree ++ rest) ≡ true
item_goes_on item next h tree rest x f =
    let p = pair_then x f in
    both_true (begins kinds.Comma (yield tree ++ rest)) _ (ap (begins kinds.Comma) p.all ∙ p.kind) (ap not (begins_other_pair kinds.Comma kinds.CloseParen (yield tree ++ rest) p h))

pub goes_not_on : (rest : List Token) → begins kinds.Comma rest ≡ false → goes_on rest ≡ false
goes_not_on rest h = first_false (begins kinds.Comma rest) _ h

pub ends_list : (next : Kind → Bool) → implies next (λ kind. not (is kind kinds.Comma)) ≡ true → (rest : List Token) → IsFirst next rest → goes_on rest ≡ false
ends_list next h rest f = goes_not_on rest (behind_is_not (λ kind. is kind kinds.Comma) next h rest f)

abbrev pub more_items : Shape Sort → Shape Sort
more_items item = shapes.Many (shapes.word kinds.Comma ⨟ item)

abbrev pub expr_sort : Context → Sort
expr_sort context = sorts.Binary sorts.Disjunction context

pub list_sure : (follow : Sort → Kind → Bool) (deficit : Sort → ℕ) (sort : Sort) (next : Kind → Bool) (beside : ℕ)
    → implies (behind (more_items (shapes.Part sort)) next) (follow sort) ≡ true → leb (deficit sort) (beside + 0) ≡ true → leb (deficit sort) (beside + least (shapes.Part sort) + 1) ≡ true
    → implies (behind (shapes.Part sort) (behind (more_items (shapes.Part sort)) next)) (λ kind. not (is kind kinds.CloseParen)) ≡ true → implies next (λ kind. not (is kind kinds.Comma)) ≡ true
    → leb 1 (1 + least (shapes.Part sort)) ≡ true
    → Sure follow deficit (plans.list_of (Part sort)) next beside
list_sure follow deficit sort next beside a b c d e l =
    ((a, b), (item_goes_on (shapes.Part sort) (behind (more_items (shapes.Part sort)) next) d, ends_list next e, l, (tt, (a, c))))

-- ---- specifications

abbrev pub ends_spec : Kind → Bool
ends_spec kind = is_semicolon kind || closes_parens kind || is kind kinds.CloseBrace

abbrev values_shape : Shape Sort
values_shape = shapes.maybe (shapes.Part sorts.AnyType) ⨟ shapes.word kinds.Assign ⨟ sorts.exprs sorts.Plain

-- a test of either of two
either_test : (a b : Kind → Bool) (tokens : List Token) → (is_next a tokens || is_next b tokens) ≡ is_next (λ kind. a kind || b kind) tokens
either_test a b [] = refl
either_test a b (token ∷ tokens) = refl

pub const_spec_sure : Sure follow_part deficit_part const_spec_plan ends_spec 0
const_spec_sure = (
  (tt, (next_is (λ kind. is kind kinds.Comma) _ _ refl, behind_is_not (λ kind. is kind kinds.Comma) _ refl, refl, (tt, tt))),
  (
    λ tree rest x f. either_test begins_type (λ kind. is kind kinds.Assign) (yield tree ++ rest) ∙ next_is (λ kind. begins_type kind || is kind kinds.Assign) values_shape ends_spec refl tree rest x f,
    λ tree rest x f. either_test begins_type (λ kind. is kind kinds.Assign) (yield tree ++ rest) ∙ next_is_not (λ kind. begins_type kind || is kind kinds.Assign) shapes.Nothing ends_spec refl tree rest x f,
    (
      (next_is begins_type _ _ refl, next_is_not begins_type _ _ refl, (refl, refl), tt),
      (tt, list_sure follow_part deficit_part (expr_sort sorts.Plain) ends_spec 2 refl refl refl refl refl refl),
    ),
    tt,
  ),
)

pub type_spec_sure : Sure follow_part deficit_part type_spec_plan ends_spec 0
type_spec_sure = (tt, ((next_is (λ kind. is kind kinds.Assign) _ _ refl, next_is_not (λ kind. is kind kinds.Assign) _ _ refl, tt, tt), (refl, refl)))

pub var_spec_sure : Sure follow_part deficit_part var_spec_plan ends_spec 0
var_spec_sure = (
  (tt, (next_is (λ kind. is kind kinds.Comma) _ _ refl, behind_is_not (λ kind. is kind kinds.Comma) _ refl, refl, (tt, tt))),
  (
    next_is begins_type _ _ refl,
    next_is_not begins_type _ _ refl,
    (
      (refl, refl),
      (next_is (λ kind. is kind kinds.Assign) _ _ refl, next_is_not (λ kind. is kind kinds.Assign) _ _ refl, (tt, list_sure follow_part deficit_part (expr_sort sorts.Plain) ends_spec 3 refl refl refl refl refl refl), tt),
    ),
    (tt, list_sure follow_part deficit_part (expr_sort sorts.Plain) ends_spec 2 refl refl refl refl refl refl),
  ),
)

-- ---- declarations

abbrev pub follow_spec : Sort → Kind → Bool
follow_spec sorts.ConstSpec kind = ends_spec kind
follow_spec sorts.TypeSpec kind = ends_spec kind
follow_spec sorts.VarSpec kind = ends_spec kind
follow_spec _ kind = false

abbrev pub follow_import : Sort → Kind → Bool
follow_import sorts.ImportSpec kind = ends_spec kind
follow_import _ kind = false

abbrev pub deficit_spec : Sort → ℕ
deficit_spec sort = 0

abbrev spec_line : Sort → Shape Sort
spec_line sort = shapes.Part sort ⨟ sorts.end_of_line closes_parens

abbrev behind_specs : Sort → Kind → Bool
behind_specs sort = behind (shapes.Many (spec_line sort)) (λ kind. is kind kinds.CloseParen)

-- what may stand behind a declaration
abbrev pub ends_decl : Kind → Bool
ends_decl kind = is_semicolon kind || is kind kinds.CloseBrace

group_sure : (follow : Sort → Kind → Bool) (sort : Sort)
    → implies (behind (shapes.Part sort) ends_decl) (λ kind. not (is kind kinds.OpenParen)) ≡ true
    → implies ends_decl (follow sort) ≡ true
    → implies (behind (spec_line sort) (behind_specs sort)) (λ kind. not (is kind kinds.CloseParen)) ≡ true
    → leb 1 (least (spec_line sort)) ≡ true
    → implies (behind (sorts.end_of_line closes_parens) (behind_specs sort)) (follow sort) ≡ true
    → implies (behind (shapes.Before closes_parens) (behind_specs sort)) (λ kind. not (is_semicolon kind)) ≡ true
    → Sure follow deficit_spec (group_of (Part sort)) ends_decl 1
group_sure follow sort open_here ends closed_here long behind_here no_semicolon = (
  is_open kinds.OpenParen (shapes.Part sort) ends_decl open_here,
  is_closed kinds.OpenParen (shapes.word kinds.OpenParen ⨟ shapes.Many (spec_line sort) ⨟ shapes.word kinds.CloseParen) ends_decl refl,
  (ends, refl),
  (
    tt,
    (
      (
        is_open kinds.CloseParen (spec_line sort) (behind_specs sort) closed_here,
        λ rest f. ap not (behind_is (λ kind. is kind kinds.CloseParen) (λ kind. is kind kinds.CloseParen) refl rest f),
        long,
        ((behind_here, refl), (next_is is_semicolon (shapes.Sign is_semicolon) (behind_specs sort) refl, next_is_not is_semicolon (shapes.Before closes_parens) (behind_specs sort) no_semicolon, tt, tt)),
      ),
      tt,
    ),
  ),
)

pub decl_sure : Sure follow_spec deficit_spec decl_plan ends_decl 0
decl_sure = (
  next_is (λ kind. is kind kinds.ConstWord) _ _ refl,
  next_is_not (λ kind. is kind kinds.ConstWord) _ _ refl,
  (tt, group_sure follow_spec sorts.ConstSpec refl refl refl refl refl refl),
  (
    next_is (λ kind. is kind kinds.TypeWord) _ _ refl,
    next_is_not (λ kind. is kind kinds.TypeWord) _ _ refl,
    (tt, group_sure follow_spec sorts.TypeSpec refl refl refl refl refl refl),
    (tt, group_sure follow_spec sorts.VarSpec refl refl refl refl refl refl),
  ),
)

-- ---- imports

pub import_spec_sure : (follow : Sort → Kind → Bool) (deficit : Sort → ℕ) → Sure follow deficit import_spec_plan ends_spec 0
import_spec_sure follow deficit = ((next_is (λ kind. is kind kinds.Name) _ _ refl, next_is_not (λ kind. is kind kinds.Name) _ _ refl, tt, tt), tt)

pub import_sure : Sure follow_import deficit_spec import_plan ends_decl 0
import_sure = (tt, group_sure follow_import sorts.ImportSpec refl refl refl refl refl refl)
