-- The choices of the plans of types are right.
use Rattle.std.proofs.Common.{◌≡◌, ℕ, leb, Bool, true, false, List, ◌++◌, refl, ap, ◌∙◌}
use Rattle.std.specs.Prelude.{◌&&◌, ◌||◌, not}
use Rattle.go_ast.specs.declared.token.Kind.{Kind}
use Rattle.go_ast.specs.declared.token.Kind.TheVariants as kinds
use Rattle.go_ast.specs.declared.token.Token.{Token}
use Rattle.go_grammar.specs.Forests.{Form, Forest, yield}
use Rattle.go_grammar.specs.Forests as forms
use Rattle.go_grammar.specs.Shapes as shapes
use Rattle.go_grammar.specs.Shapes.{Shape, Fits, part, below, both, first, second, sign, nothing, is}
use Rattle.go_grammar.specs.Grammar as sorts
use Rattle.go_grammar.specs.Grammar.{Sort, grammar, is_dot, is_arrow, is_semicolon, closes_braces, begins_type}
use Rattle.go_grammar.specs.Reading.{Plan, Part, shape_of}
use Rattle.go_grammar.specs.Tests.{begins_both, names, maybe_word, word, ◌⨟◌, end_of_line}
use Rattle.go_grammar.specs.TypeReading.{begins_bare, begins_named, begins_embedded, embedded_behind, type_name_plan, pointer_plan, chan_plan, function_plan, field_plan, element_plan, lines_plan, bare_plan, long_plan, type_plan, signature_plan}
use Rattle.go_grammar.proofs.Cuts.{implies, implied}
use Rattle.go_grammar.proofs.Fronts.{IsFirst}
use Rattle.go_grammar.proofs.Choices.{behind, least, first_behind, Sure, Picks, flip, next_is, next_is_not, behind_is, behind_is_not}
use Rattle.go_grammar.proofs.Plans.{IsPair, pair_then, pair_node, pair_front, begins_pair, begins_other_pair, begins_other_first, is_open, is_closed, line, behind_lines, behind_line}
use Rattle.go_grammar.proofs.SameKinds.{is_same}

abbrev pub anything : Kind → Bool
anything kind = true

-- What may stand behind the parts of types: behind a type anything, since what may not is said where it matters.
abbrev pub follow : Sort → Kind → Bool
follow sorts.AnyType kind = true
follow sorts.TypeName kind = true
follow sorts.Signature kind = true
follow (sorts.Binary sorts.Disjunction sorts.Plain) kind = is kind kinds.CloseBracket
follow _ kind = false

-- where a type without parentheses may be any
abbrev pub follow_long : Sort → Kind → Bool
follow_long sorts.BareType kind = true
follow_long sort kind = follow sort kind

abbrev pub follow_any : Sort → Kind → Bool
follow_any sorts.LongType kind = true
follow_any sort kind = follow sort kind

abbrev pub follow_signature : Sort → Kind → Bool
follow_signature sorts.Params kind = true
follow_signature sorts.Results kind = true
follow_signature sorts.LongType kind = true
follow_signature _ kind = false

-- how many tokens have to stand beside a part
abbrev pub deficit : Sort → ℕ
deficit sorts.AnyType = 1
deficit (sorts.Binary level context) = 1
deficit _ = 0

abbrev pub deficit_signature : Sort → ℕ
deficit_signature sorts.LongType = 1
deficit_signature _ = 0

-- ---- plans of a line

pub type_name_sure : (follow : Sort → Kind → Bool) (deficit : Sort → ℕ) (beside : ℕ) → Sure follow deficit type_name_plan anything beside
type_name_sure follow deficit beside = (tt, (next_is (λ other. is other kinds.Dot) _ anything refl, next_is_not (λ other. is other kinds.Dot) _ anything refl, (tt, tt), tt))

pub pointer_sure : Sure follow deficit pointer_plan anything 0
pointer_sure = (tt, (refl, refl))

pub function_sure : Sure follow deficit function_plan anything 0
function_sure = (tt, (refl, refl))

pub chan_sure : Sure follow deficit chan_plan anything 0
chan_sure = (
  next_is (λ other. is other kinds.ChanWord) _ anything refl,
  next_is_not (λ other. is other kinds.ChanWord) _ anything refl,
  (tt, ((next_is (λ other. is other kinds.Arrow) _ _ refl, next_is_not (λ other. is other kinds.Arrow) _ _ refl, tt, tt), (refl, refl))),
  (tt, (tt, (refl, refl))),
)

-- ---- fields

abbrev pub end_line : Plan Sort
end_line = end_of_line closes_braces

abbrev pub behind_field : Kind → Bool
behind_field = behind (shape_of end_line) (behind_line field_plan)

abbrev pub embedded_kind : Kind → Bool
embedded_kind kind = is kind kinds.Dot || is kind kinds.Text || is_semicolon kind || is kind kinds.CloseBrace

embedded_pair : (tokens : List Token) {next : Kind → Bool} (b : Bool) → IsPair (λ other. is other kinds.Name) next tokens → ((rest : List Token) → IsFirst next rest → embedded_behind rest ≡ b) → begins_embedded tokens ≡ b
embedded_pair tokens b p h = ap begins_embedded p.all ∙ go p.token.kind p.kind (embedded_behind p.others) (h p.others p.second)
  where
    go : (kind : Kind) → is kind kinds.Name ≡ true → (t : Bool) → t ≡ b → (is kind kinds.Star || (is kind kinds.Name && t)) ≡ b
    go kind k t e = let same = is_same kind kinds.Name k in rw same e

embedded_true : (next : Kind → Bool) → implies next embedded_kind ≡ true → (rest : List Token) → IsFirst next rest → embedded_behind rest ≡ true
embedded_true next h rest f = ap embedded_behind f.all ∙ implied next embedded_kind h f.token.kind f.kind

embedded_false : (next : Kind → Bool) → implies next (λ kind. not (embedded_kind kind)) ≡ true → (rest : List Token) → IsFirst next rest → embedded_behind rest ≡ false
embedded_false next h rest f = ap embedded_behind f.all ∙ flip (embedded_kind f.token.kind) (implied next (λ kind. not (embedded_kind kind)) h f.token.kind f.kind)

or_left : (a b : Bool) → a ≡ true → (a || b) ≡ true
or_left true b h = refl
or_left false b h = absurd cc

names_pair : {next : Kind → Bool} {shape : Shape Sort} {tree : Forest} {rest : List Token} → Fits grammar (shapes.Then sorts.names shape) tree rest → IsFirst next rest
    → IsPair (λ other. is other kinds.Name) (behind (shapes.Many (shapes.Then (shapes.word kinds.Comma) (shapes.word kinds.Name))) (behind shape next)) (yield tree ++ rest)
names_pair {next} (both {left = left} {right = right} {rest = rest} x y) f = pair_front left right rest (pair_then x (first_behind next y f))

pub type_name_pair : {next : Kind → Bool} {tree : Forest} {rest : List Token} → Fits grammar (shapes.Part sorts.TypeName) tree rest → IsFirst next rest
    → IsPair (λ other. is other kinds.Name) (behind (shapes.Either (shapes.Then (shapes.word kinds.Dot) (shapes.word kinds.Name)) (shapes.not_before is_dot)) next) (yield tree ++ rest)
type_name_pair (part (below {trees = trees} {rest = rest} x)) f = pair_node trees rest (pair_then x f)

abbrev named_field : Plan Sort
named_field = names ⨟ Part sorts.AnyType ⨟ maybe_word kinds.Text

abbrev embedded_field : Plan Sort
embedded_field = maybe_word kinds.Star ⨟ Part sorts.TypeName ⨟ maybe_word kinds.Text

named_picks : Picks follow deficit begins_named (shapes.Node forms.NamedFieldForm (shape_of named_field)) behind_field true
named_picks tree rest (below {trees = trees} x) f = ap not (embedded_pair _ false (pair_node trees rest (names_pair x f)) (embedded_false _ refl))

embedded_picks : Picks follow deficit begins_named (shapes.Node forms.EmbeddedFieldForm (shape_of embedded_field)) behind_field false
embedded_picks tree rest (below (both (first (sign {token = token} e)) y)) f = ap not (or_left (is token.kind kinds.Star) _ e)
embedded_picks tree rest (below {trees = trees} (both (second nothing) (both {left = left} {right = right} x y))) f =
    ap not (embedded_pair _ true (pair_node trees rest (pair_front left right rest (type_name_pair x (first_behind behind_field y f)))) (embedded_true _ refl))

pub field_sure : Sure follow deficit field_plan behind_field 3
field_sure = (
  named_picks,
  embedded_picks,
  (
    (tt, (next_is (λ other. is other kinds.Comma) _ _ refl, behind_is_not (λ other. is other kinds.Comma) _ refl, refl, (tt, tt))),
    ((refl, refl), (next_is (λ other. is other kinds.Text) _ _ refl, next_is_not (λ other. is other kinds.Text) _ _ refl, tt, tt)),
  ),
  (
    (next_is (λ other. is other kinds.Star) _ _ refl, next_is_not (λ other. is other kinds.Star) _ _ refl, tt, tt),
    ((refl, refl), (next_is (λ other. is other kinds.Text) _ _ refl, next_is_not (λ other. is other kinds.Text) _ _ refl, tt, tt)),
  ),
)

-- ---- elements of interfaces

abbrev pub behind_element : Kind → Bool
behind_element = behind (shape_of end_line) (behind_line element_plan)

method_picks : Picks follow deficit (begins_both kinds.Name kinds.OpenParen) (shapes.Node forms.MethodForm (shape_of (word kinds.Name ⨟ Part sorts.Signature))) behind_element true
method_picks tree rest (below {trees = trees} x) f = begins_pair kinds.Name kinds.OpenParen _ (pair_node trees rest (pair_then x f)) refl

element_picks : Picks follow deficit (begins_both kinds.Name kinds.OpenParen) (shapes.Node forms.EmbeddedElementForm (shapes.Part sorts.TypeName)) behind_element false
element_picks tree rest (below {trees = trees} x) f = begins_other_pair kinds.Name kinds.OpenParen _ (pair_node trees rest (type_name_pair x f)) refl

pub element_sure : Sure follow deficit element_plan behind_element 3
element_sure = (method_picks, element_picks, (tt, (refl, refl)), (refl, refl))

-- ---- lines in braces

lines_sure : (item : Plan Sort)
    → implies (behind (shape_of (line item)) (behind_line item)) (λ kind. not (is kind kinds.CloseBrace)) ≡ true
    → implies (behind (shape_of (item ⨟ end_line)) (behind_line item)) (λ kind. not (is_semicolon kind)) ≡ true
    → implies (behind (shapes.Before closes_braces) (behind_line item)) (λ kind. not (is_semicolon kind)) ≡ true
    → leb 1 (least (shape_of (line item))) ≡ true
    → Sure follow deficit item (behind (shape_of end_line) (behind_line item)) 3
    → Sure follow deficit (lines_plan item) anything 1
lines_sure item not_closed_here not_empty_here no_semicolon long s = (
  tt,
  (
    (
      is_open kinds.CloseBrace (shape_of (line item)) (behind_line item) not_closed_here,
      λ rest f. ap not (behind_is (λ other. is other kinds.CloseBrace) behind_lines refl rest f),
      long,
      (
        λ tree rest x f. ap not (next_is_not is_semicolon (shape_of (item ⨟ end_line)) (behind_line item) not_empty_here tree rest x f),
        λ tree rest x f. ap not (next_is is_semicolon (shapes.Sign is_semicolon) (behind_line item) refl tree rest x f),
        (s, (next_is is_semicolon (shapes.Sign is_semicolon) (behind_line item) refl, next_is_not is_semicolon (shapes.Before closes_braces) (behind_line item) no_semicolon, tt, tt)),
        tt,
      ),
    ),
    tt,
  ),
)

-- ---- types

not_slice : {form : Form} {inner others : Shape Sort} (tree : Forest) (rest : List Token) → Fits grammar (shapes.Either (shapes.Node form (shapes.Then (shapes.word kinds.OpenBracket) inner)) others) tree rest → IsFirst anything rest
    → implies (behind inner anything) (λ kind. not (is kind kinds.CloseBracket)) ≡ true → implies (behind others anything) (λ kind. not (is kind kinds.OpenBracket)) ≡ true → begins_both kinds.OpenBracket kinds.CloseBracket (yield tree ++ rest) ≡ false
not_slice tree rest (first (below {trees = trees} x)) f h k = begins_other_pair kinds.OpenBracket kinds.CloseBracket _ (pair_node trees rest (pair_then x f)) h
not_slice {others = others} tree rest (second x) f h k = begins_other_first kinds.OpenBracket kinds.CloseBracket (yield tree ++ rest) (next_is_not (λ other. is other kinds.OpenBracket) others anything k tree rest x f)

slice_picks : {form : Form} {inner : Shape Sort} (tree : Forest) (rest : List Token) → Fits grammar (shapes.Node form (shapes.Then (shapes.word kinds.OpenBracket) (shapes.Then (shapes.word kinds.CloseBracket) inner))) tree rest → IsFirst anything rest → begins_both kinds.OpenBracket kinds.CloseBracket (yield tree ++ rest) ≡ true
slice_picks tree rest (below {trees = trees} x) f = begins_pair kinds.OpenBracket kinds.CloseBracket _ (pair_node trees rest (pair_then x f)) refl

pub bare_sure : Sure follow deficit bare_plan anything 0
bare_sure = (
  slice_picks,
  λ tree rest x f. not_slice tree rest x f refl refl,
  (tt, (tt, (refl, refl))),
  (
    next_is (λ other. is other kinds.OpenBracket) _ anything refl,
    next_is_not (λ other. is other kinds.OpenBracket) _ anything refl,
    (tt, ((refl, refl), (tt, (refl, refl)))),
    (
      next_is (λ other. is other kinds.MapWord) _ anything refl,
      next_is_not (λ other. is other kinds.MapWord) _ anything refl,
      (tt, (tt, ((refl, refl), (tt, (refl, refl))))),
      (
        next_is (λ other. is other kinds.StructWord) _ anything refl,
        next_is_not (λ other. is other kinds.StructWord) _ anything refl,
        (tt, lines_sure field_plan refl refl refl refl field_sure),
        (tt, lines_sure element_plan refl refl refl refl element_sure),
      ),
    ),
  ),
)

pub long_sure : Sure follow_long deficit long_plan anything 0
long_sure = (
  next_is (λ other. is other kinds.Name) _ anything refl,
  next_is_not (λ other. is other kinds.Name) _ anything refl,
  (refl, refl),
  (
    next_is (λ other. is other kinds.Star) _ anything refl,
    next_is_not (λ other. is other kinds.Star) _ anything refl,
    (tt, (refl, refl)),
    (
      next_is begins_bare _ anything refl,
      next_is_not begins_bare _ anything refl,
      (refl, refl),
      (
        is_open kinds.FuncWord _ anything refl,
        is_closed kinds.FuncWord _ anything refl,
        (
          next_is (λ other. is other kinds.ChanWord) _ anything refl,
          next_is_not (λ other. is other kinds.ChanWord) _ anything refl,
          (tt, ((next_is (λ other. is other kinds.Arrow) _ _ refl, next_is_not (λ other. is other kinds.Arrow) _ _ refl, tt, tt), (refl, refl))),
          (tt, (tt, (refl, refl))),
        ),
        (tt, (refl, refl)),
      ),
    ),
  ),
)

pub type_sure : Sure follow_any deficit type_plan anything 0
type_sure = (is_open kinds.OpenParen _ anything refl, is_closed kinds.OpenParen _ anything refl, (refl, refl), (tt, ((refl, refl), tt)))

pub signature_sure : Sure follow_signature deficit_signature signature_plan anything 0
signature_sure = (
  (refl, refl),
  (
    next_is (λ other. is other kinds.OpenParen) _ anything refl,
    next_is_not (λ other. is other kinds.OpenParen) _ anything refl,
    (refl, refl),
    (next_is begins_type _ anything refl, next_is_not begins_type _ anything refl, (refl, refl), tt),
  ),
)
