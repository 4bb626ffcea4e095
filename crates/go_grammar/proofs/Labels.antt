-- No label stands at the front of a statement that has none.
use Rattle.std.proofs.Common.{◌≡◌, Bool, true, false, List, ◌++◌, refl, sym, ap, ◌∙◌}
use Rattle.std.proofs.lemmas.List.{append-nil}
use Rattle.std.specs.Prelude.{◌&&◌, ◌||◌, not}
use Rattle.go_ast.specs.declared.token.Kind.{Kind}
use Rattle.go_ast.specs.declared.token.Kind.TheVariants as kinds
use Rattle.go_ast.specs.declared.token.Token.{Token}
use Rattle.go_grammar.specs.Forests.{Forest, yield}
use Rattle.go_grammar.specs.Shapes as shapes
use Rattle.go_grammar.specs.Shapes.{Shape, Fits, is}
use Rattle.go_grammar.specs.Grammar as sorts
use Rattle.go_grammar.specs.Grammar.{Sort, grammar, is_semicolon}
use Rattle.go_grammar.specs.Tests.{begins, begins_both}
use Rattle.go_grammar.proofs.Again.{regroup}
use Rattle.go_grammar.proofs.Cuts.{implies, implied}
use Rattle.go_grammar.proofs.Fronts.{heads_of, empties, filled, IsFirst, Front, none, some, front}
use Rattle.go_grammar.proofs.Plans.{flip}
use Rattle.go_grammar.proofs.Choices.{behind_is_not}
use Rattle.go_grammar.proofs.StmtChoices.{ends_line}

abbrev no_colon : Kind → Bool
no_colon kind = not (is kind kinds.Colon)

-- productions that do not begin with a name and a colon
abbrev is_quiet : Sort → Bool
is_quiet sorts.LocalDecl = true
is_quiet sorts.TypeName = true
is_quiet sorts.BareType = true
is_quiet sorts.LiteralType = true
is_quiet sorts.Block = true
is_quiet (sorts.Binary level context) = true
is_quiet (sorts.Unary context) = true
is_quiet (sorts.Primary context) = true
is_quiet (sorts.Operand context) = true
is_quiet sorts.IfRest = true
is_quiet sorts.Switch = true
is_quiet sorts.Loop = true
is_quiet (sorts.Simple context) = true
is_quiet sorts.Unlabeled = true
is_quiet _ = false

abbrev quiet : Shape Sort → Bool
quiet shapes.Nothing = true
quiet (shapes.Sign test) = true
quiet (shapes.Before test) = true
quiet (shapes.Part sort) = is_quiet sort
quiet (shapes.Node form inner) = quiet inner
quiet (shapes.Then a b) = quiet a && (implies (heads_of b) no_colon && (not (empties a) || quiet b))
quiet (shapes.Either a b) = quiet a && quiet b
quiet (shapes.Many a) = quiet a && implies (heads_of a) no_colon

all_quiet : (sort : Sort) → is_quiet sort ≡ true → quiet (grammar sort) ≡ true
all_quiet sorts.LocalDecl h = refl
all_quiet sorts.TypeName h = refl
all_quiet sorts.BareType h = refl
all_quiet sorts.LiteralType h = refl
all_quiet sorts.Block h = refl
all_quiet (sorts.Binary sorts.Disjunction context) h = refl
all_quiet (sorts.Binary sorts.Conjunction context) h = refl
all_quiet (sorts.Binary sorts.Comparison context) h = refl
all_quiet (sorts.Binary sorts.Addition context) h = refl
all_quiet (sorts.Binary sorts.Multiplication context) h = refl
all_quiet (sorts.Unary context) h = refl
all_quiet (sorts.Primary context) h = refl
all_quiet (sorts.Operand sorts.Plain) h = refl
all_quiet (sorts.Operand sorts.Header) h = refl
all_quiet sorts.IfRest h = refl
all_quiet sorts.Switch h = refl
all_quiet sorts.Loop h = refl
all_quiet (sorts.Simple context) h = refl
all_quiet sorts.Unlabeled h = refl
all_quiet _ h = absurd cc

and_parts : (a b : Bool) → (a && b) ≡ true → (a ≡ true) × (b ≡ true)
and_parts true b h = (refl, h)
and_parts false b h = absurd cc

and_both : (a b : Bool) → a ≡ true → b ≡ true → (a && b) ≡ true
and_both true b h k = k
and_both false b h k = absurd cc

and_false : (a b : Bool) → b ≡ false → (a && b) ≡ false
and_false true b h = h
and_false false b h = refl

or_left : (a b : Bool) → a ≡ true → (a || b) ≡ true
or_left true b h = refl
or_left false b h = absurd cc

or_right : (a b : Bool) → b ≡ true → (a || b) ≡ true
or_right true b h = refl
or_right false b h = h

or_then : (a b : Bool) → (not a || b) ≡ true → a ≡ true → b ≡ true
or_then true b h k = h
or_then false b h k = absurd cc

-- no colon behind, where the shape begins with none
colon_behind : {shape : Shape Sort} {tree : Forest} {rest : List Token} → Fits grammar shape tree rest → implies (heads_of shape) no_colon ≡ true → begins kinds.Colon rest ≡ false → begins kinds.Colon (yield tree ++ rest) ≡ false
colon_behind {shape} {tree} {rest} x h c = go (front x)
  where
    go : Front shape (yield tree) → begins kinds.Colon (yield tree ++ rest) ≡ false
    go (none e k) = ap (λ (front : List Token). begins kinds.Colon (front ++ rest)) e ∙ c
    go (some f) = ap (λ (front : List Token). begins kinds.Colon (front ++ rest)) f.all ∙ flip (is f.token.kind kinds.Colon) (implied (heads_of shape) no_colon h f.token.kind f.kind)

no_label : {shape : Shape Sort} {tree : Forest} {rest : List Token} → Fits grammar shape tree rest → quiet shape ≡ true → begins kinds.Colon rest ≡ false → (empties shape ≡ true → begins_both kinds.Name kinds.Colon rest ≡ false) → begins_both kinds.Name kinds.Colon (yield tree ++ rest) ≡ false
no_label shapes.nothing h c e = e refl
no_label (shapes.sign {token = token} {rest = rest} t) h c e = and_false (is token.kind kinds.Name) (begins kinds.Colon rest) c
no_label (shapes.before t) h c e = e refl
no_label (shapes.part {sort = sort} x) h c e = no_label x (all_quiet sort h) c (λ k. e (sym (filled sort) ∙ k))
no_label (shapes.below {trees = trees} {rest = rest} x) h c e = ap (λ (front : List Token). begins_both kinds.Name kinds.Colon (front ++ rest)) (append-nil (yield trees)) ∙ no_label x h c e
no_label (shapes.both {a = a} {b = b} {left = left} {right = right} {rest = rest} x y) h c e =
    let k = and_parts (quiet a) (implies (heads_of b) no_colon && (not (empties a) || quiet b)) h in
    let l = and_parts (implies (heads_of b) no_colon) (not (empties a) || quiet b) k.1 in
    ap (begins_both kinds.Name kinds.Colon) (regroup left right rest)
    ∙ no_label x k.0 (colon_behind y l.0 c) (λ m. no_label y (or_then (empties a) (quiet b) l.1 m) c (λ n. e (and_both (empties a) (empties b) m n)))
no_label (shapes.first {a = a} {b = b} x) h c e = no_label x (and_parts (quiet a) (quiet b) h).0 c (λ m. e (or_left (empties a) (empties b) m))
no_label (shapes.second {a = a} {b = b} x) h c e = no_label x (and_parts (quiet a) (quiet b) h).1 c (λ m. e (or_right (empties a) (empties b) m))
no_label shapes.done h c e = e refl
no_label (shapes.more {a = a} {left = left} {right = right} {rest = rest} x y) h c e =
    let k = and_parts (quiet a) (implies (heads_of a) no_colon) h in
    ap (begins_both kinds.Name kinds.Colon) (regroup left right rest) ∙ no_label x k.0 (colon_behind y k.1 c) (λ m. no_label y h c e)

pub unlabeled_front : (tree : Forest) (rest : List Token) → Fits grammar (shapes.Part sorts.Unlabeled) tree rest → IsFirst ends_line rest → begins_both kinds.Name kinds.Colon (yield tree ++ rest) ≡ false
unlabeled_front tree rest x f = no_label x refl (behind_is_not (λ kind. is kind kinds.Colon) ends_line refl rest f) (λ k. absurd cc)
