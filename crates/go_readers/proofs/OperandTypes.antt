-- What is read of a type that is an operand.
use Rattle.std.proofs.Common.{◌≡◌, Bool, true, false, List, [], ◌∷◌, Option, Some, None, refl, sym, ap, ◌∙◌}
use Rattle.std.specs.Prelude.{not, ◌&&◌, ◌||◌, if◌then◌else◌}
use Rattle.go_ast.specs.declared.token.Kind.{Kind}
use Rattle.go_ast.specs.declared.token.Kind.TheVariants as kinds
use Rattle.go_ast.specs.declared.token.Token.{Token}
use Rattle.go_grammar.specs.Shapes.{is}
use Rattle.go_grammar.specs.Forests as forms
use Rattle.go_grammar.specs.Forests.{Forest, empty, node}
use Rattle.go_grammar.specs.Grammar.{Sort, closes_braces}
use Rattle.go_grammar.specs.Reading.{Reader, Either, Before, ◌>>=◌, is_next, run}
use Rattle.go_grammar.specs.Tests.{begins, begins_both, not_closed, word}
use Rattle.go_grammar.specs.TypeReading.{Parsers, Place, type_in, bare_in, begins_bare, at_type, chan_plan}
use Rattle.go_grammar.specs.ExprReading.{unary_by, unary_of, primary_in, starred, of_operand, begins_sign_by, is_item, type_operand_in, type_operand_of, open_array_in}
use Rattle.go_grammar.proofs.EachKind.{each_kind, of_each}
use Rattle.go_fragments.specs.Words.{begins_operand_type, comma_in}
use Rattle.go_fragments.proofs.Words.{before_braces}

-- ---- types as operands

abbrev implies : Bool → Bool → Bool
implies true b = b
implies false b = true

by_kind : (a b : Kind → Bool) → each_kind (λ kind. implies (a kind) (b kind)) ≡ true → (kind : Kind) → a kind ≡ true → b kind ≡ true
by_kind a b h kind e = let k : implies (a kind) (b kind) ≡ true = of_each (λ x. implies (a x) (b x)) h kind in rw e at k

not_true : (b : Bool) → not b ≡ true → b ≡ false
not_true false h = refl
not_true true h = absurd cc

bare_is_no : (other : Kind) → each_kind (λ kind. implies (begins_bare kind) (not (is kind other))) ≡ true → (kind : Kind) → begins_bare kind ≡ true → is kind other ≡ false
bare_is_no other h kind e = not_true (is kind other) (by_kind begins_bare (λ x. not (is x other)) h kind e)

abbrev is_chan : Kind → Bool
is_chan kind = is kind kinds.ChanWord || is kind kinds.Arrow

chan_is_no : (other : Kind) → each_kind (λ kind. implies (is_chan kind) (not (is kind other))) ≡ true → (kind : Kind) → is_chan kind ≡ true → is kind other ≡ false
chan_is_no other h kind e = not_true (is kind other) (by_kind is_chan (λ x. not (is x other)) h kind e)

pub type_bare : (p : Parsers) (tokens : List Token) → is_next begins_bare tokens ≡ true → type_in p tokens ≡ bare_in p tokens
type_bare p [] h = absurd cc
type_bare p (token ∷ rest) h =
    let paren : is token.kind kinds.OpenParen ≡ false = bare_is_no kinds.OpenParen refl token.kind h in
    let name : is token.kind kinds.Name ≡ false = bare_is_no kinds.Name refl token.kind h in
    let star : is token.kind kinds.Star ≡ false = bare_is_no kinds.Star refl token.kind h in
    rw (paren, name, star, h) refl

pub type_chan : (p : Parsers) (tokens : List Token) → (begins kinds.ChanWord tokens || begins kinds.Arrow tokens) ≡ true → type_in p tokens ≡ run (at_type p) chan_plan tokens
type_chan p [] h = absurd cc
type_chan p (token ∷ rest) h =
    let paren : is token.kind kinds.OpenParen ≡ false = chan_is_no kinds.OpenParen refl token.kind h in
    let name : is token.kind kinds.Name ≡ false = chan_is_no kinds.Name refl token.kind h in
    let star : is token.kind kinds.Star ≡ false = chan_is_no kinds.Star refl token.kind h in
    let bare : begins_bare token.kind ≡ false = not_true (begins_bare token.kind) (by_kind is_chan (λ x. not (begins_bare x)) refl token.kind h) in
    let func : is token.kind kinds.FuncWord ≡ false = chan_is_no kinds.FuncWord refl token.kind h in
    rw (paren, name, star, bare, func) refl

chosen_operand : (a b : Bool) (x y z : Option (Forest × List Token)) → (a ≡ true → z ≡ x) → (b ≡ true → z ≡ y) → (a || b) ≡ true → (if a then x else if b then y else None) ≡ z
chosen_operand true b x y z f g h = sym (f refl)
chosen_operand false true x y z f g h = sym (g refl)
chosen_operand false false x y z f g h = absurd cc

both_right : (a b : Bool) → (a && b) ≡ true → b ≡ true
both_right true b h = h
both_right false b h = absurd cc

abbrev as_operand : Option (Forest × List Token) → Option (Forest × List Token)
as_operand read = read >>= λ x. Some (node forms.TypeOperandForm x.0 empty, x.1)

pub operand_type : (p : Parsers) (place : Place) (tokens : List Token) → begins_both kinds.OpenBracket kinds.Ellipsis tokens ≡ false → begins_operand_type place tokens ≡ true → type_operand_in p place tokens ≡ type_operand_of (type_in p) tokens
operand_type p place tokens h k =
    ap (λ (b : Bool). if b then type_operand_of (open_array_in p) tokens else (if is_next begins_bare tokens then type_operand_of (bare_in p) tokens else (if is_item place && (begins kinds.ChanWord tokens || begins kinds.Arrow tokens) then type_operand_of (run (at_type p) chan_plan) tokens else None))) h
    ∙ chosen_operand (is_next begins_bare tokens) (is_item place && (begins kinds.ChanWord tokens || begins kinds.Arrow tokens))
    (type_operand_of (bare_in p) tokens) (type_operand_of (run (at_type p) chan_plan) tokens) (type_operand_of (type_in p) tokens)
    (λ e. ap as_operand (type_bare p tokens e))
    (λ e. ap as_operand (type_chan p tokens (both_right (is_item place) (begins kinds.ChanWord tokens || begins kinds.Arrow tokens) e))) k

pub operand_no_type : (p : Parsers) (place : Place) (tokens : List Token) → begins_both kinds.OpenBracket kinds.Ellipsis tokens ≡ false → begins_operand_type place tokens ≡ false → type_operand_in p place tokens ≡ None
operand_no_type p place tokens h k =
    ap (λ (b : Bool). if b then type_operand_of (open_array_in p) tokens else (if is_next begins_bare tokens then type_operand_of (bare_in p) tokens else (if is_item place && (begins kinds.ChanWord tokens || begins kinds.Arrow tokens) then type_operand_of (run (at_type p) chan_plan) tokens else None))) h
    ∙ none (is_next begins_bare tokens) (is_item place && (begins kinds.ChanWord tokens || begins kinds.Arrow tokens)) k
  where
    none : (a b : Bool) → (a || b) ≡ false → (if a then type_operand_of (bare_in p) tokens else if b then type_operand_of (run (at_type p) chan_plan) tokens else None) ≡ None
    none false false e = refl
    none true b e = absurd cc
    none false true e = absurd cc

pub ruleset operand_types = (operand_type, operand_no_type)
