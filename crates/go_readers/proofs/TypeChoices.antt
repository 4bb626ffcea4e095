-- Which type is read, by its first token.
use Rattle.std.proofs.Common.{◌≡◌, refl, sym, ◌∙◌, List, Option, Bool, true, false, if◌then◌else◌}
use Rattle.std.specs.Prelude.{not}
use Rattle.go_ast.specs.declared.token.Kind.TheVariants as kinds
use Rattle.go_ast.specs.declared.token.Token.{Token}
use Rattle.go_grammar.specs.Forests as forms
use Rattle.go_grammar.specs.Reading.{node_in, then_in, is_next, run}
use Rattle.go_grammar.specs.Tests.{begins, word_in}
use Rattle.go_grammar.specs.TypeReading.{Parsers, type_in, long_in, bare_in, type_name_in, signature_in, at_type, chan_plan, begins_bare}

if_true : {A : Type 0} (test : Bool) (x y : A) → test ≡ true → (if test then x else y) ≡ x
if_true true x y h = refl
if_true false x y h = absurd cc

if_false : {A : Type 0} (test : Bool) (x y : A) → test ≡ false → (if test then x else y) ≡ y
if_false false x y h = refl
if_false true x y h = absurd cc

if_not : {A : Type 0} (test : Bool) (x y : A) → test ≡ false → (if not test then x else y) ≡ x
if_not false x y h = refl
if_not true x y h = absurd cc

unless : {A : Type 0} (test : Bool) (x y : A) → test ≡ true → (if not test then x else y) ≡ y
unless true x y h = refl
unless false x y h = absurd cc

pub type_paren : (p : Parsers) (tokens : List Token) → begins kinds.OpenParen tokens ≡ true
    → type_in p tokens ≡ node_in forms.ParenTypeForm (then_in (word_in kinds.OpenParen) (then_in p.type_expr (word_in kinds.CloseParen))) tokens
type_paren p tokens h = unless (begins kinds.OpenParen tokens) (long_in p tokens) _ h

pub type_long : (p : Parsers) (tokens : List Token) → begins kinds.OpenParen tokens ≡ false → type_in p tokens ≡ long_in p tokens
type_long p tokens h = if_not (begins kinds.OpenParen tokens) (long_in p tokens) _ h

pub long_name : (p : Parsers) (tokens : List Token) → begins kinds.Name tokens ≡ true → long_in p tokens ≡ type_name_in tokens
long_name p tokens h = if_true (begins kinds.Name tokens) (type_name_in tokens) _ h

pub long_star : (p : Parsers) (tokens : List Token) → begins kinds.Name tokens ≡ false → begins kinds.Star tokens ≡ true
    → long_in p tokens ≡ node_in forms.PointerForm (then_in (word_in kinds.Star) p.type_expr) tokens
long_star p tokens g h = if_false (begins kinds.Name tokens) (type_name_in tokens) _ g ∙ if_true (begins kinds.Star tokens) _ _ h

pub long_bare : (p : Parsers) (tokens : List Token) → begins kinds.Name tokens ≡ false → begins kinds.Star tokens ≡ false → is_next begins_bare tokens ≡ true
    → long_in p tokens ≡ bare_in p tokens
long_bare p tokens g h k = if_false (begins kinds.Name tokens) (type_name_in tokens) _ g ∙ if_false (begins kinds.Star tokens) _ _ h ∙ if_true (is_next begins_bare tokens) (bare_in p tokens) _ k

pub long_chan : (p : Parsers) (tokens : List Token) → begins kinds.Name tokens ≡ false → begins kinds.Star tokens ≡ false → is_next begins_bare tokens ≡ false → begins kinds.FuncWord tokens ≡ false
    → long_in p tokens ≡ run (at_type p) chan_plan tokens
long_chan p tokens g h k l =
    if_false (begins kinds.Name tokens) (type_name_in tokens) _ g ∙ if_false (begins kinds.Star tokens) _ _ h ∙ if_false (is_next begins_bare tokens) (bare_in p tokens) _ k
    ∙ if_not (begins kinds.FuncWord tokens) (run (at_type p) chan_plan tokens) _ l

pub long_function : (p : Parsers) (tokens : List Token) → begins kinds.Name tokens ≡ false → begins kinds.Star tokens ≡ false → is_next begins_bare tokens ≡ false → begins kinds.FuncWord tokens ≡ true
    → long_in p tokens ≡ node_in forms.FunctionForm (then_in (word_in kinds.FuncWord) (signature_in p)) tokens
long_function p tokens g h k l =
    if_false (begins kinds.Name tokens) (type_name_in tokens) _ g ∙ if_false (begins kinds.Star tokens) _ _ h ∙ if_false (is_next begins_bare tokens) (bare_in p tokens) _ k
    ∙ unless (begins kinds.FuncWord tokens) (run (at_type p) chan_plan tokens) _ l
