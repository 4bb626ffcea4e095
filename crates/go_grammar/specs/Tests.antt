-- Tests of the first tokens, and what reads one token.
use Rattle.std.specs.Prelude.{List, [], ◌∷◌, Bool, false, ◌&&◌, not}
use Rattle.go_ast.specs.declared.token.Kind.{Kind}
use Rattle.go_ast.specs.declared.token.Kind.TheVariants as kinds
use Rattle.go_ast.specs.declared.token.Token.{Token}
use Rattle.go_grammar.specs.Shapes.{is}
use Rattle.go_grammar.specs.Reading.{Reader, Plan, Sign, Before, Either, Nothing, Then, Many, is_next, sign_in}
use Rattle.go_grammar.specs.Grammar.{is_semicolon, closes_parens, begins_type}

abbrev pub begins : Kind → List Token → Bool
begins kind tokens = is_next (λ other. is other kind) tokens

abbrev pub begins_both : Kind → Kind → List Token → Bool
begins_both kind second [] = false
begins_both kind second (token ∷ tokens) = is token.kind kind && begins second tokens

abbrev pub begins_semicolon : List Token → Bool
begins_semicolon tokens = is_next is_semicolon tokens

abbrev pub begins_type_at : List Token → Bool
begins_type_at tokens = is_next begins_type tokens

abbrev pub word_in : Kind → Reader
word_in kind = sign_in (λ other. is other kind)

-- ---- pieces of plans

infixr 30 ◌⨟◌
abbrev pub ◌⨟◌ : {S : Type 0} → Plan S → Plan S → Plan S
first ⨟ second = Then first second

abbrev pub word : {S : Type 0} → Kind → Plan S
word kind = Sign (λ other. is other kind)

abbrev pub not_before : {S : Type 0} → (Kind → Bool) → Plan S
not_before test = Before (λ kind. not (test kind))

-- this where the test holds, else nothing
abbrev pub maybe : {S : Type 0} → (List Token → Bool) → Plan S → Plan S
maybe test plan = Either test plan Nothing

abbrev pub maybe_word : {S : Type 0} → Kind → Plan S
maybe_word kind = maybe (begins kind) (word kind)

abbrev pub semicolon : {S : Type 0} → Plan S
semicolon = Sign is_semicolon

abbrev pub end_of_line : {S : Type 0} → (Kind → Bool) → Plan S
end_of_line closes = Either begins_semicolon semicolon (Before closes)

abbrev pub not_closed : Kind → List Token → Bool
not_closed kind tokens = not (begins kind tokens)

abbrev pub not_empty : List Token → Bool
not_empty tokens = not (begins_semicolon tokens)

-- one, or any number in parentheses
abbrev pub group_of : {S : Type 0} → Plan S → Plan S
group_of spec =
    Either (not_closed kinds.OpenParen) spec
    (word kinds.OpenParen ⨟ Many (not_closed kinds.CloseParen) (spec ⨟ end_of_line closes_parens) ⨟ word
    kinds.CloseParen)

-- another item follows
abbrev pub goes_on : List Token → Bool
goes_on tokens = begins kinds.Comma tokens && not (begins_both kinds.Comma kinds.CloseParen tokens)

abbrev pub list_of : {S : Type 0} → Plan S → Plan S
list_of item = item ⨟ Many goes_on (word kinds.Comma ⨟ item)

abbrev pub names : {S : Type 0} → Plan S
names = word kinds.Name ⨟ Many (begins kinds.Comma) (word kinds.Comma ⨟ word kinds.Name)
