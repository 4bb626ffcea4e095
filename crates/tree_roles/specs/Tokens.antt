-- Kinds of tokens, and items with a token behind them.
use Rattle.std.specs.Prelude.{◌==◌, Bool, true, false, ◌&&◌, ◌||◌, not, List, [], ◌∷◌, Option, Some, None}
use Rattle.std.specs.Global.{Box}
use Rattle.go_ast.specs.declared.token.Kind.{Kind}
use Rattle.go_ast.specs.declared.token.Kind.TheVariants as kinds
use Rattle.go_ast.specs.declared.token.Token.{Token}
use Rattle.go_syntax.specs.declared.stmts.Binding.{Binding}
use Rattle.go_syntax.specs.declared.stmts.Label.{Label}
use Rattle.go_syntax.specs.declared.type_exprs.ListedName.{ListedName}
use Rattle.go_syntax.specs.declared.type_exprs.NamedType.{NamedType}
use Rattle.go_syntax.specs.declared.type_exprs.NamedType.TheVariants as named
use Rattle.go_grammar.specs.Grammar.{precedence}
use Rattle.go_grammar.specs.Shapes.{is}

-- ---- tokens

abbrev pub is_kind : Kind → Token → Bool
is_kind kind token = is token.kind kind

-- none, or one whose kind passes a test
abbrev pub passes_if : (Kind → Bool) → Option Token → Bool
passes_if test None = true
passes_if test (Some token) = test token.kind

abbrev pub is_if : Kind → Option Token → Bool
is_if kind token = passes_if (λ other. is other kind) token

abbrev pub parens : Token → Token → Bool
parens «open» close = is_kind kinds.OpenParen «open» && is_kind kinds.CloseParen close

abbrev pub brackets : Token → Token → Bool
brackets «open» close = is_kind kinds.OpenBracket «open» && is_kind kinds.CloseBracket close

abbrev pub braces : Token → Token → Bool
braces «open» close = is_kind kinds.OpenBrace «open» && is_kind kinds.CloseBrace close

abbrev pub is_comma : Kind → Bool
is_comma kind = is kind kinds.Comma

abbrev pub is_binary : Kind → Bool
is_binary kind = not (precedence kind == 0)

-- `=` or `:=` before `range`
abbrev pub is_range_operator : Kind → Bool
is_range_operator kind = is kind kinds.Assign || is kind kinds.Define

-- `case` or `default`
abbrev pub begins_clause : Kind → Bool
begins_clause kind = is kind kinds.CaseWord || is kind kinds.DefaultWord

-- `.(type)`
abbrev pub is_guard : Token → Token → Token → Token → Bool
is_guard dot «open» word close = is_kind kinds.Dot dot && parens «open» close && is_kind kinds.TypeWord word

-- `[:]`
unfoldable pub slice_marks : Token → Token → Token → Bool
slice_marks «open» colon close = brackets «open» close && is_kind kinds.Colon colon

-- `[::]`
unfoldable pub full_slice_marks : Token → Token → Token → Token → Bool
full_slice_marks «open» first second close =
    brackets «open» close && is_kind kinds.Colon first && is_kind kinds.Colon second

-- `()`, with `...` and a comma behind the last argument where they stand
unfoldable pub call_marks : Token → Option Token → Option Token → Token → Bool
call_marks «open» ellipsis comma close =
    parens «open» close && is_if kinds.Ellipsis ellipsis && is_if kinds.Comma comma

-- ---- items of a list, each of which is told whether another follows

abbrev pub InList : Type 0
InList = Bool → Bool

abbrev pub is_filled : {A : Type 0} → List A → Bool
is_filled [] = false
is_filled (x ∷ xs) = true

abbrev pub in_turn : List InList → Bool
in_turn [] = true
in_turn (item ∷ items) = item (is_filled items) && in_turn items

abbrev pub every : List Bool → Bool
every [] = true
every (x ∷ xs) = x && every xs

-- a comma stands between items
abbrev pub between : Option Token → InList
between None more = not more
between (Some token) more = more && is_kind kinds.Comma token

-- such a token stands behind an item, and may be left out behind the last
abbrev pub ends : (Kind → Bool) → Option Token → InList
ends test None more = not more
ends test (Some token) more = test token.kind

-- ---- what may be left out

abbrev pub given_by : {A : Type 0} → (A → Bool) → Option A → Bool
given_by holds None = true
given_by holds (Some x) = holds x

abbrev pub held_by : {A : Type 0} → (A → Bool) → Option (Box A) → Bool
held_by holds None = true
held_by holds (Some x) = holds x.value

abbrev pub given : Option Bool → Bool
given part = given_by (λ holds. holds) part

abbrev pub held : Option (Box Bool) → Bool
held part = held_by (λ holds. holds) part

-- ---- what holds no tree

-- one, or any number in parentheses
abbrev pub group : Kind → Token → Option Token → Bool → Option Token → Bool
group kind word «open» specs close =
    is_kind kind word && is_if kinds.OpenParen «open» && specs && is_if kinds.CloseParen close

abbrev pub is_named : NamedType → Bool
is_named (named.Local name) = is_kind kinds.Name name
is_named (named.Imported package_name dot name) =
    is_kind kinds.Name package_name && is_kind kinds.Dot dot && is_kind kinds.Name name

abbrev pub are_names : List ListedName → Bool
are_names [] = true
are_names (x ∷ xs) = is_kind kinds.Name x.name && between x.comma (is_filled xs) && are_names xs

abbrev pub are_labels : List Label → Bool
are_labels [] = true
are_labels (x ∷ xs) = is_kind kinds.Name x.name && is_kind kinds.Colon x.colon && are_labels xs

abbrev pub is_binding : Binding → Bool
is_binding x = is_kind kinds.Name x.name && is_kind kinds.Define x.define

abbrev pub is_binding_if : Option Binding → Bool
is_binding_if binding = given_by is_binding binding
