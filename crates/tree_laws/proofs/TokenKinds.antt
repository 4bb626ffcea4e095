-- Fields of tokens whose kind passes a test, and pieces that need more than one kind.
use Rattle.std.proofs.Common.{◌≡◌, refl, sym, ap, ◌∙◌, List, map, Option, Some, None}
use Rattle.std.specs.Prelude.{Bool, true, false, ◌||◌}
use Rattle.go_ast.specs.declared.token.Token.{Token}
use Rattle.go_ast.specs.declared.token.Kind.{Kind}
use Rattle.go_ast.specs.declared.token.Kind.TheVariants as kinds
use Rattle.go_grammar.specs.Forests as forms
use Rattle.go_grammar.specs.Forests.{Form, Forest}
use Rattle.go_grammar.specs.Grammar.{is_assign, is_semicolon}
use Rattle.go_grammar.specs.View as view
use Rattle.tree_roles.specs.Tokens.{is_kind, in_turn}
use Rattle.tree_roles.specs.Tokens.{ends}
use Rattle.tree_roles.specs.Tokens.{is_comma, is_range_operator, begins_clause}
use Rattle.tree_roles.specs.Tokens.{InList}
use Rattle.tree_laws.specs.Fields as fields
use Rattle.tree_laws.specs.Fields.{Field, Marked}
use Rattle.std.proofs.Common.{rules}
use Rattle.go_ast.specs.contracts.token.Kind.{the_type}
use denote.Enum.Bare.{same_true}
use Rattle.go_grammar.specs.Shapes.{is}
use Rattle.tree_laws.proofs.Told.{by_kind, in_range, in_guard, in_lines, operator_or_comma, field, mark, Plain}
use Rattle.tree_laws.proofs.Pieces.{Part, Line, HasLines, kind_is, nothing, token_is, token_of, each_line}

either : (P : Type 0) (a b : Bool) → (a ≡ true → P) → (b ≡ true → P) → (a || b) ≡ true → P
either P true b f g h = f refl
either P false b f g h = g h

same_kind : (kind other : Kind) → is kind other ≡ true → kind ≡ other
same_kind kind other h = same_true the_type (search rules) kind other h

pub comma_field : (kind : Kind) → is_comma kind ≡ true → by_kind kind ≡ fields.Comma
comma_field kind h = ap by_kind (same_kind kind kinds.Comma h)

pub clause_field : (kind : Kind) → begins_clause kind ≡ true → by_kind kind ≡ fields.Word
clause_field kind h = either (by_kind kind ≡ fields.Word) (is kind kinds.CaseWord) (is kind kinds.DefaultWord) (λ e. ap by_kind (same_kind kind kinds.CaseWord e)) (λ e. ap by_kind (same_kind kind kinds.DefaultWord e)) h

pub range_field : (kind : Kind) → is_range_operator kind ≡ true → in_range kind ≡ fields.Operator
range_field kind h = either (in_range kind ≡ fields.Operator) (is kind kinds.Assign) (is kind kinds.Define) (λ e. ap in_range (same_kind kind kinds.Assign e)) (λ e. ap in_range (same_kind kind kinds.Define e)) h

pub semicolon_field : (kind : Kind) → is_semicolon kind ≡ true → by_kind kind ≡ fields.Semicolon
semicolon_field kinds.Semicolon h = refl
semicolon_field kinds.Inserted h = refl
semicolon_field _ h = cc

pub guard_field : (kind : Kind) → is_semicolon kind ≡ true → in_guard kind ≡ fields.Semicolon
guard_field kinds.Semicolon h = refl
guard_field kinds.Inserted h = refl
guard_field _ h = cc

behind_field : (kind : Kind) → is_semicolon kind ≡ true → in_lines true kind ≡ fields.Semicolon
behind_field kinds.Semicolon h = refl
behind_field kinds.Inserted h = refl
behind_field _ h = cc

alone_field : (kind : Kind) → is_semicolon kind ≡ true → in_lines false kind ≡ fields.Only
alone_field kinds.Semicolon h = refl
alone_field kinds.Inserted h = refl
alone_field _ h = cc

pub assign_field : (kind : Kind) → is_assign kind ≡ true → operator_or_comma kind ≡ fields.Operator
assign_field kinds.Comma h = cc
assign_field _ h = refl

pub struct_lines : HasLines forms.StructForm
struct_lines = record { behind = λ after kind h. behind_field kind h; alone = λ after kind h. alone_field kind h }

pub interface_lines : HasLines forms.InterfaceForm
interface_lines = record { behind = λ after kind h. behind_field kind h; alone = λ after kind h. alone_field kind h }

-- the last comma of a call stands before its closing parenthesis
pub comma_and_close : (comma close : Token) → is_kind kinds.Comma comma ≡ true → is_kind kinds.CloseParen close ≡ true → Part forms.CallForm (forms.append (view.token_if (Some comma)) (view.one close)) (fields.append (fields.token_if fields.LastComma (Some comma)) (fields.one fields.Close close))
comma_and_close comma close h k = record {
  reads = λ before rest.
      ap (λ (f : Field). fields.leaf f comma (mark forms.CallForm false (forms.leaf close rest))) (ap (λ (kind : Kind). field forms.CallForm before false kind) (kind_is kinds.Comma comma h))
      ∙ ap (λ (m : Marked). fields.leaf fields.LastComma comma m) ((token_is forms.CallForm fields.Close kinds.CloseParen close (λ before after. refl) k).reads false rest);
}

pub line_end : (form : Form) → Plain form → ((before after : Bool) (kind : Kind) → is_semicolon kind ≡ true → field form before after kind ≡ fields.Semicolon) → (t : Option Token) (more : Bool) → ends is_semicolon t more ≡ true → Part form (view.token_if t) (fields.token_if fields.Semicolon t)
line_end form fine says None more h = nothing fine
line_end form fine says (Some t) more h = token_of form fields.Semicolon is_semicolon t says h

-- lines in braces behind a word
pub lines_within : {A : Type 0} (form : Form) (f : Field) (kind : Kind) → HasLines form → ((before after : Bool) → field form before after kind ≡ f) → ((before after : Bool) → field form before after kinds.OpenBrace ≡ fields.Open) → ((before after : Bool) → field form before after kinds.CloseBrace ≡ fields.Close) → (roles : A → InList) (view_of : A → Forest) (fields_of : A → Marked) → (word «open» : Token) (xs : List ((x : A) × ((more : Bool) → roles x more ≡ true → Line more (view_of x) (fields_of x)))) (close : Token) → is_kind kind word ≡ true → is_kind kinds.OpenBrace «open» ≡ true → in_turn (map roles (map (λ e. e.0) xs)) ≡ true → is_kind kinds.CloseBrace close ≡ true
    → mark form false (forms.append (view.one word) (forms.append (view.one «open») (forms.append (view.all (map view_of (map (λ e. e.0) xs))) (view.one close)))) ≡ fields.append (fields.one f word) (fields.append (fields.one fields.Open «open») (fields.append (fields.all (map fields_of (map (λ e. e.0) xs))) (fields.one fields.Close close)))
lines_within form f kind has says opens closes roles view_of fields_of word «open» xs close h i j k =
    let last = λ (before : Bool). ap (λ (g : Field). fields.leaf g close fields.empty) (ap (λ (kind : Kind). field form before false kind) (kind_is kinds.CloseBrace close k) ∙ closes before false) in
    let inner = each_line roles view_of fields_of xs j form has (view.one close) (last true ∙ sym (last false)) ∙ ap (λ (m : Marked). fields.append (fields.all (map fields_of (map (λ e. e.0) xs))) m) (last false) in
    (token_is form f kind word says h).reads false (forms.append (view.one «open») (forms.append (view.all (map view_of (map (λ e. e.0) xs))) (view.one close)))
    ∙ ap (λ (m : Marked). fields.leaf f word m) ((token_is form fields.Open kinds.OpenBrace «open» opens i).reads false (forms.append (view.all (map view_of (map (λ e. e.0) xs))) (view.one close)))
    ∙ ap (λ (m : Marked). fields.leaf f word (fields.leaf fields.Open «open» m)) inner
