-- Reading expressions.
use Rattle.std.specs.Prelude.{ℕ, zero, suc, ◌+◌, length, List, [], ◌∷◌, Option, Some, None, Bool, true, false, ◌&&◌}
use Rattle.std.specs.Prelude.{◌||◌, not, if◌then◌else◌, nat_le, nat_lt}
use Rattle.go_ast.specs.declared.token.Kind.{Kind}
use Rattle.go_ast.specs.declared.token.Kind.TheVariants as kinds
use Rattle.go_ast.specs.declared.token.Token.{Token}
use Rattle.go_grammar.specs.Forests as forms
use Rattle.go_grammar.specs.Forests.{Form, Forest, empty, leaf, node, append}
use Rattle.go_grammar.specs.Grammar as sorts
use Rattle.go_grammar.specs.Grammar.{Sort, Context, precedence, is_sign, closes_braces}
use Rattle.go_grammar.specs.Reading.{Reader, Plan, Before, Part, Node, Either, is_next, many_in, ◌>>=◌, run}
use Rattle.go_grammar.specs.Tests.{begins, begins_both, ◌⨟◌, word, maybe, maybe_word, list_of, word_in, not_closed}
use Rattle.go_grammar.specs.TypeReading.{Place, Plain, Header, Item, Parsers, signature_in, chan_plan, bare_in}
use Rattle.go_grammar.specs.TypeReading.{begins_bare, at_type}

-- ---- what an expression that was read may be used as

-- a form of the types that are no expressions
abbrev pub is_only_form : Form → Bool
is_only_form forms.PointerForm = true
is_only_form forms.ChanForm = true
is_only_form forms.ReceiveChanForm = true
is_only_form forms.FunctionForm = true
is_only_form _ = false

abbrev pub is_only_a_type : Forest → Bool
is_only_a_type (node form below behind) = is_only_form form
is_only_a_type _ = false

abbrev pub only_by : Form → Forest → Bool
only_by forms.TypeOperandForm form = is_only_a_type form
only_by _ form = false

-- whether this is a type that is no expression
abbrev pub is_type_only : Forest → Bool
is_type_only (node form below behind) = only_by form below
is_type_only _ = false

abbrev pub context_of : Place → Context
context_of Plain = sorts.Plain
context_of Header = sorts.Header
context_of Item = sorts.Plain

-- where an operand stands that is no type
abbrev pub of_operand : Place → Place
of_operand Plain = Plain
of_operand Header = Header
of_operand Item = Plain

abbrev pub is_item : Place → Bool
is_item Item = true
is_item _ = false

abbrev pub is_header : Place → Bool
is_header Header = true
is_header _ = false

abbrev pub unary_of : Token → Forest → Forest
unary_of operator operand = node forms.UnaryForm (leaf operator operand) empty

abbrev pub starred_by : Token → Form → Forest → Forest → Forest
starred_by star form base behind =
    if only_by form base then node forms.TypeOperandForm (node forms.PointerForm (leaf star base) empty) empty
    else unary_of star (node form base behind)

-- `*` before an expression, or before a type that is none
abbrev pub starred : Token → Forest → Forest
starred star (node form base behind) = starred_by star form base behind
starred star operand = unary_of star operand

abbrev pub named_type : Forest → Option Forest
named_type (leaf name empty) = Some (node forms.TypeNameForm (leaf name empty) empty)
named_type _ = None

abbrev pub imported_type : Forest → Option Forest
imported_type (node forms.NameForm (leaf package_name empty) (leaf dot (leaf name empty))) =
    Some (node forms.TypeNameForm (leaf package_name (leaf dot (leaf name empty))) empty)
imported_type _ = None

abbrev pub literal_type_by : Form → Forest → Option Forest
literal_type_by forms.TypeOperandForm below = Some below
literal_type_by forms.NameForm below = named_type below
literal_type_by forms.SelectorForm below = imported_type below
literal_type_by _ below = None

-- the type of a literal, whose braces follow
abbrev pub literal_type : Forest → Option Forest
literal_type (node form below behind) = literal_type_by form below
literal_type _ = None

abbrev pub is_name : Forest → Bool
is_name (node forms.NameForm below behind) = true
is_name _ = false

abbrev pub literal_by : Place → Form → Forest → Bool
literal_by place forms.TypeOperandForm below = true
literal_by place forms.NameForm below = not (is_header place)
literal_by place forms.SelectorForm below = not (is_header place) && is_name below
literal_by place _ below = false

-- whether braces behind this are those of a literal
abbrev pub is_literal_type : Place → Forest → Bool
is_literal_type place (node form below behind) = literal_by place form below
is_literal_type place _ = false

abbrev pub suffix_by : Place → Forest → Kind → List Token → Bool
suffix_by place left kinds.Dot rest = not (begins_both kinds.OpenParen kinds.TypeWord rest)
suffix_by place left kinds.OpenBracket rest = true
suffix_by place left kinds.OpenParen rest = true
suffix_by place left kinds.OpenBrace rest = is_literal_type place left
suffix_by place left _ rest = false

-- whether an operand goes on here; `.(type)` is no part of it
abbrev pub begins_suffix : Place → Forest → List Token → Bool
begins_suffix place left [] = false
begins_suffix place left (token ∷ rest) = suffix_by place left token.kind rest

-- ---- loops

pub data Turn (S : Type 0) : Type 0 where
  Done : (s : S) → Turn S
  On : (s : S) → Turn S

abbrev pub after : {S : Type 0} → Option (Turn S) → (S → Option S) → Option S
after None go = None
after (Some (Done s)) go = Some s
after (Some (On s)) go = go s

-- at most n turns
abbrev pub repeat : {S : Type 0} → (S → Option (Turn S)) → ℕ → S → Option S
repeat turn zero s = Some s
repeat turn (suc n) s = after (turn s) (repeat turn n)

-- what was read, and what is left
abbrev pub Left : Type 0
Left = Forest × List Token

-- ---- elements of literals

abbrev pub at_element : Parsers → Sort → Reader
at_element p sorts.Value = p.value
at_element p _ = λ tokens. None

abbrev pub element_in : Parsers → Reader
element_in p tokens = p.value tokens >>= λ x.
    if begins kinds.Colon x.1
    then (word_in kinds.Colon x.1 >>= λ colon. p.value colon.1 >>= λ y. Some
    (node forms.ElementForm (append x.0 (append colon.0 y.0)) empty, y.1))
    else Some (node forms.ElementForm x.0 empty, x.1)

abbrev pub separated_in : Reader → Reader
separated_in item tokens =
    item tokens >>= λ x. run (λ (sort : Sort) tokens. None)
    (Either (not_closed kinds.CloseBrace) (word kinds.Comma) (Before closes_braces)) x.1 >>= λ y. Some (
      append x.0 y.0,
      y.1,
    )

abbrev pub braces_in : Parsers → Reader
braces_in p tokens = do
  opened ← word_in kinds.OpenBrace tokens
  elements ← many_in (not_closed kinds.CloseBrace) (separated_in (element_in p)) (length opened.1) opened.1
  closed ← word_in kinds.CloseBrace elements.1
  Some (append opened.0 (append elements.0 closed.0), closed.1)

abbrev pub literal_in : Parsers → Forest → Reader
literal_in p form tokens = braces_in p tokens >>= λ x. Some (node forms.CompositeForm (append form x.0) empty, x.1)

-- ---- operands

abbrev pub block_in : Parsers → Reader
block_in p tokens = do
  opened ← word_in kinds.OpenBrace tokens
  lines ← p.statements opened.1
  closed ← word_in kinds.CloseBrace lines.1
  Some (node forms.BlockForm (append opened.0 (append lines.0 closed.0)) empty, closed.1)

abbrev pub function_in : Parsers → Place → Reader
function_in p place tokens = do
  opened ← word_in kinds.FuncWord tokens
  signature ← signature_in p opened.1
  if begins kinds.OpenBrace signature.1
      then (block_in p signature.1 >>= λ body. Some
      (node forms.LiteralFunctionForm (append opened.0 (append signature.0 body.0)) empty, body.1))
      else (if is_item place
      then Some (
        node forms.TypeOperandForm (node forms.FunctionForm (append opened.0 signature.0) empty) empty,
        signature.1,
      ) else None)

abbrev pub open_array_plan : Plan Sort
open_array_plan =
    Node forms.OpenArrayForm
    (word kinds.OpenBracket ⨟ word kinds.Ellipsis ⨟ word kinds.CloseBracket ⨟ Part sorts.AnyType)

abbrev pub open_array_in : Parsers → Reader
open_array_in p tokens =
    run (at_type p) open_array_plan tokens >>= λ x. if begins kinds.OpenBrace x.1 then Some x else None

abbrev pub type_operand_of : Reader → Reader
type_operand_of reader tokens = reader tokens >>= λ x. Some (node forms.TypeOperandForm x.0 empty, x.1)

-- a type that is an operand, or where types may stand any that begins with `chan` or `<-`
abbrev pub type_operand_in : Parsers → Place → Reader
type_operand_in p place tokens =
    if begins_both kinds.OpenBracket kinds.Ellipsis tokens then type_operand_of (open_array_in p) tokens else
    if is_next begins_bare tokens then type_operand_of (bare_in p) tokens else
    if is_item place && (begins kinds.ChanWord tokens || begins kinds.Arrow tokens)
    then type_operand_of (run (at_type p) chan_plan) tokens else None

abbrev pub operand_by : Parsers → Place → Kind → Token → Reader
operand_by p place kinds.Int token rest = Some (node forms.IntForm (leaf token empty) empty, rest)
operand_by p place kinds.Rune token rest = Some (node forms.RuneForm (leaf token empty) empty, rest)
operand_by p place kinds.Text token rest = Some (node forms.TextForm (leaf token empty) empty, rest)
operand_by p place kinds.Name token rest = Some (node forms.NameForm (leaf token empty) empty, rest)
operand_by p place kinds.OpenParen token rest = do
  inner ← p.expr Item 1 rest
  closed ← word_in kinds.CloseParen inner.1
  Some (node forms.ParenForm (leaf token (append inner.0 closed.0)) empty, closed.1)
operand_by p place kinds.FuncWord token rest = function_in p place (token ∷ rest)
operand_by p place _ token rest = type_operand_in p place (token ∷ rest)

abbrev pub operand_in : Parsers → Place → Reader
operand_in p place [] = None
operand_in p place (token ∷ rest) = operand_by p place token.kind token rest

-- ---- what goes on behind an operand

abbrev pub selector_in : Parsers → Forest → Reader
selector_in p left tokens = do
  dot ← word_in kinds.Dot tokens
  if begins kinds.OpenParen dot.1
      then (do
        opened ← word_in kinds.OpenParen dot.1
        form ← p.type_expr opened.1
        closed ← word_in kinds.CloseParen form.1
        Some (
          node forms.AssertionForm (append left (append dot.0 (append opened.0 (append form.0 closed.0)))) empty,
          closed.1,
        ))
      else (do
        name ← word_in kinds.Name dot.1
        Some (node forms.SelectorForm (append left (append dot.0 name.0)) empty, name.1))

-- the rest of a slice from its first colon on, where these stand before it
abbrev pub slice_in : Parsers → Forest → Forest → Forest → Reader
slice_in p left opened low tokens = do
  colon ← word_in kinds.Colon tokens
  if begins kinds.CloseBracket colon.1
      then (do
        closed ← word_in kinds.CloseBracket colon.1
        Some (
          node forms.SliceExprForm (append left (append opened (append low (append colon.0 closed.0)))) empty,
          closed.1,
        ))
      else (do
        high ← p.expr Plain 1 colon.1
        if begins kinds.CloseBracket high.1
            then (do
              closed ← word_in kinds.CloseBracket high.1
              Some (
                node forms.SliceExprForm
                    (append left (append opened (append low (append colon.0 (append high.0 closed.0))))) empty,
                closed.1,
              ))
            else (do
              second ← word_in kinds.Colon high.1
              max ← p.expr Plain 1 second.1
              closed ← word_in kinds.CloseBracket max.1
              Some (
                node forms.FullSliceForm
                    (append left
                    (append opened
                    (append low (append colon.0 (append high.0 (append second.0 (append max.0 closed.0))))))) empty,
                closed.1,
              )))

abbrev pub index_in : Parsers → Forest → Reader
index_in p left tokens = do
  opened ← word_in kinds.OpenBracket tokens
  if begins kinds.Colon opened.1 then slice_in p left opened.0 empty opened.1 else (do
    index ← p.expr Plain 1 opened.1
    if begins kinds.Colon index.1 then slice_in p left opened.0 index.0 index.1 else (do
      closed ← word_in kinds.CloseBracket index.1
      Some (node forms.IndexForm (append left (append opened.0 (append index.0 closed.0))) empty, closed.1)))

abbrev pub at_items : Parsers → Sort → Reader
at_items p sorts.Item = p.expr Item 1
at_items p _ = λ tokens. None

abbrev pub arguments_plan : Plan Sort
arguments_plan =
    word kinds.OpenParen ⨟ maybe (not_closed kinds.CloseParen)
    (list_of (Part sorts.Item) ⨟ maybe_word kinds.Ellipsis ⨟ maybe_word kinds.Comma) ⨟ word kinds.CloseParen

abbrev pub call_in : Parsers → Forest → Reader
call_in p left tokens =
    run (at_items p) arguments_plan tokens >>= λ x. Some (node forms.CallForm (append left x.0) empty, x.1)

abbrev pub suffix_at : Parsers → Forest → Kind → Reader
suffix_at p left kinds.Dot tokens = selector_in p left tokens
suffix_at p left kinds.OpenBracket tokens = index_in p left tokens
suffix_at p left kinds.OpenParen tokens = call_in p left tokens
suffix_at p left kinds.OpenBrace tokens = literal_type left >>= λ form. literal_in p form tokens
suffix_at p left _ tokens = None

abbrev pub suffix_in : Parsers → Forest → Reader
suffix_in p left [] = None
suffix_in p left (token ∷ rest) = suffix_at p left token.kind (token ∷ rest)

abbrev pub suffix_turn : Parsers → Place → Left → Option (Turn Left)
suffix_turn p place s =
    if begins_suffix place s.0 s.1 then (suffix_in p s.0 s.1 >>= λ x. Some (On x)) else Some (Done s)

abbrev pub primary_in : Parsers → Place → Reader
primary_in p place tokens =
    operand_in p place tokens >>= λ x. if is_type_only x.0 then Some x else repeat (suffix_turn p place) (length x.1) x

-- ---- operators

-- a sign other than `*`; before `chan`, `<-` is the front of a type
abbrev pub begins_sign_by : Kind → List Token → Bool
begins_sign_by kinds.Arrow rest = not (begins kinds.ChanWord rest)
begins_sign_by kind rest = is_sign kind

abbrev pub unary_by : Parsers → Place → Kind → Token → Reader
unary_by p place kinds.Star token rest = p.expr place 6 rest >>= λ x. Some (starred token x.0, x.1)
unary_by p place kind token rest =
    if begins_sign_by kind rest then (p.expr (of_operand place) 6 rest >>= λ x. Some (unary_of token x.0, x.1))
    else primary_in p place (token ∷ rest)

abbrev pub unary_in : Parsers → Place → Reader
unary_in p place [] = None
unary_in p place (token ∷ rest) = unary_by p place token.kind token rest

-- a binary operator that binds at least so tightly
abbrev pub operator_at : ℕ → List Token → Option (Token × List Token)
operator_at min [] = None
operator_at min (token ∷ rest) =
    if nat_lt 0 (precedence token.kind) && nat_le min (precedence token.kind) then Some (token, rest) else None

abbrev pub binary_by : Parsers → Place → Left → Option (Token × List Token) → Option (Turn Left)
binary_by p place s None = Some (Done s)
binary_by p place s (Some operator) =
    p.expr (of_operand place) (precedence operator.0.kind + 1) operator.1 >>= λ right.
    Some (On (node forms.BinaryForm (append s.0 (leaf operator.0 right.0)) empty, right.1))

abbrev pub binary_turn : Parsers → Place → ℕ → Left → Option (Turn Left)
binary_turn p place min s = binary_by p place s (operator_at min s.1)

abbrev pub binary_in : Parsers → Place → ℕ → Reader
binary_in p place min tokens =
    unary_in p place tokens >>= λ x. if is_type_only x.0 then Some x
    else repeat (binary_turn p place min) (length x.1) x

-- a key or a value: an expression, or a literal without its type
abbrev pub value_in : Parsers → Reader
value_in p tokens = if begins kinds.OpenBrace tokens then literal_in p empty tokens else binary_in p Plain 1 tokens
