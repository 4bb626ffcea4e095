-- Reading types.
use Rattle.std.specs.Prelude.{ℕ, suc, zero, length, List, [], ◌∷◌, Option, Some, None, Bool, true, false, ◌&&◌, ◌||◌}
use Rattle.std.specs.Prelude.{not, if◌then◌else◌}
use Rattle.go_ast.specs.declared.token.Kind.{Kind}
use Rattle.go_ast.specs.declared.token.Kind.TheVariants as kinds
use Rattle.go_ast.specs.declared.token.Token.{Token}
use Rattle.go_grammar.specs.Forests as forms
use Rattle.go_grammar.specs.Forests.{Forest, empty, leaf, node, append}
use Rattle.go_grammar.specs.Grammar as sorts
use Rattle.go_grammar.specs.Grammar.{Sort, is_arrow, is_dot, begins_type, closes_braces}
use Rattle.go_grammar.specs.Reading.{Reader, Plan, Part, Node, Either, Many, is_next, ◌>>=◌, run}
use Rattle.go_grammar.specs.Tests.{begins, begins_both, begins_semicolon, begins_type_at, ◌⨟◌, word, not_before}
use Rattle.go_grammar.specs.Tests.{maybe_word, semicolon, end_of_line, not_closed, not_empty, names, word_in}

-- where an expression stands: in a header, where a type may stand too, or elsewhere
pub data Place : Type 0 where
  Plain Header Item : Place

-- The readers that lie within, each behind a token that was read.
pub record Parsers : Type 0 where
  -- operators bind at least so tightly
  pub expr : Place → ℕ → Reader
  pub type_expr : Reader
  pub value : Reader
  pub statements : Reader

-- ---- plans

abbrev pub type_name_plan : Plan Sort
type_name_plan =
    Node forms.TypeNameForm
    (word kinds.Name ⨟ Either (begins kinds.Dot) (word kinds.Dot ⨟ word kinds.Name) (not_before is_dot))

abbrev pub pointer_plan : Plan Sort
pointer_plan = Node forms.PointerForm (word kinds.Star ⨟ Part sorts.AnyType)

abbrev pub chan_plan : Plan Sort
chan_plan =
    Either (begins kinds.ChanWord)
    (Node forms.ChanForm
    (word kinds.ChanWord ⨟ Either (begins kinds.Arrow) (word kinds.Arrow) (not_before is_arrow) ⨟ Part
    sorts.AnyType))
    (Node forms.ReceiveChanForm (word kinds.Arrow ⨟ word kinds.ChanWord ⨟ Part sorts.AnyType))

abbrev pub function_plan : Plan Sort
function_plan = Node forms.FunctionForm (word kinds.FuncWord ⨟ Part sorts.Signature)

-- whether `T` or `*T` stands here in place of fields with names
abbrev pub embedded_behind : List Token → Bool
embedded_behind tokens =
    begins kinds.Dot tokens || begins kinds.Text tokens || begins_semicolon tokens || begins kinds.CloseBrace tokens

abbrev pub begins_embedded : List Token → Bool
begins_embedded [] = false
begins_embedded (token ∷ tokens) =
    begins kinds.Star (token ∷ tokens) || (begins kinds.Name (token ∷ tokens) && embedded_behind tokens)

abbrev pub begins_named : List Token → Bool
begins_named tokens = not (begins_embedded tokens)

abbrev pub field_plan : Plan Sort
field_plan =
    Either begins_named
    (Node forms.NamedFieldForm (names ⨟ Part sorts.AnyType ⨟ maybe_word kinds.Text))
    (Node forms.EmbeddedFieldForm (maybe_word kinds.Star ⨟ Part sorts.TypeName ⨟ maybe_word kinds.Text))

abbrev pub element_plan : Plan Sort
element_plan =
    Either (begins_both kinds.Name kinds.OpenParen)
    (Node forms.MethodForm (word kinds.Name ⨟ Part sorts.Signature))
    (Node forms.EmbeddedElementForm (Part sorts.TypeName))

abbrev pub lines_plan : Plan Sort → Plan Sort
lines_plan item =
    word kinds.OpenBrace ⨟ Many (not_closed kinds.CloseBrace)
    (Either not_empty (item ⨟ end_of_line closes_braces) semicolon) ⨟ word kinds.CloseBrace

abbrev pub bare_plan : Plan Sort
bare_plan =
    Either (begins_both kinds.OpenBracket kinds.CloseBracket)
    (Node forms.SliceForm (word kinds.OpenBracket ⨟ word kinds.CloseBracket ⨟ Part sorts.AnyType))
    (Either (begins kinds.OpenBracket)
    (Node forms.ArrayForm
    (word kinds.OpenBracket ⨟ Part (sorts.Binary sorts.Disjunction sorts.Plain) ⨟ word kinds.CloseBracket ⨟ Part
    sorts.AnyType))
    (Either (begins kinds.MapWord)
    (Node forms.MapForm
    (word kinds.MapWord ⨟ word kinds.OpenBracket ⨟ Part sorts.AnyType ⨟ word kinds.CloseBracket ⨟ Part
    sorts.AnyType))
    (Either (begins kinds.StructWord)
    (Node forms.StructForm (word kinds.StructWord ⨟ lines_plan field_plan))
    (Node forms.InterfaceForm (word kinds.InterfaceWord ⨟ lines_plan element_plan)))))

abbrev pub begins_bare : Kind → Bool
begins_bare kinds.OpenBracket = true
begins_bare kinds.MapWord = true
begins_bare kinds.StructWord = true
begins_bare kinds.InterfaceWord = true
begins_bare _ = false

abbrev pub long_plan : Plan Sort
long_plan =
    Either (begins kinds.Name) (Part sorts.TypeName)
    (Either (begins kinds.Star) pointer_plan
    (Either (is_next begins_bare) (Part sorts.BareType)
    (Either (not_closed kinds.FuncWord) chan_plan function_plan)))

abbrev pub type_plan : Plan Sort
type_plan =
    Either (not_closed kinds.OpenParen) (Part sorts.LongType)
    (Node forms.ParenTypeForm (word kinds.OpenParen ⨟ Part sorts.AnyType ⨟ word kinds.CloseParen))

abbrev pub signature_plan : Plan Sort
signature_plan =
    Node forms.SignatureForm (Part sorts.Params ⨟ Either (begins kinds.OpenParen) (Part sorts.Results)
    (Either begins_type_at (Part sorts.LongType) (not_before begins_type)))

-- ---- parameters

-- what was read of a parameter: a name that stands before its type has its type there
pub record Entry : Type 0 where
  pub name : Option Token
  pub ellipsis : Option Token
  pub form : Forest
  pub comma : Option Token

abbrev pub token_if : Option Token → Forest
token_if None = empty
token_if (Some token) = leaf token empty

-- a token of this kind, or nothing
abbrev pub optional_in : Kind → List Token → Option Token × List Token
optional_in kind [] = (None, [])
optional_in kind (token ∷ tokens) =
    if begins kind (token ∷ tokens) then (Some token, tokens) else (None, token ∷ tokens)

-- whether a name stands here before its type
abbrev pub begins_named_param : List Token → Bool
begins_named_param [] = false
begins_named_param (token ∷ tokens) =
    begins kinds.Name (token ∷ tokens) && (begins_type_at tokens || begins kinds.Ellipsis tokens)

abbrev pub param_name_in : List Token → Option Token × List Token
param_name_in [] = (None, [])
param_name_in (token ∷ tokens) =
    if begins_named_param (token ∷ tokens) then (Some token, tokens) else (None, token ∷ tokens)

-- the comma behind an item, which may be left out before the end
abbrev pub separator_in : Kind → List Token → Option (Option Token × List Token)
separator_in end [] = None
separator_in end (token ∷ tokens) =
    if begins end (token ∷ tokens) then Some (None, token ∷ tokens) else
    if begins kinds.Comma (token ∷ tokens) then Some (Some token, tokens) else None

abbrev pub entry_in : Parsers → List Token → Option (Entry × List Token)
entry_in p tokens =
    let named = param_name_in tokens in
    let dots = optional_in kinds.Ellipsis named.1 in
    p.type_expr dots.1 >>= λ form. separator_in kinds.CloseParen form.1 >>= λ comma.
    Some (record { name = named.0; ellipsis = dots.0; form = form.0; comma = comma.0 }, comma.1)

-- at most n of them
abbrev pub entries_in : Parsers → ℕ → List Token → Option (List Entry × List Token)
entries_in p zero tokens = Some ([], tokens)
entries_in p (suc n) tokens =
    if begins kinds.CloseParen tokens then Some ([], tokens) else
    (entry_in p tokens >>= λ entry. entries_in p n entry.1 >>= λ more. Some (entry.0 ∷ more.0, more.1))

abbrev pub has_names : List Entry → Bool
has_names [] = false
has_names (entry ∷ entries) = is_some entry.name || has_names entries
  where
    is_some : Option Token → Bool
    is_some None = false
    is_some (Some token) = true

-- `...` stands before the last type alone, and only where it may
abbrev pub are_dots_fine : Bool → Option Token → List Entry → Bool
are_dots_fine variadic None entries = true
are_dots_fine variadic (Some token) [] = variadic
are_dots_fine variadic (Some token) (entry ∷ entries) = false

abbrev pub param_of : Forest → Entry → Forest
param_of name entry =
    append (node forms.ParamForm (append name (append (token_if entry.ellipsis) entry.form)) empty)
    (token_if entry.comma)

-- parameters without names
abbrev pub types_of : Bool → List Entry → Option Forest
types_of variadic [] = Some empty
types_of variadic (entry ∷ entries) =
    if are_dots_fine variadic entry.ellipsis entries
    then (types_of variadic entries >>= λ more. Some (append (param_of empty entry) more)) else None

-- the name that was read as a type, with the comma behind it
abbrev pub name_of_type : Option Token → Forest → Option Token → Option Forest
name_of_type None (node forms.TypeNameForm (leaf name empty) behind) (Some comma) = Some (leaf name (leaf comma empty))
name_of_type _ _ _ = None

abbrev pub is_none : Forest → Bool
is_none empty = true
is_none _ = false

-- parameters with names: those read as types are names of the next parameter
abbrev pub groups_of : Bool → Forest → List Entry → Option Forest
groups_of variadic names [] = if is_none names then Some empty else None
groups_of variadic names (entry ∷ entries) =
    group_by entry.name (groups_of variadic empty entries) (λ more. groups_of variadic more entries)
  where
    group_by : Option Token → Option Forest → (Forest → Option Forest) → Option Forest
    group_by None closed go = name_of_type entry.ellipsis entry.form entry.comma >>= λ name. go (append names name)
    group_by (Some name) closed go =
        if are_dots_fine (variadic && is_none names) entry.ellipsis entries
        then (closed >>= λ more. Some (append (param_of (append names (leaf name empty)) entry) more)) else None

abbrev pub params_of : Bool → List Entry → Option Forest
params_of variadic entries = if has_names entries then groups_of variadic empty entries else types_of variadic entries

abbrev pub params_in : Parsers → Bool → Reader
params_in p variadic tokens = do
  opened ← word_in kinds.OpenParen tokens
  entries ← entries_in p (length opened.1) opened.1
  closed ← word_in kinds.CloseParen entries.1
  params ← params_of variadic entries.0
  Some (node forms.ParamsForm (append opened.0 (append params closed.0)) empty, closed.1)

-- ---- the readers of types

abbrev pub type_name_in : Reader
type_name_in = run (λ sort tokens. None) type_name_plan

abbrev pub at_signature : Parsers → Sort → Reader
at_signature p sorts.Params = params_in p true
at_signature p sorts.Results = params_in p false
at_signature p sorts.LongType = λ tokens. if begins kinds.OpenParen tokens then None else p.type_expr tokens
at_signature p _ = λ tokens. None

abbrev pub signature_in : Parsers → Reader
signature_in p = run (at_signature p) signature_plan

-- what types are made of
abbrev pub at_type : Parsers → Sort → Reader
at_type p sorts.AnyType = p.type_expr
at_type p sorts.TypeName = type_name_in
at_type p sorts.Signature = signature_in p
at_type p (sorts.Binary sorts.Disjunction sorts.Plain) = p.expr Plain 1
at_type p _ = λ tokens. None

abbrev pub bare_in : Parsers → Reader
bare_in p = run (at_type p) bare_plan

abbrev pub at_long : Parsers → Sort → Reader
at_long p sorts.BareType = bare_in p
at_long p sort = at_type p sort

abbrev pub long_in : Parsers → Reader
long_in p = run (at_long p) long_plan

abbrev pub at_any : Parsers → Sort → Reader
at_any p sorts.LongType = long_in p
at_any p sort = at_type p sort

abbrev pub type_in : Parsers → Reader
type_in p = run (at_any p) type_plan
