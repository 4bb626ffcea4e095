-- In which field a token stands, by the form of the node, by what stands beside it, and by its kind.
use Rattle.std.proofs.Common.{◌≡◌, refl, ap, ◌∙◌}
use Rattle.std.specs.Prelude.{Bool, true, false, cond}
use Rattle.go_ast.specs.declared.token.Kind.{Kind}
use Rattle.go_ast.specs.declared.token.Kind.TheVariants as kinds
use Rattle.go_grammar.specs.Forests as forms
use Rattle.go_grammar.specs.Forests.{Form, Forest}
use Rattle.tree_laws.specs.Fields as fields
use Rattle.tree_laws.specs.Fields.{Field, Marked, forget}

abbrev pub by_kind : Kind → Field
by_kind kinds.Name = fields.Name
by_kind kinds.Int = fields.Only
by_kind kinds.Rune = fields.Only
by_kind kinds.Text = fields.Only
by_kind kinds.Comma = fields.Comma
by_kind kinds.Semicolon = fields.Semicolon
by_kind kinds.Inserted = fields.Semicolon
by_kind kinds.Ellipsis = fields.Ellipsis
by_kind kinds.Assign = fields.Assign
by_kind kinds.Define = fields.Define
by_kind kinds.Colon = fields.Colon
by_kind kinds.Dot = fields.Dot
by_kind kinds.Star = fields.Star
by_kind kinds.Arrow = fields.Arrow
by_kind kinds.OpenParen = fields.Open
by_kind kinds.OpenBracket = fields.Open
by_kind kinds.OpenBrace = fields.Open
by_kind kinds.CloseParen = fields.Close
by_kind kinds.CloseBracket = fields.Close
by_kind kinds.CloseBrace = fields.Close
by_kind kinds.ElseWord = fields.ElseWord
by_kind kinds.RangeWord = fields.Range
by_kind _ = fields.Word

-- all but commas are operators
abbrev pub operator_or_comma : Kind → Field
operator_or_comma kinds.Comma = fields.Comma
operator_or_comma _ = fields.Operator

abbrev pub in_range : Kind → Field
in_range kinds.Assign = fields.Operator
in_range kinds.Define = fields.Operator
in_range kind = by_kind kind

-- the comma behind the last argument is none of a list
abbrev pub in_call : Bool → Kind → Field
in_call after kinds.Comma = cond after fields.Comma fields.LastComma
in_call after kind = by_kind kind

-- a semicolon that stands behind no node is a line of its own
abbrev pub in_lines : Bool → Kind → Field
in_lines before kinds.Semicolon = cond before fields.Semicolon fields.Only
in_lines before kinds.Inserted = cond before fields.Semicolon fields.Only
in_lines before kind = by_kind kind

abbrev pub in_import : Kind → Field
in_import kinds.Text = fields.Path
in_import kind = by_kind kind

abbrev pub in_field : Kind → Field
in_field kinds.Text = fields.Tag
in_field kind = by_kind kind

abbrev pub in_jump : Kind → Field
in_jump kinds.Name = fields.Target
in_jump kind = by_kind kind

abbrev pub in_guard : Kind → Field
in_guard kinds.OpenParen = fields.OpenParen
in_guard kinds.CloseParen = fields.CloseParen
in_guard kinds.TypeWord = fields.TypeWord
in_guard kind = by_kind kind

-- whether a node stands right before, whether one stands right behind
abbrev pub field : Form → Bool → Bool → Kind → Field
field forms.NameForm before after kind = fields.Only
field forms.IntForm before after kind = fields.Only
field forms.RuneForm before after kind = fields.Only
field forms.TextForm before after kind = fields.Only
field forms.FallthroughForm before after kind = fields.Only
field forms.ImportSpecForm before after kind = in_import kind
field forms.NamedFieldForm before after kind = in_field kind
field forms.EmbeddedFieldForm before after kind = in_field kind
field forms.BreakForm before after kind = in_jump kind
field forms.ContinueForm before after kind = in_jump kind
field forms.UnaryForm before after kind = fields.Operator
field forms.BinaryForm before after kind = fields.Operator
field forms.StepForm before after kind = fields.Operator
field forms.AssignForm before after kind = operator_or_comma kind
field forms.DefineForm before after kind = operator_or_comma kind
field forms.RangeForm before after kind = in_range kind
field forms.CallForm before after kind = in_call after kind
field forms.StructForm before after kind = in_lines before kind
field forms.InterfaceForm before after kind = in_lines before kind
field forms.TypeSwitchForm before after kind = in_guard kind
field _ before after kind = by_kind kind

abbrev pub begins : Forest → Bool
begins forms.empty = false
begins (forms.leaf token behind) = false
begins (forms.node form below behind) = true

abbrev pub mark : Form → Bool → Forest → Marked
mark form before forms.empty = fields.empty
mark form before (forms.leaf token behind) =
    fields.leaf (field form before (begins behind) token.kind) token (mark form false behind)
mark form before (forms.node inner below behind) = fields.node inner (mark inner false below) (mark form true behind)

pub forget_mark : (form : Form) (before : Bool) (trees : Forest) → forget (mark form before trees) ≡ trees
forget_mark form before forms.empty = refl
forget_mark form before (forms.leaf token behind) = ap (λ (f : Forest). forms.leaf token f) (forget_mark form false behind)
forget_mark form before (forms.node inner below behind) =
    ap (λ (f : Forest). forms.node inner f (forget (mark form true behind))) (forget_mark inner false below)
    ∙ ap (λ (f : Forest). forms.node inner below f) (forget_mark form true behind)

-- in most forms it does not matter what stands right before
abbrev pub Plain : Form → Type 0
Plain form = (after : Bool) (kind : Kind) → field form true after kind ≡ field form false after kind

pub same_before : (form : Form) → Plain form → (trees : Forest) → mark form true trees ≡ mark form false trees
same_before form fine forms.empty = refl
same_before form fine (forms.leaf token behind) =
    ap (λ (f : Field). fields.leaf f token (mark form false behind)) (fine (begins behind) token.kind)
same_before form fine (forms.node inner below behind) = refl
