-- What parts of an expression mean, and what is asked of every part. Go specification, "Operands", "Calls",
-- "Conversions" and "Address operators".
use Rattle.std.specs.Prelude.{Bool, true, false, not, is_some, if◌then◌else◌, Option, Some, None}
use Rattle.go_base.specs.declared.ids.TypeId.{TypeId}
use Rattle.go_base.specs.declared.place.Pos.{Pos}
use Rattle.go_base.specs.declared.rule.Rule.TheVariants.{WrongKindOfName, BadBuiltInCall, WrongNumberOfValues}
use Rattle.go_tree.specs.declared.exprs.TypedExpr.{TypedExpr}
use Rattle.go_type.specs.declared.term.TypeTerm.{TypeTerm}
use Rattle.go_type.specs.declared.term.TypeTerm.TheVariants.{Tuple}
use Rattle.go_type.specs.Table.{Table, term_at}
use Rattle.go_rules.specs.Untyped.{kind_at}
use Rattle.typed_parts.specs.declared.meaning.Given.{Given}
use Rattle.typed_parts.specs.declared.meaning.Meaning.{Meaning}
use Rattle.typed_parts.specs.declared.meaning.Meaning.TheVariants as meaning
use Rattle.typed_parts.specs.declared.meaning.Seen.{Seen}
use Rattle.typed_parts.specs.Joining.{asked}
use Rattle.typed_parts.specs.Numbers.{constant_in}
use Rattle.typed_parts.specs.Judged.{Judged, fine, unsound, breaks, and_then}

abbrev pub value_meaning : Option TypedExpr → Option Meaning
value_meaning (Some expr) = Some (meaning.Value expr)
value_meaning None = None

abbrev pub type_meaning : Option TypeId → Option Meaning
type_meaning (Some of) = Some (meaning.Type of)
type_meaning None = None

-- a type is no value, and a built-in function may only be called
abbrev pub meant_value : Pos → Option Meaning → Judged Given
meant_value at None = unsound
meant_value at (Some (meaning.Value expr)) = fine (record { at = at; expr = expr })
meant_value at (Some (meaning.Type of)) = breaks at WrongKindOfName
meant_value at (Some (meaning.Builtin builtin)) = breaks at BadBuiltInCall

abbrev pub value_of : Seen → Judged Given
value_of part = meant_value part.at part.meaning

abbrev pub tuple_term : Option TypeTerm → Bool
tuple_term (Some (Tuple parts)) = true
tuple_term _ = false

abbrev pub is_tuple : Table → TypeId → Bool
is_tuple types of = tuple_term (term_at types of)

-- a call of none or of several values is no single one
abbrev pub single : Table → Given → Judged Given
single types given = asked given (not (is_tuple types given.expr.of)) WrongNumberOfValues

abbrev pub one_value : Table → Seen → Judged Given
one_value types part = and_then (value_of part) (single types)

abbrev pub meant_type : Pos → Option Meaning → Judged TypeId
meant_type at None = unsound
meant_type at (Some (meaning.Type of)) = fine of
meant_type at (Some other) = breaks at WrongKindOfName

abbrev pub type_of : Seen → Judged TypeId
type_of part = meant_type part.at part.meaning

abbrev pub type_in : Option Meaning → Option TypeId
type_in (Some (meaning.Type of)) = Some of
type_in _ = None

-- whether it is a constant
abbrev pub is_constant : Option Meaning → Bool
is_constant (Some (meaning.Value expr)) = is_some (constant_in expr.kind)
is_constant _ = false

-- an untyped operand has its place as written, with parentheses
abbrev pub placed : Table → Pos → TypedExpr → TypedExpr
placed types at expr =
    if is_some (kind_at types expr.of) then record { at = at; of = expr.of; kind = expr.kind } else expr

abbrev pub in_parentheses : Table → Pos → Option Meaning → Option Meaning
in_parentheses types at (Some (meaning.Value expr)) = Some (meaning.Value (placed types at expr))
in_parentheses types at other = other

abbrev pub parenthesized : Table → Pos → Seen → Seen
parenthesized types at inside = record { at = at; meaning = in_parentheses types at inside.meaning }
