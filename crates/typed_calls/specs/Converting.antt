-- Conversions. Go specification, "Conversions" and "Conversions to and from a string type".
use Rattle.std.specs.Prelude.{◌≡◌, ℕ, ℤ, pos, negsuc, ◌&&◌, ◌||◌, Bool, true, false, is_some, if◌then◌else◌, IsTrue}
use Rattle.std.specs.Prelude.{◌⊎◌, List, [], ◌∷◌, Option, Some, None, Result, Ok, Err}
use Rattle.std.specs.Option.{option_map}
use lib.Utf8.{scalar}
use Rattle.std.specs.Char.{encode_utf8}
use Rattle.std.specs.Global.{Box}
use Rattle.go_base.specs.declared.ids.TypeId.{TypeId}
use Rattle.go_base.specs.declared.place.Pos.{Pos}
use Rattle.go_base.specs.declared.rule.Rule.{Rule}
use Rattle.go_base.specs.declared.rule.Rule.TheVariants.{BadConversion, BadUseOfDots, ConstantOutOfRange}
use Rattle.go_base.specs.declared.rule.Rule.TheVariants.{WrongNumberOfValues}
use Rattle.go_rules.specs.declared.untyped.Untyped.{Untyped}
use Rattle.go_rules.specs.declared.untyped.Untyped.TheVariants as kind
use Rattle.go_rules.specs.Matching.{is_empty_interface}
use Rattle.go_rules.specs.Operands.{is_nillable}
use Rattle.go_rules.specs.Untyped.{default_of, fits_type, is_text_type, kind_at}
use Rattle.go_tree.specs.declared.exprs.ExprKind.{ExprKind}
use Rattle.go_tree.specs.declared.exprs.ExprKind.TheVariants.{ConstOf, ConvertTo, ToInterface}
use Rattle.go_tree.specs.declared.exprs.TypedExpr.{TypedExpr}
use Rattle.go_type.specs.declared.constants.Const.{Const}
use Rattle.go_type.specs.declared.constants.Const.TheVariants as constant
use Rattle.go_type.specs.declared.term.Basic.{Basic}
use Rattle.go_type.specs.declared.term.Basic.TheVariants as basic
use Rattle.go_type.specs.declared.term.TypeTerm.{TypeTerm}
use Rattle.go_type.specs.declared.term.TypeTerm.TheVariants.{Basic as Plain, Pointer, Func, Slice, Array, Struct}
use Rattle.go_type.specs.declared.term.TypeTerm.TheVariants.{Map, Chan, Interface}
use Rattle.go_type.specs.Assignable.{Assignable, underlying_term_of}
use Rattle.go_type.specs.Conditions.{is_held}
use Rattle.go_type.specs.Grows.{Grows}
use Rattle.go_type.specs.Kinds.{kind_of}
use Rattle.go_type.specs.Representable.{representable}
use Rattle.go_type.specs.Same.{same_id}
use Rattle.go_type.specs.Table.{Table, basic_id, term_at, underlying_of}
use Rattle.type_bare.specs.Same.{SameButTags}
use Rattle.type_bare.specs.Stripped.{KeepsDefinitions}
use Rattle.typed_parts.specs.declared.meaning.Given.{Given}
use Rattle.typed_parts.specs.declared.meaning.Seen.{Seen}
use Rattle.typed_parts.specs.Judged.{IsFine, Judged, breaks, fine, unsound}
use Rattle.typed_parts.specs.Meanings.{one_value}
use Rattle.typed_parts.specs.Nodes.{node}
use Rattle.typed_parts.specs.Numbers.{integer_of}
use Rattle.typed_parts.specs.Retyping.{IsGiven}
use Rattle.typed_parts.specs.Shapes.{is_interface}
use Rattle.typed_calls.specs.declared.converting.ConstantConversion.{ConstantConversion}
use Rattle.typed_calls.specs.declared.converting.ConstantConversion.TheVariants as becomes
use Rattle.typed_calls.specs.declared.converting.UntypedConversion.{UntypedConversion}
use Rattle.typed_calls.specs.declared.converting.UntypedConversion.TheVariants as how
use Rattle.typed_parts.specs.Turning.{Asks, IsEach, IsThenSoundly, Keeps}
use Rattle.typed_parts.specs.Limits.{Basis}

-- ---- the argument: one value, without a `...`

abbrev pub first_place : List Given → Pos → Pos
first_place (x ∷ xs) otherwise = x.at
first_place [] otherwise = otherwise

abbrev pub sole_breach : List Given → Pos → Option Pos → Option (Pos × Rule)
sole_breach arguments at (Some dots) = Some (dots, BadUseOfDots)
sole_breach (x ∷ []) at None = None
sole_breach arguments at None = Some (first_place arguments at, WrongNumberOfValues)

-- the one of several that has to be one
abbrev pub sole : List Given → Judged Given
sole (x ∷ []) = fine x
sole _ = unsound

abbrev pub sole_unless : List Given → Option (Pos × Rule) → Judged Given
sole_unless arguments None = sole arguments
sole_unless arguments (Some (at, rule)) = breaks at rule

abbrev pub sole_asked : Pos → Option Pos → List Given → Judged Given
sole_asked at dots arguments = sole_unless arguments (sole_breach arguments at dots)

-- ---- constants

abbrev pub number_conversion : Bool → Bool → ConstantConversion
number_conversion true text = becomes.Integer
number_conversion false true = becomes.Text
number_conversion false false = becomes.Other

abbrev pub text_conversion : Bool → ConstantConversion
text_conversion true = becomes.Text
text_conversion false = becomes.Other

-- "Converting a constant to a type yields a typed constant", where it is one of an integer, string or boolean type
abbrev pub value_conversion : Table → Const → TypeId → ConstantConversion
value_conversion types (constant.Int number) to =
    number_conversion (is_some (kind_of types to)) (is_text_type types to)
value_conversion types (constant.Rune number) to =
    number_conversion (is_some (kind_of types to)) (is_text_type types to)
value_conversion types (constant.Text bytes) to = text_conversion (representable types (constant.Text bytes) to)
value_conversion types (constant.Truth truth) to = text_conversion (representable types (constant.Truth truth) to)

abbrev pub kind_conversion : Table → ExprKind → TypeId → ConstantConversion
kind_conversion types (ConstOf value) to = value_conversion types value to
kind_conversion types _ to = becomes.Other

abbrev pub constant_conversion : Table → TypedExpr → TypeId → ConstantConversion
constant_conversion types expr to = kind_conversion types expr.kind to

-- "x is representable by a value of type T"
abbrev pub integer_as : Table → Pos → Pos → TypeId → Option ℤ → Judged TypedExpr
integer_as types at place to (Some number) =
    if representable types (constant.Int number) to then fine (node at to (ConstOf (constant.Int number)))
    else breaks place ConstantOutOfRange
integer_as types at place to None = unsound

-- an integer as a constant of an integer type
abbrev pub as_integer : Table → Pos → Given → TypeId → Judged TypedExpr
as_integer types at x to = integer_as types at x.at to (integer_of x.expr)

-- "Values outside the range of valid Unicode code points are converted to "\uFFFD""
abbrev pub character : ℤ → ℕ
character (pos number) = if scalar number then number else 65533
character (negsuc number) = 65533

abbrev pub text_value : Const → Const
text_value (constant.Int number) = constant.Text (encode_utf8 (character number))
text_value (constant.Rune number) = constant.Text (encode_utf8 (character number))
text_value other = other

abbrev pub text_node : Pos → TypeId → ExprKind → Option TypedExpr
text_node at to (ConstOf value) = Some (node at to (ConstOf (text_value value)))
text_node at to _ = None

-- a constant of a string or boolean type
abbrev pub text_constant : Pos → TypedExpr → TypeId → Judged TypedExpr
text_constant at expr to = record { sound = text_node at to expr.kind; broken = [] }

-- ---- untyped operands

abbrev pub integer_kind : Untyped → Bool
integer_kind kind.Int = true
integer_kind kind.Rune = true
integer_kind _ = false

abbrev pub text_kind : Untyped → Bool
text_kind kind.Text = true
text_kind _ = false

abbrev pub character_basic : Option TypeTerm → Bool
character_basic (Some (Plain basic.Uint8)) = true
character_basic (Some (Plain basic.Int32)) = true
character_basic _ = false

abbrev pub characters_term : Table → Option TypeTerm → Bool
characters_term types (Some (Slice elem)) = character_basic (underlying_term_of types elem)
characters_term types _ = false

-- "x is a string and T is a slice of bytes or runes"
abbrev pub is_characters : Table → TypeId → Bool
is_characters types of = characters_term types (underlying_term_of types of)

abbrev pub through : Option Basic → Bool → UntypedConversion
through (Some plain) true = how.Through (basic_id plain)
through _ _ = how.Refused

abbrev pub retyped_or : Bool → UntypedConversion → UntypedConversion
retyped_or true other = how.Retyped
retyped_or false other = other

-- an untyped operand takes the type where it may, or its default type first
abbrev pub untyped_conversion : Table → Untyped → TypeId → UntypedConversion
untyped_conversion types kind.Nil to = retyped_or (is_nillable types to) how.Refused
untyped_conversion types kind to =
    retyped_or (fits_type types kind to || (integer_kind kind && is_text_type types to))
    (through (default_of kind) (is_empty_interface types to || (text_kind kind && is_characters types to)))

-- a conversion that is written always leaves a node
abbrev pub explicit_kind : Bool → Box TypedExpr → ExprKind
explicit_kind true operand = ToInterface operand
explicit_kind false operand = ConvertTo operand

abbrev pub IsExplicit : Table → Pos → TypedExpr → TypeId → TypedExpr → Type 0
IsExplicit types at expr to made =
    (b : Box TypedExpr) × ((b.value ≡ expr) × (made ≡ node at to (explicit_kind (is_interface types to) b)))

abbrev pub moved : Pos → TypedExpr → TypedExpr
moved at expr = node at expr.of expr.kind

abbrev pub moved_result : {E : Type 0} → Pos → Result (Option TypedExpr) E → Result (Option TypedExpr) E
moved_result at (Ok expr) = Ok (option_map (moved at) expr)
moved_result at (Err error) = Err error

abbrev pub placed : Pos → Judged TypedExpr → Judged TypedExpr
placed at of = record { sound = option_map (moved at) of.sound; broken = of.broken }

abbrev pub IsRetypedAt : Table → Pos → TypedExpr → TypeId → Judged TypedExpr → Type 0
IsRetypedAt types at expr to result =
    (given : Judged TypedExpr) × (IsGiven types to expr given × (result ≡ placed at given))

abbrev pub IsExplicitNode : Pos → TypeId → TypedExpr → Basis → Basis → Judged TypedExpr → Type 0
IsExplicitNode at to expr before after result =
    Keeps (λ types. IsFine (IsExplicit types at expr to)) before after result

abbrev pub IsThrough : TypeId → Pos → TypeId → TypedExpr → Basis → Basis → Judged TypedExpr → Type 0
IsThrough of at to expr before after result =
    IsThenSoundly (Keeps (λ types. IsGiven types of expr)) (IsExplicitNode at to) before after result

abbrev pub IsUntypedAs : UntypedConversion → Pos → TypedExpr → TypeId → Basis → Basis → Judged TypedExpr → Type 0
IsUntypedAs how.Retyped at expr to before after result =
    Keeps (λ types. IsRetypedAt types at expr to) before after result
IsUntypedAs (how.Through of) at expr to before after result = IsThrough of at to expr before after result
IsUntypedAs how.Refused at expr to before after result = Asks (λ types. breaks at BadConversion) before after result

abbrev pub IsUntypedConverted : Pos → TypedExpr → Untyped → TypeId → Basis → Basis → Judged TypedExpr → Type 0
IsUntypedConverted at expr kind to before after result =
    IsUntypedAs (untyped_conversion before.types kind to) at expr to before after result

-- ---- typed values

-- "x's type and T have identical underlying types", "x's type and T are both integer types", "x is an integer .. and T
-- is a string type", "x is a string and T is a slice of bytes or runes" and the other way round
abbrev pub converts_integer : Table → TypeId → TypeId → Bool → Bool
converts_integer types from to true = is_some (kind_of types to) || is_text_type types to
converts_integer types from to false =
    (is_text_type types from && is_characters types to) || (is_text_type types to && is_characters types from)

abbrev pub converts_plainly : Table → TypeId → TypeId → Bool
converts_plainly types from to =
    if same_id (underlying_of types from) (underlying_of types to) then true
    else converts_integer types from to (is_some (kind_of types from))

-- whether two terms are of one form
abbrev pub one_form : Option TypeTerm → Option TypeTerm → Bool
one_form (Some (Pointer a)) (Some (Pointer b)) = true
one_form (Some (Slice a)) (Some (Slice b)) = true
one_form (Some (Array n a)) (Some (Array m b)) = true
one_form (Some (Map k a)) (Some (Map l b)) = true
one_form (Some (Chan d a)) (Some (Chan e b)) = true
one_form (Some (Func a)) (Some (Func b)) = true
one_form (Some (Struct a)) (Some (Struct b)) = true
one_form (Some (Interface a)) (Some (Interface b)) = true
one_form _ _ = false

abbrev pub have_one_form : Table → TypeId → TypeId → Bool
have_one_form types a b = is_held types a && (is_held types b && one_form (term_at types a) (term_at types b))

-- "ignoring struct tags, x's type and T .. have identical underlying types"
abbrev pub AreLike : Table → Table → TypeId → TypeId → Type 0
AreLike before after from to =
    IsTrue (have_one_form before (underlying_of before from) (underlying_of before to))
    × SameButTags after (underlying_of before from) (underlying_of before to)

abbrev pub MayConvert : Table → Table → TypeId → TypeId → Type 0
MayConvert before after from to =
    Assignable before from to ⊎ (IsTrue (converts_plainly before from to) ⊎ AreLike before after from to)

-- a typed value; types without tags may be held on the way
pub data IsTypedAs (at : Pos) (expr : TypedExpr) (to : TypeId) (before after : Table) : Judged TypedExpr → Type 0 where
  converted : (made : TypedExpr) → MayConvert before after expr.of to → IsExplicit after at expr to made
      → IsTypedAs at expr to before after (fine made)
  refused : (MayConvert before after expr.of to → ⊥) → IsTypedAs at expr to before after (breaks at BadConversion)

pub record IsTypedConverted (at : Pos) (expr : TypedExpr) (to : TypeId) (before after : Basis)
    (result : Judged TypedExpr) : Type 0 where
  pub within : after.within ≡ before.within
  pub grows : Grows before.types after.types
  pub definitions : KeepsDefinitions before.types after.types
  pub is : IsTypedAs at expr to before.types after.types result

-- ---- conversions

abbrev pub IsValueOfKind : Option Untyped → Pos → TypedExpr → TypeId → Basis → Basis → Judged TypedExpr → Type 0
IsValueOfKind (Some kind) at expr to before after result = IsUntypedConverted at expr kind to before after result
IsValueOfKind None at expr to before after result = IsTypedConverted at expr to before after result

abbrev pub IsConvertedAs : ConstantConversion → Pos → Given → TypeId → Basis → Basis → Judged TypedExpr → Type 0
IsConvertedAs becomes.Integer at x to before after result = Asks (λ types. as_integer types at x to) before after result
IsConvertedAs becomes.Text at x to before after result = Asks (λ types. text_constant at x.expr to) before after result
IsConvertedAs becomes.Other at x to before after result =
    IsValueOfKind (kind_at before.types x.expr.of) at x.expr to before after result

abbrev pub IsConverted : Pos → TypeId → Given → Basis → Basis → Judged TypedExpr → Type 0
IsConverted at to x before after result =
    IsConvertedAs (constant_conversion before.types x.expr to) at x to before after result

abbrev pub IsOneValue : ℕ → Seen → Basis → Basis → Judged Given → Type 0
IsOneValue number part before after result = Asks (λ types. one_value types part) before after result

-- `T(x)`
abbrev pub IsConversion : Pos → TypeId → List Seen → Option Pos → Basis → Basis → Judged TypedExpr → Type 0
IsConversion at to arguments dots before after result =
    IsThenSoundly (IsEach IsOneValue arguments)
    (λ (values : List Given). IsThenSoundly (Asks (λ types. sole_asked at dots values)) (IsConverted at to)) before
    after result
