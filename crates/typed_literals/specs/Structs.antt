-- Literals of structs. Go specification, "Composite literals" and "Struct types".
use Rattle.std.specs.Prelude.{◌≡◌, ℕ, ◌==◌, ◌&&◌, ◌||◌, not, nat_eq, Bool, true, false, if◌then◌else◌, is_some, List}
use Rattle.std.specs.Prelude.{[], ◌∷◌, ◌++◌, map, length, take, position, Option, Some, None, slice_get}
use Rattle.std.specs.Bool.{beq}
use Rattle.std.specs.Global.{Vec}
use Rattle.std.specs.List.{enumerate_from, flat_map, list_all, list_any}
use Rattle.std.specs.Option.{option_and_then, option_map}
use Rattle.std.specs.declared.hash.BuildHasherDefault.{BuildHasherDefault}
use Rattle.std.specs.declared.hash.FoldHasher.{FoldHasher}
use Rattle.indexmap.specs.IndexSet.{IndexSet, contains}
use Rattle.go_base.specs.declared.ids.NameId.{NameId}
use Rattle.go_base.specs.declared.ids.TypeId.{TypeId}
use Rattle.go_base.specs.declared.place.Pos.{Pos}
use Rattle.go_base.specs.declared.rule.Rule.TheVariants.{BadCompositeLiteral}
use Rattle.go_tree.specs.declared.exprs.Elements.TheVariants.{Fields}
use Rattle.go_tree.specs.declared.exprs.FieldInit.{FieldInit}
use Rattle.go_tree.specs.declared.exprs.TypedExpr.{TypedExpr}
use Rattle.go_type.specs.declared.term.Field.{Field}
use Rattle.go_type.specs.Table.{Table, exported}
use Rattle.typed_parts.specs.declared.meaning.Given.{Given}
use Rattle.typed_parts.specs.Adapting.{IsAssignedTo}
use Rattle.typed_parts.specs.Joining.{only}
use Rattle.typed_parts.specs.Judged.{Broken, Exactly, IsRest, IsThen, Judged, breaks, fine, unsound}
use Rattle.typed_parts.specs.Limits.{Basis}
use Rattle.typed_parts.specs.Meanings.{one_value}
use Rattle.typed_parts.specs.Turning.{Asks, IsEach, IsFollowed, IsThenSoundly, Keeps, Soundly}
use Rattle.typed_literals.specs.declared.composing.FieldEntry.{FieldEntry}
use Rattle.typed_literals.specs.declared.composing.Literal.{Literal}
use Rattle.typed_literals.specs.declared.composing.LiteralKind.{LiteralKind}
use Rattle.typed_literals.specs.declared.composing.LiteralKind.TheVariants as kind
use Rattle.typed_literals.specs.declared.structs.Element.{Element}
use Rattle.typed_literals.specs.Composing.{IsNode, broken_where}
use Rattle.typed_parts.specs.Shapes.{fields_of}

-- ---- the values, which each have to be one

abbrev pub asked_element : Table → FieldEntry → Element
asked_element types entry = record {
  at = entry.at;
  has_key = entry.has_key;
  name = entry.name;
  «package» = entry.«package»;
  value = (one_value types entry.value).sound;
}

abbrev pub asked_elements : Table → List FieldEntry → List Element
asked_elements types entries = map (asked_element types) entries

abbrev pub asked_broken : Table → List FieldEntry → List Broken
asked_broken types entries = flat_map (λ (entry : FieldEntry). (one_value types entry.value).broken) entries

abbrev pub elements_asked : Table → List FieldEntry → Judged (List Element)
elements_asked types entries =
    record { sound = Some (asked_elements types entries); broken = asked_broken types entries }

-- ---- "If any element has a key, every element must have a key": the first element tells

abbrev pub is_keyed : List Element → Bool
is_keyed [] = true
is_keyed (first ∷ rest) = first.has_key

abbrev pub is_alike : Bool → Element → Bool
is_alike keyed element = beq element.has_key keyed

abbrev pub are_alike : Bool → List Element → Bool
are_alike keyed elements = list_all (is_alike keyed) elements

abbrev pub unlike_broken : Bool → List Element → List Broken
unlike_broken keyed elements =
    flat_map (λ (element : Element). broken_where element.at (not (is_alike keyed element))) elements

abbrev pub alike_asked : List Element → Judged (List Element)
alike_asked elements = record {
  sound = only (Some elements) (are_alike (is_keyed elements) elements);
  broken = unlike_broken (is_keyed elements) elements;
}

-- ---- fields, by their numbers

abbrev pub numbered : ℕ → Field → ℕ × TypeId
numbered number field = (number, field.of)

-- the number and the type of a field
abbrev pub field_at : List Field → ℕ → Option (ℕ × TypeId)
field_at fields number = option_map (numbered number) (slice_get fields number)

-- a name is that of a field of its own package, unless it is exported
abbrev pub is_named : NameId → ℕ → Field → Bool
is_named name of field = (field.name.number == name.number) && (field.«package» == of)

abbrev pub field_named : List Field → NameId → ℕ → Option (ℕ × TypeId)
field_named fields name of = option_and_then (field_at fields) (position (is_named name of) fields)

abbrev pub field_by : List Field → ℕ → Option NameId → Option (ℕ × TypeId)
field_by fields of (Some name) = field_named fields name of
field_by fields of None = None

-- the field that an element's key names, where it has a key
abbrev pub key_field : List Field → Element → Option (ℕ × TypeId)
key_field fields element =
    if element.has_key then field_by fields element.«package» element.name else None

abbrev pub init_of : ℕ → TypedExpr → FieldInit
init_of field value = record { field = field; value = value }

-- a value of a field is assigned to its type
abbrev pub IsValueOf : Table → Option Given → ℕ × TypeId → Judged FieldInit → Type 0
IsValueOf types x (field, to) result =
    (value : Judged TypedExpr) × (IsAssignedTo types x (Some to) value
    × (result ≡ record { sound = option_map (init_of field) value.sound; broken = value.broken }))

-- ---- with keys

-- "A key must be a field name declared in the struct type"
abbrev pub found_at : Pos → Option (ℕ × TypeId) → Judged (ℕ × TypeId)
found_at at (Some field) = fine field
found_at at None = breaks at BadCompositeLiteral

abbrev pub key_asked : List Field → Element → Judged (ℕ × TypeId)
key_asked fields element = if element.has_key then found_at element.at (key_field fields element) else unsound

abbrev pub is_number : ℕ → Option (ℕ × TypeId) → Bool
is_number number (Some (other, of)) = nat_eq other number
is_number number None = false

-- an element before names the same field
abbrev pub is_again : List Field → List Element → ℕ → Bool
is_again fields before number = list_any (λ (other : Element). is_number number (key_field fields other)) before

abbrev pub once : Pos → Bool → Judged FieldInit → Judged FieldInit
once at again value = record { sound = only value.sound (not again); broken = broken_where at again ++ value.broken }

-- the numbers of the fields that elements before name
abbrev pub AreTaken : List Field → List Element → IndexSet ℕ (BuildHasherDefault FoldHasher) → Type 0
AreTaken fields before taken = (number : ℕ) → contains nat_eq taken number ≡ is_again fields before number

-- "It is an error to specify multiple elements with the same field name"; the value is assigned to the field all the
-- same
abbrev pub IsOnce : Table → List Field → List Element → Element → ℕ × TypeId → Judged FieldInit → Type 0
IsOnce types fields before element (field, to) result =
    (value : Judged FieldInit) × (IsValueOf types element.value (field, to) value
    × (result ≡ once element.at (is_again fields before field) value))

-- an element with a key, behind others
abbrev pub IsKeyed : Table → TypeId → List Element → Element → Judged FieldInit → Type 0
IsKeyed types of before element result =
    IsThen (Exactly (key_asked (fields_of types of) element)) (IsOnce types (fields_of types of) before element) result

-- "An element list that contains keys does not need to have an element for each struct field"
abbrev pub AreKeyed : TypeId → List Element → Basis → Basis → Judged (List FieldInit) → Type 0
AreKeyed of elements before after result =
    IsEach (λ (number : ℕ) (element : Element). Keeps (λ types. IsKeyed types of (take number elements) element))
    elements before after result

-- ---- without keys

abbrev pub is_open_field : ℕ → Option Field → Bool
is_open_field of (Some field) = (field.«package» == exported) || (field.«package» == of)
is_open_field of None = true

-- a field that is exported or of the package
abbrev pub is_open : List Field → ℕ → ℕ → Bool
is_open fields of number = is_open_field of (slice_get fields number)

abbrev pub is_open_for : List Field → ℕ → ℕ × Element → Bool
is_open_for fields of (number, element) = is_open fields of number

abbrev pub closed_at : List Field → ℕ → ℕ × Element → List Broken
closed_at fields of (number, element) = broken_where element.at (not (is_open fields of number))

abbrev pub are_open : List Field → ℕ → List Element → Bool
are_open fields of elements = list_all (is_open_for fields of) (enumerate_from 0 elements)

abbrev pub closed_broken : List Field → ℕ → List Element → List Broken
closed_broken fields of elements = flat_map (closed_at fields of) (enumerate_from 0 elements)

-- "It is an error to specify an element for a non-exported field of a struct belonging to a different package"
abbrev pub open_asked : List Field → ℕ → List Element → Judged (List Element)
open_asked fields of elements =
    record { sound = only (Some elements) (are_open fields of elements); broken = closed_broken fields of elements }

abbrev pub has_value : Element → Bool
has_value element = is_some element.value

abbrev pub first_place : List Element → Option Pos
first_place (first ∷ rest) = Some first.at
first_place [] = None

-- a rule of all the values stands at the first, where all of them are sound
abbrev pub values_place : List Element → Option Pos
values_place elements = if list_all has_value elements then first_place elements else None

abbrev pub number_broken : Bool → Option Pos → List Broken
number_broken false (Some at) = broken_where at true
number_broken false None = []
number_broken true place = []

abbrev pub fits_number : List Field → List Element → Bool
fits_number fields elements = nat_eq (length elements) (length fields)

-- "it must list an element for each struct field in the order in which the fields are declared"
abbrev pub number_asked : List Field → List Element → Judged (List Element)
number_asked fields elements = record {
  sound = only (Some elements) (fits_number fields elements);
  broken = number_broken (fits_number fields elements) (values_place elements);
}

abbrev pub listed_field : List Field → ℕ → Element → Option (ℕ × TypeId)
listed_field fields number element = if element.has_key then None else field_at fields number

abbrev pub IsListed : Table → TypeId → ℕ → Element → Judged FieldInit → Type 0
IsListed types of number element result =
    IsRest (listed_field (fields_of types of) number element) (IsValueOf types element.value) result

-- each value of its field, by the order
abbrev pub AreOfEach : TypeId → List Element → Basis → Basis → Judged (List FieldInit) → Type 0
AreOfEach of elements before after result =
    IsEach (λ (number : ℕ) (element : Element). Keeps (λ types. IsListed types of number element)) elements before
    after result

abbrev pub AreNumbered : TypeId → List Element → Basis → Basis → Judged (List FieldInit) → Type 0
AreNumbered of elements before after result =
    IsThenSoundly (Asks (λ types. number_asked (fields_of types of) elements)) (AreOfEach of) before after result

-- fields where something else holds too
abbrev pub fields_where : Option (List FieldInit) → Bool → Judged (List FieldInit)
fields_where fields holds = record { sound = only fields holds; broken = [] }

abbrev pub AreListed : ℕ → TypeId → List Element → Basis → Basis → Judged (List FieldInit) → Type 0
AreListed «package» of elements before after result =
    IsFollowed (Asks (λ types. open_asked (fields_of types of) «package» elements))
    (λ (open_ones : Option (List Element)). IsFollowed (AreNumbered of elements)
    (λ (fields : Option (List FieldInit)). Asks (λ types. fields_where fields (is_some open_ones)))) before after result

-- ---- the literal

abbrev pub AreFields : Bool → ℕ → TypeId → List Element → Basis → Basis → Judged (List FieldInit) → Type 0
AreFields true «package» of elements before after result = AreKeyed of elements before after result
AreFields false «package» of elements before after result = AreListed «package» of elements before after result

abbrev pub IsFieldsNode : Literal → List FieldInit → Basis → Basis → Judged TypedExpr → Type 0
IsFieldsNode literal fields before after result =
    (v : Vec FieldInit) × ((v.items ≡ fields) × IsNode literal literal.of (Fields v) before after result)

abbrev pub IsStruct : ℕ → Literal → List Element → Basis → Basis → Judged TypedExpr → Type 0
IsStruct «package» literal elements before after result =
    IsFollowed (Asks (λ types. alike_asked elements))
    (λ (alike : Option (List Element)). IsFollowed (AreFields (is_keyed elements) «package» literal.of elements)
    (λ (fields : Option (List FieldInit)). Soundly (IsFieldsNode literal) (only fields (is_some alike)))) before after
    result

abbrev pub struct_if : LiteralKind → Literal → Option Literal
struct_if kind.Struct literal = Some literal
struct_if _ literal = None

abbrev pub struct_of : Option Literal → Option Literal
struct_of (Some literal) = struct_if literal.kind literal
struct_of None = None

-- the values are asked first, also where the type is unsound
abbrev pub IsStructLiteral : ℕ → Option Literal → List FieldEntry → Basis → Basis → Judged TypedExpr → Type 0
IsStructLiteral «package» literal entries before after result =
    IsThenSoundly (Asks (λ types. elements_asked types entries))
    (λ (elements : List Element). Soundly (λ (of : Literal). IsStruct «package» of elements) (struct_of literal)) before
    after result
