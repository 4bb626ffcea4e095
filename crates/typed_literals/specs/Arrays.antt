-- Literals of arrays and slices. Go specification, "Composite literals".
use Rattle.std.specs.Prelude.{◌≡◌, ℕ, ◌+◌, ◌^◌, ◌-◌, ℤ, pos, negsuc, Bool, false, nat_le, nat_lt, max, List}
use Rattle.std.specs.Prelude.{if◌then◌else◌, [], ◌∷◌, ◌++◌, fold, is_some, nat_eq, Option, Some, None, unwrap_or}
use Rattle.std.specs.Prelude.{Result, Ok, Err}
use Rattle.std.specs.Global.{Vec}
use Rattle.std.specs.List.{list_any}
use Rattle.std.specs.Option.{option_and_then}
use Rattle.indexmap.specs.IndexSet.{contains}
use Rattle.go_base.specs.declared.ids.TypeId.{TypeId}
use Rattle.go_base.specs.declared.place.Pos.{Pos}
use Rattle.go_base.specs.declared.rule.Rule.TheVariants.{BadCompositeLiteral, BadIndex}
use Rattle.go_tree.specs.declared.exprs.Elements.TheVariants.{Items}
use Rattle.go_tree.specs.declared.exprs.ItemInit.{ItemInit}
use Rattle.go_tree.specs.declared.exprs.TypedExpr.{TypedExpr}
use Rattle.go_type.specs.declared.term.TypeTerm.TheVariants.{Array}
use Rattle.go_type.specs.Table.{Table}
use Rattle.typed_parts.specs.declared.ground.Ground.{Ground}
use Rattle.typed_parts.specs.declared.meaning.Given.{Given}
use Rattle.typed_parts.specs.declared.meaning.Seen.{Seen}
use Rattle.typed_parts.specs.Adapting.{IsAssignedTo}
use Rattle.typed_parts.specs.Joining.{asked}
use Rattle.typed_parts.specs.Judged.{Exactly, IsThen, Judged, and_then, breaks, fine, reported, unsound}
use Rattle.typed_parts.specs.Limits.{Basis, IsFitting, IsLimited}
use Rattle.typed_parts.specs.Meanings.{one_value}
use Rattle.typed_parts.specs.Numbers.{constant_in, integer_of}
use Rattle.typed_parts.specs.Turning.{Asks, IsHeld, IsThenSoundly, Keeps}
use Rattle.typed_parts.specs.Wholes.{IsWhole}
use Rattle.typed_literals.specs.declared.arrays.Row.{Row}
use Rattle.typed_literals.specs.declared.composing.Entry.{Entry}
use Rattle.typed_literals.specs.declared.composing.Literal.{Literal}
use Rattle.typed_literals.specs.declared.composing.LiteralKind.{LiteralKind}
use Rattle.typed_literals.specs.declared.composing.LiteralKind.TheVariants as kind
use Rattle.typed_literals.specs.Composing.{IsNode, values_alone}
use Rattle.typed_literals.specs.InOrder.{AreInOrder}

-- ---- the index of an element

-- "An element without a key uses the previous element's index plus one": indices are numbers of 64 bits
abbrev pub following : Option ℕ → Option ℕ
following (Some index) = if nat_lt index (2 ^ 64 - 1) then Some (index + 1) else None
following None = None

-- "If the first element has no key, its index is zero"
abbrev pub after_all : List (Option ℕ) → Option ℕ
after_all before = fold (λ next index. following index) (Some 0) before

abbrev pub natural : ℤ → Option ℕ
natural (pos number) = Some number
natural (negsuc number) = None

-- the index that a constant is
abbrev pub index_in : TypedExpr → Option ℕ
index_in key = option_and_then natural (integer_of key)

abbrev pub constant_given : Given → Judged Given
constant_given x = asked x (is_some (constant_in x.expr.kind)) BadCompositeLiteral

-- "The key must be a non-negative constant representable by a value of type int; and if it is typed it must be of
-- integer type"
abbrev pub IsIndexKey : Table → Seen → Judged TypedExpr → Type 0
IsIndexKey types key result =
    IsThen (Exactly (and_then (one_value types key) constant_given)) (λ (x : Given). IsWhole types (Some x) BadIndex)
    result

abbrev pub IsIndexOf : Table → Option Seen → Option ℕ → Judged ℕ → Type 0
IsIndexOf types (Some key) next result =
    (whole : Judged TypedExpr) × (IsIndexKey types key whole
    × (result ≡ record { sound = option_and_then index_in whole.sound; broken = whole.broken }))
IsIndexOf types None next result = result ≡ record { sound = next; broken = [] }

-- at or past the length of an array type that is written
abbrev pub is_past : ℕ → Option ℕ → Bool
is_past index (Some limit) = nat_le limit index
is_past index None = false

abbrev pub is_index : ℕ → Option ℕ → Bool
is_index index (Some other) = nat_eq other index
is_index index None = false

-- an element before has the index
abbrev pub is_taken : List (Option ℕ) → ℕ → Bool
is_taken before index = list_any (is_index index) before

-- an index is below the length that is written, and is that of no element before
abbrev pub free_at : Pos → Option ℕ → List (Option ℕ) → Option ℕ → Judged ℕ
free_at at limit before (Some index) =
    if is_past index limit then breaks at BadIndex
    else if is_taken before index then breaks at BadCompositeLiteral
    else fine index
free_at at limit before None = unsound

-- ---- what is known of elements

pub record HasMet (limit : Option ℕ) (before : List (Option ℕ)) (row : Row) : Type 0 where
  pub limit_is : row.limit ≡ limit
  pub next : row.next ≡ after_all before
  pub taken : (index : ℕ) → is_past index limit ≡ false → contains nat_eq row.taken index ≡ is_taken before index

abbrev pub end_of : Option ℕ → ℕ
end_of index = unwrap_or (following index) 0

-- what an index makes of the length, where it is free
abbrev pub longer : Option ℕ → ℕ → ℕ
longer (Some index) len = max len (end_of (Some index))
longer None len = len

pub record Freed (old new : Ground) (at : Pos) (limit : Option ℕ) (before : List (Option ℕ)) (index : Option ℕ)
    (len : ℕ) (row : Row) (answer : Option ℕ) : Type 0 where
  pub met : HasMet limit (before ++ index ∷ []) row
  pub len_is : row.len ≡ longer answer len
  pub answers : answer ≡ (free_at at limit before index).sound
  pub reports : new ≡ reported old (free_at at limit before index).broken

abbrev pub Frees : {E : Type 0} → Ground → Ground → Pos → Option ℕ → List (Option ℕ) → Option ℕ → ℕ → Row
    → Result (Option ℕ) E → Type 0
Frees old new at limit before index len row (Ok answer) = Freed old new at limit before index len row answer
Frees old new at limit before index len row (Err error) = Unit {0}

-- where an element is sound, the length is at least one more than its index
abbrev pub IsLonger : {A E : Type 0} → Option ℕ → Result (Option A) E → ℕ → ℕ → Type 0
IsLonger known (Ok (Some item)) old new = new ≡ longer known old
IsLonger known (Ok None) old new = Unit {0}
IsLonger known (Err error) old new = Unit {0}

-- ---- elements

abbrev pub item_of : Option ℕ → Option TypedExpr → Option ItemInit
item_of (Some index) (Some value) = Some (record { index = index; value = value })
item_of (Some index) None = None
item_of None value = None

abbrev pub item : Judged ℕ → Judged Given → Judged ℕ → Judged TypedExpr → Judged ItemInit
item index given free value = record {
  sound = item_of free.sound value.sound;
  broken = ((index.broken ++ given.broken) ++ free.broken) ++ value.broken;
}

-- "Each element has an associated integer index marking its position in the array"; its value is assigned to the type
-- of the elements
pub record IsItem (types : Table) (elem : TypeId) (limit : Option ℕ) (before : List (Option ℕ)) (element : Entry)
    (known : Option ℕ) (result : Judged ItemInit) : Type 0 where
  pub index : Judged ℕ
  pub value : Judged TypedExpr
  pub is_index : IsIndexOf types element.key (after_all before) index
  pub knows : known ≡ index.sound
  pub is_value : IsAssignedTo types (one_value types element.value).sound (Some elem) value
  pub whole : result
      ≡ item index (one_value types element.value) (free_at element.at limit before known) value

-- "the maximum element index plus one", and 0 without elements
abbrev pub length_for : List (Option ℕ) → ℕ
length_for known = fold (λ len index. longer index len) 0 known

abbrev pub counted_items : Option (Vec ItemInit × ℕ) → Option (List ItemInit × ℕ)
counted_items (Some (items, len)) = Some (items.items, len)
counted_items None = None

abbrev pub counted : {E : Type 0} → Result (Option (Vec ItemInit × ℕ)) E → Result (Option (List ItemInit × ℕ)) E
counted (Ok items) = Ok (counted_items items)
counted (Err error) = Err error

-- the elements, and the length: what is written, or else what they ask for
abbrev pub with_length : Option ℕ → List (Option ℕ) → Option (List ItemInit) → Option (List ItemInit × ℕ)
with_length limit known (Some items) = Some (items, unwrap_or limit (length_for known))
with_length limit known None = None

pub record AreItems (elem : TypeId) (limit : Option ℕ) (elements : List Entry) (types : Table)
    (result : Judged (List ItemInit × ℕ)) : Type 0 where
  pub known : List (Option ℕ)
  pub each : Judged (List ItemInit)
  pub are : AreInOrder (IsItem types elem limit) elements known each
  pub whole : result ≡ record { sound = with_length limit known each.sound; broken = each.broken }

-- ---- the literal

abbrev pub IsOpenArray : Pos → TypeId → ℕ → Basis → Basis → Judged TypeId → Type 0
IsOpenArray at elem len before after result =
    IsThenSoundly (IsHeld (Array len elem))
    (λ (array : TypeId). IsThenSoundly (IsLimited at array) (λ (fits : Unit {0}). Asks (λ types. fine array))) before
    after result

-- the type of a literal of so many elements; it may not be too large, and of a slice the array behind it may not
abbrev pub IsTypeAs : LiteralKind → Literal → TypeId → ℕ → Basis → Basis → Judged TypeId → Type 0
IsTypeAs (kind.OpenArray of) literal elem len before after result = IsOpenArray literal.at elem len before after result
IsTypeAs (kind.Slice of) literal elem len before after result =
    IsThenSoundly (IsFitting literal.at elem len) (λ (fits : Unit {0}). Asks (λ types. fine literal.of)) before after
    result
IsTypeAs _ literal elem len before after result = Asks (λ types. fine literal.of) before after result

abbrev pub IsItemsNode : Literal → List ItemInit → ℕ → TypeId → Basis → Basis → Judged TypedExpr → Type 0
IsItemsNode literal items len of before after result =
    (v : Vec ItemInit) × ((v.items ≡ items) × IsNode literal of (Items v len) before after result)

abbrev pub IsFinished : Literal → TypeId → List ItemInit × ℕ → Basis → Basis → Judged TypedExpr → Type 0
IsFinished literal elem (items, len) before after result =
    IsThenSoundly (IsTypeAs literal.kind literal elem len) (IsItemsNode literal items len) before after result

abbrev pub IsRow : Literal → TypeId × Option ℕ → List Entry → Basis → Basis → Judged TypedExpr → Type 0
IsRow literal (elem, limit) elements before after result =
    IsThenSoundly (Keeps (AreItems elem limit elements)) (IsFinished literal elem) before after result

-- the type of the elements, and the length where it is written
abbrev pub row_kind : LiteralKind → Option (TypeId × Option ℕ)
row_kind (kind.Array len elem) = Some (elem, Some len)
row_kind (kind.OpenArray elem) = Some (elem, None)
row_kind (kind.Slice elem) = Some (elem, None)
row_kind _ = None

abbrev pub with_row : Literal → Option (TypeId × Option ℕ) → Option (Literal × (TypeId × Option ℕ))
with_row literal (Some row) = Some (literal, row)
with_row literal None = None

abbrev pub row_literal : Option Literal → Option (Literal × (TypeId × Option ℕ))
row_literal (Some literal) = with_row literal (row_kind literal.kind)
row_literal None = None

abbrev pub IsRowIf : Option (Literal × (TypeId × Option ℕ)) → List Entry → Basis → Basis → Judged TypedExpr → Type 0
IsRowIf (Some (literal, row)) elements before after result = IsRow literal row elements before after result
IsRowIf None elements before after result = Asks (λ types. values_alone types elements) before after result

-- where the type is unsound, no key is asked
abbrev pub IsIndexedLiteral : Option Literal → List Entry → Basis → Basis → Judged TypedExpr → Type 0
IsIndexedLiteral literal elements before after result = IsRowIf (row_literal literal) elements before after result
