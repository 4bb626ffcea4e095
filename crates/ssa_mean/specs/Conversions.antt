-- Conversions that change the value. Go specification, "Conversions between numeric types" and "Conversions to and from
-- a string type".
use Rattle.std.specs.Prelude.{ℕ, Bool, true, false, List, map, ℤ, Option, Some, None, length}
use Rattle.std.specs.List.{flat_map}
use Rattle.go_base.specs.declared.ids.TypeId.{TypeId}
use Rattle.go_store.specs.Arrays.{array_of}
use Rattle.go_store.specs.Conversions.{byte_of, rune_bytes, within_limit, numbers_of, new_slice}
use Rattle.go_store.specs.Slices.{elements_of}
use Rattle.go_store.specs.Stores.{Stored, made}
use Rattle.go_type.specs.Kinds.{kind_of}
use Rattle.go_type.specs.Table.{Table}
use Rattle.go_type.specs.declared.kinds.IntKind.{IntKind}
use Rattle.go_type.specs.declared.term.Basic.TheVariants as basic
use Rattle.go_type.specs.declared.term.TypeTerm.{TypeTerm}
use Rattle.go_type.specs.declared.term.TypeTerm.TheVariants as term
use Rattle.go_value.specs.Ints.{wrapped}
use Rattle.go_value.specs.Runes as runes
use Rattle.go_value.specs.Values.{Val, number, text, slice}
use Rattle.ssa_mean.specs.Comes.{Comes, to, nowhere, of_result, then_to, where_some}
use Rattle.ssa_mean.specs.Operands.{under_in, element_in}
use Rattle.ssa_mean.specs.Runes.{runes_of}

-- a value, and the store after it
pub record Stores : Type 0 where
  pub value : Val
  pub store : Stored

abbrev pub kept : Stored → Val → Stores
kept store it = record { value = it; store = store }

-- ---- whether the elements of a slice are bytes, and not code points

abbrev pub is_byte_term : Option TypeTerm → Bool
is_byte_term (Some (term.Basic basic.Uint8)) = true
is_byte_term _ = false

abbrev pub are_bytes : Table → Option TypeId → Bool
are_bytes types elem = is_byte_term (under_in types elem)

-- ---- from a slice to a string

-- the bytes of an element of a slice of bytes, or of code points
abbrev pub spelling : Bool → Val → List ℕ
spelling true = byte_of
spelling false = rune_bytes

abbrev pub text_of_items : Bool → List Val → Comes Val
text_of_items bytes items = then_to text (of_result (within_limit (flat_map (spelling bytes) items)))

-- ---- from a string to a slice: a new array, whose length is the capacity

abbrev pub slice_of_ints : Stored → List ℤ → Comes Stores
slice_of_ints store ints =
    then_to (λ it. record { value = slice it; store = made store (array_of (map number ints)) })
    (of_result (new_slice store (length ints)))

abbrev pub slice_of_text : Stored → Bool → List ℕ → Comes Stores
slice_of_text store true bytes = slice_of_ints store (numbers_of bytes)
slice_of_text store false bytes = slice_of_ints store (numbers_of (runes_of bytes))

-- ---- from an integer: to one of another kind, or to the string of a code point

abbrev pub converted_int : Option IntKind → ℤ → Val
converted_int (Some kind) it = number (wrapped kind it)
converted_int None it = text (runes.rune_bytes it)

-- a value of a type with an underlying term, converted to another type
abbrev pub conversion : Table → Stored → Option TypeTerm → TypeId → Val → Comes Stores
conversion types store from of (number it) = to (kept store (converted_int (kind_of types of) it))
conversion types store from of (slice it) =
    then_to (kept store) (where_some (text_of_items (are_bytes types (element_in from))) (elements_of store it))
conversion types store from of (text bytes) =
    slice_of_text store (are_bytes types (element_in (under_in types (Some of)))) bytes
conversion types store from of _ = nowhere
