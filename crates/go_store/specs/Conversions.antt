-- Conversions between texts and slices of integers. Go specification, "Conversions to and from a string type".
use Rattle.std.specs.Prelude.{ℕ, ◌<◌, ◌≡◌, List, [], ◌∷◌, ℤ, pos, map, drop, length, nat_lt, unsigned_abs}
use Rattle.std.specs.Prelude.{unwrap_or, Result, Ok, Err, OnOk, OnErr, if◌then◌else◌}
use Rattle.go_value.specs.Gives.{Gives}
use Rattle.go_value.specs.Runes as runes
use Rattle.go_value.specs.Runes.{IsFirstRune}
use Rattle.go_value.specs.Values.{Val, number}
use Rattle.go_value.specs.declared.address.SliceValue.{SliceValue}
use Rattle.go_value.specs.declared.faults.Fault.{Fault}
use Rattle.go_value.specs.declared.faults.Fault.TheVariants as fault
use Rattle.go_value.specs.declared.faults.ValueError.{ValueError}
use Rattle.go_store.specs.Arrays.{array_of}
use Rattle.go_store.specs.Slices.{elements_of, most_leaves, slice_of_new}
use Rattle.go_store.specs.Stores.{Stored, made}

-- ---- from a slice to a text

-- the most bytes of a text
abbrev pub most_bytes : ℕ
most_bytes = 268435456

abbrev pub within_limit : List ℕ → Result (List ℕ) Fault
within_limit bytes = if nat_lt most_bytes (length bytes) then Err fault.TextTooLong else Ok bytes

abbrev pub byte_of : Val → List ℕ
byte_of (number it) = unsigned_abs it ∷ []
byte_of _ = []

-- the UTF-8 form of a code point
abbrev pub rune_bytes : Val → List ℕ
rune_bytes (number it) = runes.rune_bytes it
rune_bytes _ = []

abbrev pub items_of : Stored → SliceValue → List Val
items_of store slice = unwrap_or (elements_of store slice) []

-- ---- from a text to a slice

-- the code points of a text, one behind another
abbrev pub AreRunes : List ℕ → List ℤ → Type 0
AreRunes text [] = text ≡ []
AreRunes text (it ∷ items) =
    (rune width : ℕ) × (0 < length text) × IsFirstRune text rune width × (it ≡ pos rune)
    × AreRunes (drop width text) items

abbrev pub numbers_of : List ℕ → List ℤ
numbers_of bytes = map pos bytes

abbrev pub new_slice : Stored → ℕ → Result SliceValue Fault
new_slice store len = if nat_lt most_leaves len then Err fault.MakeSliceLen else Ok (slice_of_new store len len)

-- a slice of a new array of integers, whose capacity is its length; after an error the store is as before
pub record MakesSlice (old : Stored) (ints : List ℤ) (result : Result SliceValue ValueError) (new : Stored) :
    Type 0 where
  pub value : Gives (λ slice. slice) result (new_slice old (length ints))
  pub ok : OnOk result (new ≡ made old (array_of (map number ints)))
  pub err : OnErr result (new ≡ old)

-- the same of the code points of a text
abbrev pub MakesRunes : Stored → List ℕ → Result SliceValue ValueError → Stored → Type 0
MakesRunes old text result new = (ints : List ℤ) × AreRunes text ints × MakesSlice old ints result new
