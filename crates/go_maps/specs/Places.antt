-- Where the keys of a map stand, by their codes.
use Rattle.std.specs.Prelude.{ℕ, ◌≡◌, Option}
use Rattle.std.specs.Ordering.{int_eq}
use Rattle.std.specs.Str.{bytes_eq}
use Rattle.indexmap.specs.IndexMap.{get}
use Rattle.go_maps.specs.Keys.{KeyCode, of_number, of_bytes}
use Rattle.go_maps.specs.declared.places.Look.{Look}
use Rattle.go_maps.specs.declared.places.Look.TheVariants as look
use Rattle.go_maps.specs.declared.places.Places.{Places}

-- what a key is looked up by
abbrev pub looked_up : Look → KeyCode
looked_up (look.Int it) = of_number it
looked_up (look.Other bytes) = of_bytes bytes

-- the number of the entry of a key
abbrev pub place_in : Places → KeyCode → Option ℕ
place_in places (of_number it) = get int_eq places.ints it
place_in places (of_bytes bytes) = get bytes_eq places.others bytes

-- one key stands elsewhere, or nowhere; each other one where it stood
pub record Changes (old : KeyCode → Option ℕ) (code : KeyCode) (place : Option ℕ) (new : KeyCode → Option ℕ) :
    Type 0 where
  pub here : new code ≡ place
  pub others : (other : KeyCode) → (code ≡ other → ⊥) → new other ≡ old other
