-- What is kept of the entries of a map: a key is found exactly where its entry stands.
use Rattle.std.specs.Prelude.{ℕ, ◌≡◌, ◌↔◌, Option, Some, option_map}
use Rattle.go_maps.specs.Entries.{Map, entry_at, entries_of, count_in}
use Rattle.go_maps.specs.Keys.{KeyCode, key_code}
use Rattle.go_maps.specs.Places.{place_in}
use Rattle.go_maps.specs.declared.entries.MapEntries.TheInside.{Inside}

-- the code of the key of an entry
abbrev pub code_at : Map → ℕ → Option KeyCode
code_at entries number = option_map (λ pair. key_code pair.key) (entry_at entries number)

abbrev pub AreFound : (KeyCode → Option ℕ) → Map → Type 0
AreFound find entries =
    (code : KeyCode) (number : ℕ) → (find code ≡ Some number) ↔ (code_at entries number ≡ Some code)

pub record IsKept (it : Inside) : Type 0 where
  pub found : AreFound (place_in it.places) (entries_of it.slots.items)
  pub live : it.live ≡ count_in (entries_of it.slots.items)
