-- The entry of a key is the first whose key is equal to it. Go specification, "Map types".
use Rattle.std.specs.Prelude.{◌≡◌, ℕ, suc, [], ◌∷◌, Bool, false, Option, Some, None, Result, Ok, Err}
use Rattle.std.specs.Prelude.{if◌then◌else◌, option_map}
use Rattle.go_base.specs.declared.ids.TypeId.{TypeId}
use Rattle.go_value.specs.Values.{Val}
use Rattle.go_value.specs.declared.faults.Fault.{Fault}
use Rattle.go_maps.specs.Entries.{Map, Pair, place_of}
use Rattle.go_maps.specs.Equality.{compared}
use Rattle.go_maps.specs.Keys.{Alike, unhashable}

abbrev pub is_ok_true : Result Bool Fault → Bool
is_ok_true (Ok same) = same
is_ok_true (Err fault) = false

abbrev pub has_equal : (TypeId → Bool) → Val → Option Pair → Bool
has_equal test key None = false
has_equal test key (Some pair) = is_ok_true (compared test pair.key key)

-- the number of the first entry whose key is equal to a key
abbrev pub first_equal : (TypeId → Bool) → Val → Map → Option ℕ
first_equal test key [] = None
first_equal test key (entry ∷ entries) =
    if has_equal test key entry then Some 0 else option_map (λ number. suc number) (first_equal test key entries)

-- keys of entries that one type can have with a key, and that can be hashed
abbrev pub AreAlike : (TypeId → Bool) → Val → Map → Type 0
AreAlike test key [] = Unit {0}
AreAlike test key (None ∷ entries) = AreAlike test key entries
AreAlike test key (Some pair ∷ entries) =
    Alike pair.key key × (unhashable test pair.key ≡ None) × AreAlike test key entries

abbrev pub FindsLaw : Type 0
FindsLaw =
    (test : TypeId → Bool) (key : Val) (entries : Map) →
    AreAlike test key entries → place_of key entries ≡ first_equal test key entries
