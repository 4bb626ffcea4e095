-- What ties the definitions of the machine to what the calls on stores promise.
use Rattle.std.specs.Prelude.{◌≡◌, ◌↔◌, ℕ, ℤ, Bool, true, false, List, flat_map, map, Option, Some, IsSome}
use Rattle.std.specs.Prelude.{Result, Ok, Err, OnOk, pos}
use Rattle.std.specs.Option.{option_and_then}
use Rattle.go_base.specs.declared.ids.MapId.{MapId}
use Rattle.go_base.specs.declared.ids.TypeId.{TypeId}
use Rattle.go_maps.specs.Entries.{value_at, with_pair_at, without_at}
use Rattle.go_maps.specs.Finds.{AreAlike, first_equal}
use Rattle.go_maps.specs.Keys.{unhashable}
use Rattle.go_maps.specs.Maps.{Map, map_in, put_fault}
use Rattle.go_store.specs.Conversions.{AreRunes, MakesSlice, MakesRunes, items_of, numbers_of, within_limit}
use Rattle.go_store.specs.MapCalls.{map_changed}
use Rattle.go_store.specs.Slices.{Appends, elements_of}
use Rattle.go_store.specs.Stores.{Stored}
use Rattle.go_type.specs.Table.{Table}
use Rattle.go_type.specs.declared.term.TypeTerm.{TypeTerm}
use Rattle.go_value.specs.Gives.{Gives}
use Rattle.go_value.specs.Runes.{IsFirstRune}
use Rattle.go_value.specs.Values.{Val, slice, text}
use Rattle.go_value.specs.declared.address.SliceValue.{SliceValue}
use Rattle.go_value.specs.declared.faults.ValueError.{ValueError}
use Rattle.go_value.specs.declared.faults.ValueError.TheVariants as errors
use Rattle.ssa_mean.specs.BuiltIns.{appended}
use Rattle.ssa_mean.specs.Comes.{Comes, to, faults}
use Rattle.ssa_mean.specs.Conversions.{Stores, kept, are_bytes, spelling, conversion}
use Rattle.ssa_mean.specs.MapCalls.{looked_up, updated, deleted, unless_fault}
use Rattle.ssa_mean.specs.Operands.{element_in, under_in}
use Rattle.ssa_mean.specs.Runes.{first_rune, runes_of}

-- what `append` makes of a store is the one store that its contract allows
abbrev pub AppendsOne : Type 0
AppendsOne =
    (leaves : ℕ) (old : Stored) (it : SliceValue) (items : List Val) (new : Stored) →
    Appends leaves old it items new → new ≡ appended leaves old it items

-- ---- code points

-- a text has one first code point, with one width
abbrev pub FirstRuneOne : Type 0
FirstRuneOne =
    (text : List ℕ) (rune width : ℕ) →
    IsFirstRune text rune width ↔ ((rune ≡ (first_rune text).point) × (width ≡ (first_rune text).width))

-- a text is one list of code points
abbrev pub RunesOne : Type 0
RunesOne = (text : List ℕ) (ints : List ℤ) → AreRunes text ints ↔ (ints ≡ map pos (runes_of text))

-- ---- maps, where the keys are such as one type can have: the entry that is found is the one whose key is equal

abbrev pub value_of_equal : (TypeId → Bool) → Val → Map → Option Val
value_of_equal comparable key entries = option_and_then (value_at entries) (first_equal comparable key entries)

abbrev pub LookupsOne : Type 0
LookupsOne =
    (comparable : TypeId → Bool) (store : Stored) (id : Option MapId) (key : Val) →
    AreAlike comparable key (map_in store.maps id) →
    looked_up comparable store id key
    ≡ unless_fault (unhashable comparable key) (value_of_equal comparable key (map_in store.maps id))

abbrev pub UpdatesOne : Type 0
UpdatesOne =
    (comparable : TypeId → Bool) (store : Stored) (id : Option MapId) (key it : Val) →
    AreAlike comparable key (map_in store.maps id) →
    updated comparable store id key it
    ≡ unless_fault (put_fault comparable id key)
    (map_changed (λ entries. with_pair_at (first_equal comparable key entries) key it entries) store id)

abbrev pub DeletesOne : Type 0
DeletesOne =
    (comparable : TypeId → Bool) (store : Stored) (id : Option MapId) (key : Val) →
    AreAlike comparable key (map_in store.maps id) →
    deleted comparable store id key
    ≡ unless_fault (unhashable comparable key)
    (map_changed (λ entries. without_at (first_equal comparable key entries) entries) store id)

-- ---- conversions between strings and slices

-- a call gives what is wanted, or its fault; nothing is said where memory does not suffice
abbrev pub ComesTo : {A B : Type 0} → (A → B) → Result A ValueError → Comes B → Type 0
ComesTo seen (Ok it) wanted = wanted ≡ to (seen it)
ComesTo seen (Err (errors.Fault fault)) wanted = wanted ≡ faults fault
ComesTo seen (Err errors.OutOfMemory) wanted = Unit {0}

-- the text that a call makes of a slice is that of the conversion
abbrev pub TextsOne : Type 0
TextsOne =
    (types : Table) (store : Stored) (from : Option TypeTerm) (of : TypeId) (it : SliceValue)
    (result : Result (List ℕ) ValueError) → OnOk result (IsSome (elements_of store it)) →
    Gives (λ bytes. bytes) result
    (within_limit (flat_map (spelling (are_bytes types (element_in from))) (items_of store it))) →
    ComesTo (λ bytes. kept store (text bytes)) result (conversion types store from of (slice it))

abbrev pub MakesElements : Bool → Stored → List ℕ → Result SliceValue ValueError → Stored → Type 0
MakesElements true old bytes result new = MakesSlice old (numbers_of bytes) result new
MakesElements false old bytes result new = MakesRunes old bytes result new

abbrev pub in_store : Stored → SliceValue → Stores
in_store store it = record { value = slice it; store = store }

-- the slice that a call makes of a text, and the store after it, are those of the conversion
abbrev pub SlicesOne : Type 0
SlicesOne =
    (types : Table) (old : Stored) (from : Option TypeTerm) (of : TypeId) (bytes : List ℕ)
    (result : Result SliceValue ValueError) (new : Stored) →
    MakesElements (are_bytes types (element_in (under_in types (Some of)))) old bytes result new →
    ComesTo (in_store new) result (conversion types old from of (text bytes))
