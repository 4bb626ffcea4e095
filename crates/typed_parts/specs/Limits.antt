-- The limits of types: a nesting of at most 1,000, and at most 1,048,576 leaves. What was found of a type is known from
-- then on, and is told when the type is asked for again.
use Rattle.std.specs.Prelude.{◌≡◌, ℕ, ◌*◌, ◌<◌, ◌≤◌, nat_le, true, false, Bool, Option, Some, None, Result, Ok, Err}
use Rattle.std.specs.declared.hash.BuildHasherDefault.{BuildHasherDefault}
use Rattle.std.specs.declared.hash.FoldHasher.{FoldHasher}
use Rattle.indexmap.specs.IndexMap.{get, IndexMap}
use Rattle.go_base.specs.declared.ids.TypeId.{TypeId}
use Rattle.go_base.specs.declared.place.Pos.{Pos}
use Rattle.go_base.specs.declared.rule.Rule.TheVariants.{TypeTooLarge}
use Rattle.go_type.specs.Same.{same_id}
use Rattle.go_type.specs.Sizes.{leaves_to}
use Rattle.go_type.specs.Table.{Table}
use Rattle.type_sizes.specs.Nesting.{IsNestedAbove}
use Rattle.typed_parts.specs.declared.ground.Ground.{Ground}
use Rattle.typed_parts.specs.Judged.{Judged, breaks, fine}

-- what rules stand on: the types, and the leaves of those that were found to be within the limits
pub record Basis : Type 0 where
  pub types : Table
  pub within : IndexMap TypeId ℕ (BuildHasherDefault FoldHasher)

abbrev pub basis : Ground → Basis
basis g = record { types = g.types; within = g.within }

-- the ground with another basis
abbrev pub on_basis : Basis → Ground → Ground
on_basis base g = record g { types = base.types; within = base.within }

-- ---- the limits, by the types alone

-- a type without a nesting, as `type T struct { p *[1]T }`, is within that limit
pub record IsWithinLimits (types : Table) (id : TypeId) (leaves : ℕ) : Type 0 where
  pub nests : IsNestedAbove 1000 types id → ⊥
  pub has : leaves ≡ leaves_to 1000 types id
  pub few : leaves ≤ 1048576

pub data IsTooLarge (types : Table) (id : TypeId) : Type 0 where
  nested : IsNestedAbove 1000 types id → IsTooLarge types id
  too_many : 1048576 < leaves_to 1000 types id → IsTooLarge types id

-- ---- what is known

-- the leaves that are known of a type
abbrev pub known : Basis → TypeId → Option ℕ
known base id = get same_id base.within id

-- what is known of a type, and of each other what was
pub record Learns (before after : Basis) (id : TypeId) (leaves : ℕ) : Type 0 where
  pub types : after.types ≡ before.types
  pub here : known after id ≡ Some leaves
  pub others : (other : TypeId) → same_id id other ≡ false → known after other ≡ known before other

-- what is told of a type: its leaves where they are known, or found in the types as they are
pub data IsTold (before : Basis) (id : TypeId) : Option ℕ → Basis → Type 0 where
  recalled : (leaves : ℕ) → known before id ≡ Some leaves → IsTold before id (Some leaves) before
  found : (leaves : ℕ) (after : Basis) → known before id ≡ None → IsWithinLimits before.types id leaves
      → Learns before after id leaves → IsTold before id (Some leaves) after
  too_large : known before id ≡ None → IsTooLarge before.types id → IsTold before id None before

-- all that is known is right of the types as they are
abbrev pub IsRight : Basis → Type 0
IsRight base = (id : TypeId) (leaves : ℕ) → known base id ≡ Some leaves → IsWithinLimits base.types id leaves

-- ---- rules

-- a type has to be within the limits
pub data IsLimited (at : Pos) (id : TypeId) (before after : Basis) : Judged (Unit {0}) → Type 0 where
  within : (leaves : ℕ) → IsTold before id (Some leaves) after → IsLimited at id before after (fine tt)
  too_large : IsTold before id None after → IsLimited at id before after (breaks at TypeTooLarge)

-- so has an array of so many elements of a type
pub data IsFitting (at : Pos) (elem : TypeId) (len : ℕ) (before after : Basis) : Judged (Unit {0}) → Type 0 where
  fits : (leaves : ℕ) → IsTold before elem (Some leaves) after → leaves * len ≤ 1048576
      → IsFitting at elem len before after (fine tt)
  too_many : (leaves : ℕ) → IsTold before elem (Some leaves) after → 1048576 < leaves * len
      → IsFitting at elem len before after (breaks at TypeTooLarge)
  too_large : IsTold before elem None after → IsFitting at elem len before after (breaks at TypeTooLarge)

-- whether so many elements have few enough leaves
abbrev pub fit_leaves : Option ℕ → ℕ → Bool
fit_leaves (Some leaves) len = nat_le (leaves * len) 1048576
fit_leaves None len = false

-- an answer that is yes or no
abbrev pub granted : {E : Type 0} → Result Bool E → Result (Option (Unit {0})) E
granted (Ok true) = Ok (Some tt)
granted (Ok false) = Ok None
granted (Err error) = Err error
