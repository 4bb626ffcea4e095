-- The sizes that are known of types.
use Rattle.std.specs.Prelude.{◌≡◌, ℕ, min, Bool, false, ◌↔◌, Option, Some}
use Rattle.indexmap.specs.IndexMap.{get}
use Rattle.go_base.specs.declared.ids.TypeId.{TypeId}
use Rattle.go_type.specs.Sizes.{leaves_to, nests_within}
use Rattle.go_type.specs.Table.{Table}
use Rattle.type_sizes.specs.Nesting.{IsNestedAbove}
use Rattle.type_sizes.specs.declared.sizes.Asked.{Asked}
use Rattle.type_sizes.specs.declared.sizes.Size.{Size}
use Rattle.type_sizes.specs.declared.sizes.Sizes.{Sizes}
use Rattle.type_sizes.specs.contracts.sizes.AskedPartialEq.TheImpl as generated

abbrev pub same_asked : Asked → Asked → Bool
same_asked = generated.ghosts.eq

-- the leaves, up to one more than the most, where elements and fields deeper than some steps count 1
abbrev pub leaves_within : ℕ → Table → TypeId → ℕ
leaves_within depth types id = min 1048577 (leaves_to depth types id)

-- the limits are a nesting of 1,000 and 1,048,576 leaves
pub record IsSizeOf (types : Table) (id : TypeId) (size : Size) : Type 0 where
  pub nests : (size.nests ≡ false) ↔ IsNestedAbove 1000 types id
  pub leaves : size.leaves ≡ leaves_within 1000 types id

abbrev pub AreNested : Table → (Asked → Option Bool) → Type 0
AreNested types known = (asked : Asked) (b : Bool) → known asked ≡ Some b → b ≡ nests_within asked.depth types asked.id

abbrev pub AreLeaves : Table → (Asked → Option ℕ) → Type 0
AreLeaves types known = (asked : Asked) (n : ℕ) → known asked ≡ Some n → n ≡ leaves_within asked.depth types asked.id

-- what is known is right
pub record AreSizes (types : Table) (sizes : Sizes) : Type 0 where
  pub nested : AreNested types (get same_asked sizes.nested)
  pub leaves : AreLeaves types (get same_asked sizes.leaves)
