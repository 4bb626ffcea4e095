-- How many registers of each kind there are.
use Rattle.std.specs.Prelude.{◌≡◌, ◌+◌, ◌<◌, ◌==◌, ◌^◌, nat_lt, ℕ, Bool, true, false, not, if◌then◌else◌, List, length}
use Rattle.std.specs.Prelude.{count_by, slice_get}
use Rattle.std.specs.BTreeMap.{values}
use Rattle.ssa_sane.specs.Homes.{is_entered_in}
use Rattle.ssa_sane.specs.Trees.{own_at}
use Rattle.ssa_sane.specs.declared.counts.Counts.{Counts}
use Rattle.ssa_sane.specs.declared.homes.Home.{Home}
use Rattle.ssa_sane.specs.declared.homes.Home.TheVariants.{Block, Start, Several}
use Rattle.ssa_sane.specs.declared.homes.Homes.{Homes}
use Rattle.ssa_sane.specs.declared.reach.Lacking.{Lacking}

-- a register is given in this block alone
abbrev pub is_at : ℕ → Home → Bool
is_at block (Block home) = home == block
is_at block _ = false

abbrev pub is_start : Home → Bool
is_start Start = true
is_start _ = false

-- a register of several homes is available at the entry of a block
abbrev pub is_other : List Lacking → ℕ → Home → Bool
is_other lacking block (Several index) = not (is_entered_in (slice_get lacking index) block)
is_other lacking block _ = false

abbrev pub one : Bool → ℕ
one b = if b then 1 else 0

abbrev pub AllSmall : List ℕ → Type 0
AllSmall counts = (block : ℕ) → own_at counts block < 2 ^ 63

-- each block of those that pass has one more
pub record AddsOnes (passes : ℕ → Bool) (old new : List ℕ) : Type 0 where
  pub size : length new ≡ length old
  pub each : (block : ℕ) → block < length old → own_at new block ≡ own_at old block + one (passes block)

-- a register with a home is counted
pub record AddsHome (lacking : List Lacking) (home : Home) (old new : Counts) : Type 0 where
  pub own : AddsOnes (λ block. is_at block home) old.own.items new.own.items
  pub starts : new.starts ≡ old.starts + one (is_start home)
  pub others : AddsOnes (λ block. is_other lacking block home) old.others.items new.others.items

-- what is counted of so many blocks, but for some homes
pub record AreCountsBut (lacking : List Lacking) (all rest : List Home) (blocks : ℕ) (counts : Counts) : Type 0 where
  pub own_size : length counts.own.items ≡ blocks
  pub own : (block : ℕ) → block < blocks
      → own_at counts.own.items block + count_by (is_at block) rest ≡ count_by (is_at block) all
  pub starts : counts.starts + count_by is_start rest ≡ count_by is_start all
  pub others_size : length counts.others.items ≡ blocks
  pub others : (block : ℕ) → block < blocks
      → own_at counts.others.items block + count_by (is_other lacking block) rest
      ≡ count_by (is_other lacking block) all

-- how many registers of each kind there are
pub record AreCounts (homes : Homes) (blocks : ℕ) (counts : Counts) : Type 0 where
  pub own_size : length counts.own.items ≡ blocks
  pub own : (block : ℕ) → block < blocks → own_at counts.own.items block ≡ count_by (is_at block) (values homes.map)
  pub starts : counts.starts ≡ count_by is_start (values homes.map)
  pub others : (block : ℕ) → block < blocks
      → own_at counts.others.items block ≡ count_by (is_other homes.lacking.items block) (values homes.map)

-- those that are available at the entry of a block but not given in one block alone
abbrev pub others_of : Counts → ℕ → ℕ
others_of counts block = (if nat_lt 0 block then counts.starts else 0) + own_at counts.others.items block
