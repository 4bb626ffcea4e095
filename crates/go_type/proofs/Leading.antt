-- Types that lead to one another by elements of arrays and fields.
use Rattle.std.proofs.Common.{◌≡◌, ℕ, zero, suc, Bool, true, false, true≢false, ◌||◌, refl, sym, ap, ◌∙◌, ◌⊎◌, inl, inr}
use Rattle.go_base.specs.declared.ids.TypeId.{TypeId}
use Rattle.go_type.specs.Conditions.{reaches_to}
use Rattle.go_type.specs.Inline.{parts_of}
use Rattle.go_type.specs.Levels.{is_seen}
use Rattle.go_type.specs.Same.{same_id, same_id-Decides}
use Rattle.go_type.specs.Table.{Table, term_at, underlying_of}
use Rattle.go_type.proofs.InlineTypes.{any_seen, by_inline, inline_of, self_same, which, or_left, or_right}

-- a part of x, or of what x leads to
pub data Leads (types : Table) : TypeId → TypeId → Type 0 where
  part : {x y : TypeId} → is_seen (parts_of types x) y ≡ true → Leads types x y
  along : {x y z : TypeId} → is_seen (parts_of types x) z ≡ true → Leads types z y → Leads types x y

pub leads_on : (types : Table) (x y z : TypeId) → Leads types x y → Leads types y z → Leads types x z
leads_on types x y z (part at) rest = along at rest
leads_on types x y z (along {z = w} at more) rest = along at (leads_on types w y z more rest)

-- the same by steps
pub from_steps : (types : Table) (n : ℕ) (y x : TypeId) → reaches_to n types y x ≡ true → Leads types x y
from_steps types zero y x h = absurd (true≢false (sym h))
from_steps types (suc n) y x h =
    let found = any_seen (λ z. same_id y z || reaches_to n types y z) (parts_of types x) (by_inline y (reaches_to n types y) (term_at types (underlying_of types x)) h) in
    side found.0 found.1.0 (which (same_id y found.0) (reaches_to n types y found.0) found.1.1) (from_steps types n y found.0)
  where
    side : (z : TypeId) → is_seen (parts_of types x) z ≡ true → (same_id y z ≡ true) ⊎ (reaches_to n types y z ≡ true) → (reaches_to n types y z ≡ true → Leads types z y) → Leads types x y
    side z at (inl same) rest = part (ap (is_seen (parts_of types x)) ((same_id-Decides y z).0 same) ∙ at)
    side z at (inr more) rest = along at (rest more)

pub to_steps : (types : Table) (x y : TypeId) → Leads types x y → (n : ℕ) × (reaches_to n types y x ≡ true)
to_steps types x y (part at) =
    (1, inline_of y (reaches_to 0 types y) (term_at types (underlying_of types x)) y at (or_left _ _ (self_same y)))
to_steps types x y (along {z = z} at more) =
    let rest = to_steps types z y more in
    (suc rest.0, inline_of y (reaches_to rest.0 types y) (term_at types (underlying_of types x)) z at (or_right (same_id y z) _ rest.1))

-- where none leads to itself, none reaches itself by steps
pub never_itself : (types : Table) → ((x : TypeId) → Leads types x x → ⊥) → (n : ℕ) (x : TypeId) → reaches_to n types x x ≡ false
never_itself types none n x = by (reaches_to n types x x) refl
  where
    by : (b : Bool) → reaches_to n types x x ≡ b → b ≡ false
    by true e = absurd (none x (from_steps types n x x e))
    by false e = refl

pub none_leads : (types : Table) → ((n : ℕ) (x : TypeId) → reaches_to n types x x ≡ false) → (x : TypeId) → Leads types x x → ⊥
none_leads types never x leads = let steps = to_steps types x x leads in true≢false (sym steps.1 ∙ never steps.0 x)
