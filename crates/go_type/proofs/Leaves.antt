-- Counting leaves up to a limit.
use Rattle.std.proofs.Common.{◌≡◌, ℕ, zero, suc, ◌-◌, ◌*◌, ◌<◌, ◌≤◌, max, min, List, Some, refl, sym, ap, ◌∙◌, arith, ◌⊎◌, inl, inr}
use Rattle.std.specs.List.{sum_by}
use Rattle.std.proofs.Math.Nat.{suc-mul, zero-mul}
use Rattle.std.proofs.lemmas.Bool.{cases_lt}
use Rattle.go_base.specs.declared.ids.TypeId.{TypeId}
use Rattle.go_type.specs.declared.term.Field.{Field}
use Rattle.go_type.specs.declared.term.TypeTerm.TheVariants.{Array, Struct}
use Rattle.go_type.specs.Table.{Table, term_at, underlying_of}
use Rattle.go_type.specs.Sizes.{leaves_to, leaves_of}

times_large : (n m k : ℕ) → k ≤ m → k ≤ suc n * m
times_large n m k h = omega (arith, suc-mul n m)

-- a factor may be cut at the limit first
cut : (limit len leaves : ℕ) → 1 ≤ limit → min limit (max 1 (len * min limit leaves)) ≡ min limit (max 1 (len * leaves))
cut limit zero leaves h = ap (λ m. min limit (max 1 m)) (zero-mul (min limit leaves) ∙ sym (zero-mul leaves))
cut limit (suc n) leaves h = by (cases_lt limit leaves)
  where
    by : (limit < leaves) ⊎ (leaves ≤ limit) → min limit (max 1 (suc n * min limit leaves)) ≡ min limit (max 1 (suc n * leaves))
    by (inl more) =
        let is : min limit leaves ≡ limit = omega arith in
        let first : limit ≤ suc n * min limit leaves = times_large n (min limit leaves) limit (omega arith) in
        let second : limit ≤ suc n * leaves = times_large n leaves limit (omega arith) in
        omega (arith, first, second)
    by (inr within) =
        let is : min limit leaves ≡ leaves = omega arith in
        ap (λ m. min limit (max 1 (suc n * m))) is

deeper : (depth : ℕ) (types : Table) (id : TypeId) → (depth ≡ 0 → ⊥) → leaves_to depth types id ≡ leaves_of (leaves_to (depth - 1) types) (term_at types (underlying_of types id))
deeper zero types id h = absurd (h refl)
deeper (suc n) types id h = let is : suc n - 1 ≡ n = omega arith in ap (λ m. leaves_of (leaves_to m types) (term_at types (underlying_of types id))) (sym is)

pub array_leaves : (limit depth len r part : ℕ) (types : Table) (id elem : TypeId) → 1 ≤ limit → (depth ≡ 0 → ⊥)
    → Some (Array len elem) ≡ term_at types (underlying_of types id)
    → part ≡ min limit (leaves_to (depth - 1) types elem) → r ≡ min limit (max 1 (len * part)) → r ≡ min limit (leaves_to depth types id)
array_leaves limit depth len r part types id elem room h term is e =
    e ∙ ap (λ m. min limit (max 1 (len * m))) is ∙ cut limit len (leaves_to (depth - 1) types elem) room
    ∙ ap (λ t. min limit (leaves_of (leaves_to (depth - 1) types) t)) term ∙ sym (ap (min limit) (deeper depth types id h))

least : (limit sum : ℕ) → 1 ≤ limit → max (min limit sum) 1 ≡ min limit (max 1 sum)
least limit sum h = omega arith

pub struct_leaves : (limit depth r sum : ℕ) (types : Table) (id : TypeId) (fields slice : List Field) → 1 ≤ limit → (depth ≡ 0 → ⊥)
    → Some (Struct fields) ≡ term_at types (underlying_of types id) → slice ≡ fields
    → sum ≡ min limit (sum_by (λ field. leaves_to (depth - 1) types field.of) slice) → r ≡ max sum 1 → r ≡ min limit (leaves_to depth types id)
struct_leaves limit depth r sum types id fields slice room h term same is e =
    e ∙ ap (λ m. max m 1) (is ∙ ap (λ l. min limit (sum_by (λ (field : Field). leaves_to (depth - 1) types field.of) l)) same)
    ∙ least limit (sum_by (λ field. leaves_to (depth - 1) types field.of) fields) room
    ∙ ap (λ t. min limit (leaves_of (leaves_to (depth - 1) types) t)) term ∙ sym (ap (min limit) (deeper depth types id h))
