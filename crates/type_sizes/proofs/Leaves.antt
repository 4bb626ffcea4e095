-- Leaves of a struct, up to a limit.
use Rattle.std.proofs.Common.{◌≡◌, ℕ, zero, suc, ◌-◌, ◌≤◌, max, min, List, Some, refl, sym, ap, ◌∙◌, arith}
use Rattle.std.specs.List.{sum_by}
use Rattle.go_base.specs.declared.ids.TypeId.{TypeId}
use Rattle.go_type.specs.declared.term.Field.{Field}
use Rattle.go_type.specs.declared.term.TypeTerm.TheVariants.{Struct}
use Rattle.go_type.specs.Table.{Table, term_at, underlying_of}
use Rattle.go_type.specs.Sizes.{leaves_to, leaves_of}

deeper : (depth : ℕ) (types : Table) (id : TypeId) → (depth ≡ 0 → ⊥) → leaves_to depth types id ≡ leaves_of (leaves_to (depth - 1) types) (term_at types (underlying_of types id))
deeper zero types id h = absurd (h refl)
deeper (suc n) types id h = let is : suc n - 1 ≡ n = omega arith in ap (λ m. leaves_of (leaves_to m types) (term_at types (underlying_of types id))) (sym is)

least : (limit sum : ℕ) → 1 ≤ limit → max (min limit sum) 1 ≡ min limit (max 1 sum)
least limit sum h = omega arith

pub struct_leaves : (limit depth r sum : ℕ) (types : Table) (id : TypeId) (fields slice : List Field) → 1 ≤ limit → (depth ≡ 0 → ⊥)
    → Some (Struct fields) ≡ term_at types (underlying_of types id) → slice ≡ fields
    → sum ≡ min limit (sum_by (λ field. leaves_to (depth - 1) types field.of) slice) → r ≡ max sum 1 → r ≡ min limit (leaves_to depth types id)
struct_leaves limit depth r sum types id fields slice room h term same is e =
    e ∙ ap (λ m. max m 1) (is ∙ ap (λ l. min limit (sum_by (λ (field : Field). leaves_to (depth - 1) types field.of) l)) same)
    ∙ least limit (sum_by (λ field. leaves_to (depth - 1) types field.of) fields) room
    ∙ ap (λ t. min limit (leaves_of (leaves_to (depth - 1) types) t)) term ∙ sym (ap (min limit) (deeper depth types id h))
