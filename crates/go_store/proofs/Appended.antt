-- What append makes of slices and stores.
use Rattle.std.proofs.Common.{◌≡◌, ap, ◌∙◌, [], ℕ, zero, suc, ◌+◌, ◌<◌, ◌≤◌, cond, leb, div-le_self, ◌||◌, ◌==◌, max, Some, None, false, arith}
use Rattle.std.proofs.Math.Dec.{eqb-suc-zero}
use Rattle.std.proofs.lemmas.Bool.{lt-leb}
use Rattle.go_value.specs.declared.address.SliceValue.{SliceValue}
use Rattle.go_value.specs.declared.faults.Fault.TheVariants as fault
use Rattle.go_store.specs.Slices.{append_fault, elements_of, most_elements, run_in}
use Rattle.go_store.specs.Stores.{Stored}

pub no_elements : (store : Stored) (slice : SliceValue) → slice.len ≡ 0 → elements_of store slice ≡ Some []
no_elements store slice e = ap (λ n. cond (leb n 0) (Some []) (run_in store slice.at n)) e

eq_no : (n : ℕ) → 0 < n → (n == 0) ≡ false
eq_no zero h = absurd (omega arith)
eq_no (suc n) h = eqb-suc-zero n

pub grow_fault : (leaves : ℕ) (slice : SliceValue) (count : ℕ) → 0 < count → slice.cap < slice.len + count → most_elements leaves < slice.len + count → append_fault leaves slice count ≡ Some fault.GrowSlice
grow_fault leaves slice count some past many =
    ap (λ b. cond (b || leb (slice.len + count) slice.cap || leb (slice.len + count) (most_elements leaves)) None (Some fault.GrowSlice)) (eq_no count some)
    ∙ ap (λ b. cond (b || leb (slice.len + count) (most_elements leaves)) None (Some fault.GrowSlice)) (lt-leb (slice.len + count) slice.cap past)
    ∙ ap (λ b. cond b None (Some fault.GrowSlice)) (lt-leb (slice.len + count) (most_elements leaves) many)

pub most_is_less : (leaves : ℕ) → most_elements leaves ≤ 16777216
most_is_less leaves = div-le_self 16777216 (max leaves 1)

pub far : (n m : ℕ) → (n < m → ⊥) → m ≤ n
far n m h = omega arith
