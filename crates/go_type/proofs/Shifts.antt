-- Shifts by counts that are too large.
use Rattle.std.proofs.Common.{◌≡◌, ◌≢◌, ℕ, zero, suc, ◌*◌, ◌/◌, ◌^◌, ◌<◌, ◌≤◌, ℤ, pos, negsuc, ◌*ℤ◌, neg_ℤ, false, Ok, Err, refl, sym, ap, ◌∙◌, arith, if◌then◌else◌}
use Rattle.std.specs.Int.{int_shr, w128}
use Rattle.std.specs.Int.RustNames.{FitsSigned}
use Rattle.std.proofs.Math.Pow.{pow_mono}
use Rattle.std.proofs.Math.Nat.{div-eq_of_lt, suc-mul}
use Rattle.std.proofs.lemmas.Bool.Decides.{nat_tests}
use Rattle.go_type.specs.declared.constants.IntFault.TheVariants as fault
use Rattle.go_type.specs.Constants.{fits, in_range}

times_large : (n m k : ℕ) → k ≤ m → k ≤ suc n * m
times_large n m k h = omega (arith, suc-mul n m)

out : (z : ℤ) → fits z ≡ false → Err fault.OutOfRange ≡ in_range z
out z h = sym (ap (λ b. if b then Ok z else Err fault.OutOfRange) h)

large : (v : ℕ) → 2 ^ 128 ≤ v → fits (pos v) ≡ false
large v h = grind (arith, nat_tests)

large_negative : (v : ℕ) → 2 ^ 128 ≤ v → fits (neg_ℤ (pos v)) ≡ false
large_negative zero h = absurd (omega arith)
large_negative (suc w) h = grind (arith, nat_tests)

-- an integer other than 0, times 2 to more than 127
pub far_left : (a : ℤ) (k : ℕ) → a ≢ pos 0 → 127 < k → Err fault.OutOfRange ≡ in_range (a *ℤ pos (2 ^ k))
far_left (pos zero) k other far = absurd (other refl)
far_left (pos (suc n)) k other far =
    let power : 2 ^ 128 ≤ 2 ^ k = pow_mono far in
    out (pos (suc n * 2 ^ k)) (large (suc n * 2 ^ k) (times_large n (2 ^ k) (2 ^ 128) power))
far_left (negsuc n) k other far =
    let power : 2 ^ 128 ≤ 2 ^ k = pow_mono far in
    out (neg_ℤ (pos (suc n * 2 ^ k))) (large_negative (suc n * 2 ^ k) (times_large n (2 ^ k) (2 ^ 128) power))

below : (n i k : ℕ) → n < 2 ^ i → i ≤ k → n / 2 ^ k ≡ 0
below n i k h le =
    let power : 2 ^ i ≤ 2 ^ k = pow_mono le in
    let less : n < 2 ^ k = omega arith in
    div-eq_of_lt less

-- 2 to the 127 or more, under what has 128 bits
pub far_right : (a : ℤ) (k : ℕ) → FitsSigned w128 a → 127 ≤ k → int_shr a 127 ≡ int_shr a k
far_right (pos n) k h far = ap pos (below n 127 127 h.sfits (omega arith) ∙ sym (below n 127 k h.sfits far))
far_right (negsuc n) k h far = ap negsuc (below n 127 127 h.sfits (omega arith) ∙ sym (below n 127 k h.sfits far))
