-- Shifts.
use Rattle.std.proofs.Common.{◌≡◌, ℕ, zero, suc, ◌+◌, ◌-◌, ◌*◌, ◌/◌, ◌%◌, ◌^◌, ◌<◌, ◌≤◌, ℤ, pos, negsuc, neg_ℤ, ◌+ℤ◌, ◌*ℤ◌, ◌-ℤ◌, Bool, true, false, not, ◌&&◌, refl, sym, ap, ◌∙◌, arith, if◌then◌else◌}
use Rattle.std.specs.Prelude.{int_lt}
use Rattle.std.specs.Int.{int_rem_euclid, int_wrap, int_shl, int_shr, w128}
use Rattle.std.specs.Int.RustNames.{FitsSigned}
use Rattle.std.proofs.lemmas.Int.{ints, int_rem_euclid_is, wrapping_mul_is}
use Rattle.std.proofs.lemmas.Nat.{pow-add, pow_below}
use Rattle.std.proofs.lemmas.Bool.Decides.{nat_tests}
use Rattle.std.proofs.Math.Pow.{pow_mono}
use Rattle.std.proofs.Math.Nat.{div-eq_of_lt, mul_assoc, mul-mod_left, zero-mod}
use Rattle.go_type.specs.declared.kinds.IntKind.{IntKind}
use Rattle.go_value.specs.Ints.{bits_of, residue, as_kind, wrapped}

-- to the left, by less than 127
pub shl_is : (a : ℤ) (k : ℕ) → FitsSigned w128 a → k < 127 → int_shl w128 a k ≡ int_wrap w128 (a *ℤ pos (2 ^ k))
shl_is a k f h =
    let power : 2 ^ k < 2 ^ 127 = pow_below k 127 h in
    wrapping_mul_is w128 a (pos (2 ^ k)) f (record { sfits = power })

some_power : (k : ℕ) → 0 < 2 ^ k
some_power k =
    let least : 0 ≤ k = omega arith in
    let power : 2 ^ 0 ≤ 2 ^ k = pow_mono least in
    omega arith

cancels : (v : ℕ) → neg_ℤ (pos v) +ℤ pos v ≡ pos 0
cancels zero = refl
cancels (suc w) = omega (arith, ints)

-- a multiple leaves nothing
of_multiple : (a : ℤ) (n m : ℕ) → 0 < n → int_rem_euclid (a *ℤ pos (m * n)) (pos n) ≡ pos 0
of_multiple (pos x) n m some = ap pos (ap (λ v. v % n) (sym (mul_assoc x m n)) ∙ mul-mod_left (x * m) n)
of_multiple (negsuc x) n m some =
    let same : neg_ℤ (pos (suc x * (m * n))) +ℤ pos (suc x * m * n) ≡ pos 0 =
    ap (λ v. neg_ℤ (pos (suc x * (m * n))) +ℤ pos v) (mul_assoc (suc x) m n) ∙ cancels (suc x * (m * n)) in
    int_rem_euclid_is (neg_ℤ (pos (suc x * (m * n)))) (pos n) n (suc x * m) 0 some refl same ∙ ap pos (zero-mod n)

residue_far : (bits : ℕ) (a : ℤ) (k : ℕ) → bits ≤ k → residue bits (a *ℤ pos (2 ^ k)) ≡ pos 0
residue_far bits a k h =
    let whole : (k - bits) + bits ≡ k = omega arith in
    let split : 2 ^ k ≡ 2 ^ (k - bits) * 2 ^ bits = ap (λ v. 2 ^ v) (sym whole) ∙ pow-add 2 (k - bits) bits in
    ap (λ v. int_rem_euclid (a *ℤ pos v) (pos (2 ^ bits))) split ∙ of_multiple a (2 ^ bits) (2 ^ (k - bits)) (some_power bits)

zero_stays : (s : Bool) (m : ℕ) (x : ℤ) → 0 < m → (if s && not (int_lt (pos 0) (pos m)) then x else pos 0) ≡ pos 0
zero_stays false m x h = refl
zero_stays true m x h =
    let less : int_lt (pos 0) (pos m) ≡ true = grind (arith, nat_tests) in
    ap (λ b. if not b then x else pos 0) less

-- to the left, by the width of the kind or more
pub far_left : (kind : IntKind) (a : ℤ) (k : ℕ) → bits_of kind ≤ k → pos 0 ≡ wrapped kind (a *ℤ pos (2 ^ k))
far_left kind a k h =
    sym (ap (as_kind kind) (residue_far (bits_of kind) a k h)
    ∙ zero_stays kind.signed (2 ^ (bits_of kind - 1)) (pos 0 -ℤ pos (2 ^ bits_of kind)) (some_power (bits_of kind - 1)))

below : (n i k : ℕ) → n < 2 ^ i → i ≤ k → n / 2 ^ k ≡ 0
below n i k h le =
    let power : 2 ^ i ≤ 2 ^ k = pow_mono le in
    let less : n < 2 ^ k = omega arith in
    div-eq_of_lt less

-- to the right, by 127 or more
pub far_right : (a : ℤ) (k : ℕ) → FitsSigned w128 a → 127 ≤ k → int_shr a 127 ≡ int_shr a k
far_right (pos n) k h far = ap pos (below n 127 127 h.sfits (omega arith) ∙ sym (below n 127 k h.sfits far))
far_right (negsuc n) k h far = ap negsuc (below n 127 127 h.sfits (omega arith) ∙ sym (below n 127 k h.sfits far))
