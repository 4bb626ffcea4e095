-- What 128 bits keep of an integer is enough for its lowest 64.
use Rattle.std.proofs.Common.{◌≡◌, ℕ, zero, suc, ◌+◌, ◌-◌, ◌*◌, ◌/◌, ◌%◌, ◌^◌, ◌<◌, ◌==◌, nat_lt, ℤ, pos, negsuc, neg_ℤ, ◌+ℤ◌, Bool, true, false, cond, refl, sym, ap, subst, ◌∙◌, arith, lit<, unsigned_abs, if◌then◌else◌}
use Rattle.std.specs.Int.{int_rem_euclid, int_wrap, w128, cast_signed, cast_unsigned, ◌∣◌}
use Rattle.std.specs.Int.RustNames.{FitsSigned, int_div}
use Rattle.std.proofs.lemmas.Int.{ints, int_rem_euclid_is}
use Rattle.std.proofs.Math.Nat.{div-le_self, mod-mod_of_dvd, dvd-mul_left, div-add-mod, mod-lt, mul_assoc}
use Rattle.go_type.specs.declared.kinds.IntKind.{IntKind}
use Rattle.go_value.specs.Ints.{bits_of, residue, as_kind, wrapped}

abbrev all : ℕ
all = 340282366920938463463374607431768211456

-- n bits of what 128 bits stand for, m being how often n goes into 2 to the 128
from_bits : (n m r : ℕ) (b : Bool) → 0 < n → all ≡ m * n → r < all → int_rem_euclid (cond b (pos r) (negsuc (all - suc r))) (pos n) ≡ pos (r % n)
from_bits n m r true some e h = refl
from_bits n m r false some e h =
    let same : negsuc (all - suc r) +ℤ pos all ≡ pos r = omega (arith, ints) in
    int_rem_euclid_is (negsuc (all - suc r)) (pos n) n m r some refl (ap (λ x. negsuc (all - suc r) +ℤ pos x) (sym e) ∙ same)

from_cast : (n m r : ℕ) → 0 < n → all ≡ m * n → r < all → int_rem_euclid (cast_signed w128 r) (pos n) ≡ pos (r % n)
from_cast n m r some e h = from_bits n m r (nat_lt r (2 ^ 127)) some e h

-- of an integer modulo 2 to the 128
of_residue : (n m : ℕ) (z : ℤ) → 0 < n → all ≡ m * n → pos (unsigned_abs (int_rem_euclid z (pos all)) % n) ≡ int_rem_euclid z (pos n)
of_residue n m (pos a) some e =
    let P : ℕ → Type 0 = λ x. n ∣ x in
    ap pos (mod-mod_of_dvd n a (subst P (sym e) (dvd-mul_left n m)))
of_residue n m (negsuc a) some e =
    let q : ℕ = a / all in
    let times : (q + 1) * m * n ≡ (q + 1) * all = mul_assoc (q + 1) m n ∙ ap (λ x. (q + 1) * x) (sym e) in
    let parts : all * q + a % all ≡ a = div-add-mod a all in
    let less : a % all < all = mod-lt a (lit< tt) in
    let same : negsuc a +ℤ pos ((q + 1) * all) ≡ pos (all - 1 - a % all) = omega (arith, ints, parts, less) in
    sym (int_rem_euclid_is (negsuc a) (pos n) n ((q + 1) * m) (all - 1 - a % all) some refl (ap (λ x. negsuc a +ℤ pos x) times ∙ same))

within : (z : ℤ) → unsigned_abs (int_rem_euclid z (pos all)) < all
within (pos a) = mod-lt a (lit< tt)
within (negsuc a) = omega arith

wrap_residue : (n m : ℕ) (z : ℤ) → 0 < n → all ≡ m * n → int_rem_euclid (int_wrap w128 z) (pos n) ≡ int_rem_euclid z (pos n)
unfolding int_wrap
wrap_residue n m z some e = from_cast n m (unsigned_abs (int_rem_euclid z (pos all))) some e (within z) ∙ of_residue n m z some e

at_one_of : (P : ℕ → Type 0) (a b c : Bool) → P 8 → P 16 → P 32 → P 64 → P (if a then 8 else (if b then 16 else (if c then 32 else 64)))
at_one_of P true b c p q r s = p
at_one_of P false true c p q r s = q
at_one_of P false false true p q r s = r
at_one_of P false false false p q r s = s

-- what holds at each width holds at that of a kind
at_width : (P : ℕ → Type 0) → P 8 → P 16 → P 32 → P 64 → (kind : IntKind) → P (bits_of kind)
at_width P p q r s kind = at_one_of P (kind.bits == 8) (kind.bits == 16) (kind.bits == 32) p q r s

-- to wrap at 128 bits on the way changes nothing
pub wrapped_wrap : (kind : IntKind) (z : ℤ) → wrapped kind (int_wrap w128 z) ≡ wrapped kind z
wrapped_wrap kind z =
    let P : ℕ → Type 0 = λ bits. residue bits (int_wrap w128 z) ≡ residue bits z in
    ap (as_kind kind) (at_width P
    (wrap_residue (2 ^ 8) (2 ^ 120) z (lit< tt) refl)
    (wrap_residue (2 ^ 16) (2 ^ 112) z (lit< tt) refl)
    (wrap_residue (2 ^ 32) (2 ^ 96) z (lit< tt) refl)
    (wrap_residue (2 ^ 64) (2 ^ 64) z (lit< tt) refl)
    kind)

cast_residue : (n m : ℕ) (q : ℤ) → 0 < n → all ≡ m * n → unsigned_abs q < all → pos (cast_unsigned w128 q % n) ≡ int_rem_euclid q (pos n)
cast_residue n m (pos x) some e h = refl
cast_residue n m (negsuc x) some e h =
    let same : negsuc x +ℤ pos all ≡ pos (all - suc x) = omega (arith, ints, h) in
    sym (int_rem_euclid_is (negsuc x) (pos n) n m (all - suc x) some refl (ap (λ y. negsuc x +ℤ pos y) (sym e) ∙ same))

cast_below : (q : ℤ) → unsigned_abs q < all → cast_unsigned w128 q < all
cast_below (pos x) h = h
cast_below (negsuc x) h = omega arith

back_residue : (n m : ℕ) (q : ℤ) → 0 < n → all ≡ m * n → unsigned_abs q < all → int_rem_euclid (cast_signed w128 (cast_unsigned w128 q)) (pos n) ≡ int_rem_euclid q (pos n)
back_residue n m q some e h = from_cast n m (cast_unsigned w128 q) some e (cast_below q h) ∙ cast_residue n m q some e h

-- the same of what is put into 128 bits
pub wrapped_cast : (kind : IntKind) (q : ℤ) → unsigned_abs q < all → wrapped kind (cast_signed w128 (cast_unsigned w128 q)) ≡ wrapped kind q
wrapped_cast kind q h =
    let P : ℕ → Type 0 = λ bits. residue bits (cast_signed w128 (cast_unsigned w128 q)) ≡ residue bits q in
    ap (as_kind kind) (at_width P
    (back_residue (2 ^ 8) (2 ^ 120) q (lit< tt) refl h)
    (back_residue (2 ^ 16) (2 ^ 112) q (lit< tt) refl h)
    (back_residue (2 ^ 32) (2 ^ 96) q (lit< tt) refl h)
    (back_residue (2 ^ 64) (2 ^ 64) q (lit< tt) refl h)
    kind)

neg_below : (n : ℕ) → n < all → unsigned_abs (neg_ℤ (pos n)) < all
neg_below zero h = h
neg_below (suc n) h = h

-- a quotient of what has 128 bits
pub quotient_below : (a b : ℤ) → FitsSigned w128 a → unsigned_abs (int_div a b) < all
quotient_below (pos x) (pos y) f = let h : x < 2 ^ 127 = f.sfits in omega (arith, div-le_self x y, h)
quotient_below (pos x) (negsuc y) f = let h : x < 2 ^ 127 = f.sfits in neg_below (x / suc y) (omega (arith, div-le_self x (suc y), h))
quotient_below (negsuc x) (pos y) f = let h : x < 2 ^ 127 = f.sfits in neg_below (suc x / y) (omega (arith, div-le_self (suc x) y, h))
quotient_below (negsuc x) (negsuc y) f = let h : x < 2 ^ 127 = f.sfits in omega (arith, div-le_self (suc x) (suc y), h)
