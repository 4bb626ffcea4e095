-- Values of digits.
use Rattle.std.proofs.Common.{◌≡◌, ◌≢◌, ℕ, zero, suc, ◌+◌, ◌-◌, ◌*◌, ◌^◌, ◌<◌, ◌≤◌, Bool, true, false, ◌==◌, if◌then◌else◌, Some, None, List, [], ◌∷◌, length, get_or, drop, refl, ap, ◌∙◌, arith, add-one, nat_lt}
use Rattle.std.proofs.Math.Nat.{pow-suc, pow-le-pow_right, suc-mul, le-mul_of_pos_right}
use Rattle.std.proofs.lemmas.Nat.{mul-le}
use Rattle.std.proofs.lemmas.Bool.Decides.{nat_tests}
use Rattle.std.specs.Char.{digit_value}
use Rattle.go_ast.specs.Literals.{digits_value, fixed_digits}
use Rattle.go_scan.specs.Reach.{limited}
use Rattle.go_scan.proofs.Steps.{drop-step, digits_value-step}

-- ---- integers

pub digits_value-least : (base high : ℕ) (text : List ℕ) → 1 ≤ base → high ≤ digits_value base high text
digits_value-least base high [] h = omega arith
digits_value-least base high (byte ∷ text) h =
    split (byte == 95) (digits_value-least base high text h)
    (omega (arith, digits_value-least base (high * base + digit_value byte) text h, le-mul_of_pos_right {m = base} high (omega arith)))
  where
    split : (b : Bool) → high ≤ digits_value base high text → high ≤ digits_value base (high * base + digit_value byte) text
        → high ≤ (if b then digits_value base high text else digits_value base (high * base + digit_value byte) text)
    split true same more = same
    split false same more = more

pub limited-some : (value found : ℕ) → limited value ≡ Some found → (found ≡ value) × (value < 2 ^ 127)
limited-some value found e = split (nat_lt value (2 ^ 127)) refl e
  where
    split : (b : Bool) → nat_lt value (2 ^ 127) ≡ b → (if b then Some value else None) ≡ Some found → (found ≡ value) × (value < 2 ^ 127)
    split true t e = (cc, grind (arith, nat_tests))
    split false t e = absurd cc

pub limited-none : (value above : ℕ) → limited value ≡ None → value ≤ above → limited above ≡ None
limited-none value above e h = split (nat_lt value (2 ^ 127)) refl e
  where
    split : (b : Bool) → nat_lt value (2 ^ 127) ≡ b → (if b then Some value else None) ≡ None → limited above ≡ None
    split true t e = absurd cc
    split false t e = let f : nat_lt above (2 ^ 127) ≡ false = grind (arith, nat_tests) in ap (λ b. if b then Some above else None) f

-- ---- digits of escapes

pub fixed-short : (base count high : ℕ) (text : List ℕ) → length text < count → fixed_digits base count high text ≡ None
fixed-short base zero high text h = absurd (omega arith)
fixed-short base (suc count) high [] h = refl
fixed-short base (suc count) high (byte ∷ text) h =
    split (nat_lt (digit_value byte) base) (fixed-short base count (high * base + digit_value byte) text (omega arith))
  where
    split : (b : Bool) → fixed_digits base count (high * base + digit_value byte) text ≡ None → (if b then fixed_digits base count (high * base + digit_value byte) text else None) ≡ None
    split true e = e
    split false e = refl

pub fixed-length : (base count high value : ℕ) (text : List ℕ) → fixed_digits base count high text ≡ Some value → count ≤ length text
fixed-length base zero high value text e = omega arith
fixed-length base (suc count) high value [] e = absurd cc
fixed-length base (suc count) high value (byte ∷ text) e =
    split (nat_lt (digit_value byte) base) (fixed-length base count (high * base + digit_value byte) value text) e
  where
    split : (b : Bool) → (fixed_digits base count (high * base + digit_value byte) text ≡ Some value → count ≤ length text) → (if b then fixed_digits base count (high * base + digit_value byte) text else None) ≡ Some value → suc count ≤ length (byte ∷ text)
    split true f e = omega (arith, f e)
    split false f e = absurd cc

-- the turn of a loop over digits
pub fixed-step : (base count high : ℕ) (text : List ℕ) (i : ℕ) → i < count → i < length text →
    fixed_digits base (count - i) high (drop i text) ≡ (if nat_lt (digit_value (get_or text i 0)) base then fixed_digits base (count - (i + 1)) (high * base + digit_value (get_or text i 0)) (drop (i + 1) text) else None)
fixed-step base count high text i h g =
    let less : count - i ≡ suc (count - (i + 1)) = omega arith in
    ap (λ n. fixed_digits base n high (drop i text)) less ∙ ap (fixed_digits base (suc (count - (i + 1))) high) (drop-step text i g)

pub fixed-good : (base count high : ℕ) (text : List ℕ) (i : ℕ) → i < count → i < length text → digit_value (get_or text i 0) < base →
    fixed_digits base (count - i) high (drop i text) ≡ fixed_digits base (count - (i + 1)) (high * base + digit_value (get_or text i 0)) (drop (i + 1) text)
fixed-good base count high text i h g d =
    let t : nat_lt (digit_value (get_or text i 0)) base ≡ true = grind (arith, nat_tests) in
    fixed-step base count high text i h g
    ∙ ap (λ b. if b then fixed_digits base (count - (i + 1)) (high * base + digit_value (get_or text i 0)) (drop (i + 1) text) else None) t

pub fixed-bad : (base count high : ℕ) (text : List ℕ) (i : ℕ) → i < count → i < length text → base ≤ digit_value (get_or text i 0) →
    fixed_digits base (count - i) high (drop i text) ≡ None
fixed-bad base count high text i h g d =
    let t : nat_lt (digit_value (get_or text i 0)) base ≡ false = grind (arith, nat_tests) in
    fixed-step base count high text i h g
    ∙ ap (λ b. if b then fixed_digits base (count - (i + 1)) (high * base + digit_value (get_or text i 0)) (drop (i + 1) text) else None) t

pub digit-fits : (value base d i : ℕ) → value < 16 ^ i → base ≤ 16 → d < base → value * base + d < 16 ^ (i + 1)
digit-fits value base d i h b l =
    let product : suc value * base ≤ 16 ^ i * 16 = mul-le (suc value) base (16 ^ i) 16 (omega arith) b in
    let spread : suc value * base ≡ value * base + base = suc-mul value base in
    let power : 16 ^ suc i ≡ 16 ^ i * 16 = pow-suc 16 i in
    rw add-one (omega (arith, product, spread, power))

pub power-fits : (i : ℕ) → i ≤ 8 → 16 ^ i ≤ 2 ^ 32
power-fits i h = pow-le-pow_right {n = 16} (omega arith) {i = i} {j = 8} h

-- ---- the turns of a loop over the digits of an integer

pub int-bar : (base value : ℕ) (digits : List ℕ) (i : ℕ) → i < length digits → get_or digits i 0 ≡ 95 → digits_value base value (drop i digits) ≡ digits_value base value (drop (i + 1) digits)
int-bar base value digits i h e =
    digits_value-step base value digits i h
    ∙ ap (λ n. if n == 95 then digits_value base value (drop (i + 1) digits) else digits_value base (value * base + digit_value n) (drop (i + 1) digits)) e

pub int-digit : (base value : ℕ) (digits : List ℕ) (i : ℕ) → i < length digits → get_or digits i 0 ≢ 95 → digits_value base value (drop i digits) ≡ digits_value base (value * base + digit_value (get_or digits i 0)) (drop (i + 1) digits)
int-digit base value digits i h e =
    let t : get_or digits i 0 == 95 ≡ false = grind (arith, nat_tests) in
    digits_value-step base value digits i h
    ∙ ap (λ b. if b then digits_value base value (drop (i + 1) digits) else digits_value base (value * base + digit_value (get_or digits i 0)) (drop (i + 1) digits)) t

pub int-over : (base value : ℕ) (digits : List ℕ) (i : ℕ) → 1 ≤ base → i < length digits → get_or digits i 0 ≢ 95
    → digits_value base 0 digits ≡ digits_value base value (drop i digits)
    → limited (value * base + digit_value (get_or digits i 0)) ≡ None → limited (digits_value base 0 digits) ≡ None
int-over base value digits i one h e reached none =
    ap limited (reached ∙ int-digit base value digits i h e)
    ∙ limited-none (value * base + digit_value (get_or digits i 0)) (digits_value base (value * base + digit_value (get_or digits i 0)) (drop (i + 1) digits)) none
    (digits_value-least base (value * base + digit_value (get_or digits i 0)) (drop (i + 1) digits) one)
