-- Numbers as bytes.
use Rattle.std.proofs.Common.{◌≡◌, ℕ, ◌+◌, ◌*◌, ◌/◌, ◌%◌, ◌<◌, ◌^◌, [], ◌∷◌, take, drop, refl, ap, sym, ◌∙◌, arith}
use Rattle.std.specs.Int.{to_le_bytes, from_le_bytes, w64, w128}
use Rattle.std.proofs.Math.Nat as nat
use Rattle.std.proofs.lemmas.Nat.{from_le_bytes-to_le_bytes_8}

pub number_same : (n m : ℕ) → n < 2 ^ 64 → m < 2 ^ 64 → to_le_bytes w64 n ≡ to_le_bytes w64 m → n ≡ m
number_same n m fits fits' is = sym (from_le_bytes-to_le_bytes_8 n fits) ∙ ap (from_le_bytes w64) is ∙ from_le_bytes-to_le_bytes_8 m fits'

byte_and_rest : (n p : ℕ) → n / p ≡ n / p % 256 + n / (p * 256) * 256
byte_and_rest n p = omega (arith, nat.div-div-eq-div-mul n p 256)

eight : (a b c d e f g h a' b' c' d' e' f' g' h' : ℕ) → a ≡ a' → b ≡ b' → c ≡ c' → d ≡ d' → e ≡ e' → f ≡ f' → g ≡ g' → h ≡ h' → (a ∷ b ∷ c ∷ d ∷ e ∷ f ∷ g ∷ h ∷ []) ≡ (a' ∷ b' ∷ c' ∷ d' ∷ e' ∷ f' ∷ g' ∷ h' ∷ [])
eight a b c d e f g h a' b' c' d' e' f' g' h' p q r s t u v w = cc

low_byte : (n : ℕ) → n % 18446744073709551616 % 256 ≡ n % 256
low_byte n = omega arith

low_bytes : (n : ℕ) → to_le_bytes w64 (n % 18446744073709551616) ≡ take 8 (to_le_bytes w128 n)
low_bytes n = eight _ _ _ _ _ _ _ _ _ _ _ _ _ _ _ _ (omega arith) (omega arith) (omega arith) (omega arith) (omega arith) (omega arith) (omega arith) (omega arith)

high_bytes : (n : ℕ) → to_le_bytes w64 (n / 18446744073709551616) ≡ drop 8 (to_le_bytes w128 n)
high_bytes n = eight _ _ _ _ _ _ _ _ _ _ _ _ _ _ _ _ refl
    (ap (λ x. x % 256) (nat.div-div-eq-div-mul n 18446744073709551616 256))
    (ap (λ x. x % 256) (nat.div-div-eq-div-mul n 18446744073709551616 65536))
    (ap (λ x. x % 256) (nat.div-div-eq-div-mul n 18446744073709551616 16777216))
    (ap (λ x. x % 256) (nat.div-div-eq-div-mul n 18446744073709551616 4294967296))
    (ap (λ x. x % 256) (nat.div-div-eq-div-mul n 18446744073709551616 1099511627776))
    (ap (λ x. x % 256) (nat.div-div-eq-div-mul n 18446744073709551616 281474976710656))
    (ap (λ x. x % 256) (nat.div-div-eq-div-mul n 18446744073709551616 72057594037927936))

high_same : (n m : ℕ) → to_le_bytes w128 n ≡ to_le_bytes w128 m → to_le_bytes w64 (n / 18446744073709551616) ≡ to_le_bytes w64 (m / 18446744073709551616)
high_same n m is = high_bytes n ∙ ap (drop 8) is ∙ sym (high_bytes m)

low_same : (n m : ℕ) → to_le_bytes w128 n ≡ to_le_bytes w128 m → to_le_bytes w64 (n % 18446744073709551616) ≡ to_le_bytes w64 (m % 18446744073709551616)
low_same n m is = low_bytes n ∙ ap (take 8) is ∙ sym (low_bytes m)

pub wide_same : (n m : ℕ) → n < 2 ^ 128 → m < 2 ^ 128 → to_le_bytes w128 n ≡ to_le_bytes w128 m → n ≡ m
wide_same n m fits fits' is =
    let high : n / 18446744073709551616 ≡ m / 18446744073709551616 = number_same _ _ (omega arith) (omega arith) (high_same n m is) in
    let low : n % 18446744073709551616 ≡ m % 18446744073709551616 = number_same _ _ (omega arith) (omega arith) (low_same n m is) in
    omega arith
