-- Numbers that are read digit by digit.
use Rattle.std.proofs.Common.{◌≡◌, ℕ, ◌+◌, ◌-◌, ◌*◌, ◌<◌, true, false, if◌then◌else◌, List, [], ◌∷◌, length, get_or, drop, None, refl, ap, ◌∙◌, arith}
use Rattle.std.specs.Char.{is_ascii_digit}
use Rattle.std.proofs.lemmas.Bool.Decides.{nat_tests}
use Rattle.std.proofs.lemmas.List.{at_drop_more}
use Rattle.command_line.specs.Values.{number, number_behind, up_to}

pub number-behind : (text : List ℕ) → 0 < length text → number text ≡ number_behind 0 text
number-behind [] h = absurd (omega arith)
number-behind (digit ∷ digits) h = refl

-- one more digit
pub number_behind-digit : (n : ℕ) (text : List ℕ) (i : ℕ) → i < length text → is_ascii_digit (get_or text i 0) ≡ true
    → number_behind n (drop i text) ≡ number_behind (n * 10 + (get_or text i 0 - 48)) (drop (i + 1) text)
number_behind-digit n text i inside digit =
    at_drop_more (number_behind n) text i 0 inside
    ∙ ap (λ b. if b then number_behind (n * 10 + (get_or text i 0 - 48)) (drop (i + 1) text) else None) digit

-- more digits make no number smaller
pub up_to-over : (most n : ℕ) (text : List ℕ) → most < n → up_to most (number_behind n text) ≡ None
up_to-over most n [] over = grind (arith, nat_tests)
up_to-over most n (digit ∷ digits) over =
    elim (is_ascii_digit digit) as (λ b. up_to most (if b then number_behind (n * 10 + (digit - 48)) digits else None) ≡ None) [
      | true ↦ up_to-over most (n * 10 + (digit - 48)) digits (omega arith)
      | false ↦ refl
    ]
