-- What the readings of a text are worth one byte further.
use Rattle.std.proofs.Common.{◌≡◌, ℕ, zero, suc, ◌+◌, ◌*◌, ◌<◌, ◌≤◌, Bool, true, false, not, ◌&&◌, ◌==◌, if◌then◌else◌, List, [], ◌∷◌, length, get_or, drop, refl, ap, arith, add-one, drop-cons, nat_lt}
use Rattle.std.specs.Char.{digit_value}
use Rattle.go_ast.specs.Literals.{digits_after, digits_value}
use Rattle.go_scan.specs.Reach.{line_length, comment_ending, quoted_ending, raw_ending, ending, one_more}

pub drop-step : (text : List ℕ) (i : ℕ) → i < length text → drop i text ≡ get_or text i 0 ∷ drop (i + 1) text
drop-step text i h = rw add-one (drop-cons text i 0 h)

pub drop-end : (text : List ℕ) (i : ℕ) → length text ≤ i → drop i text ≡ []
drop-end [] zero h = refl
drop-end [] (suc i) h = refl
drop-end (byte ∷ text) zero h = absurd (omega arith)
drop-end (byte ∷ text) (suc i) h = drop-end text i (omega arith)

pub line_length-step : (text : List ℕ) (i : ℕ) → i < length text → line_length (drop i text) ≡ (if get_or text i 0 == 10 then 0 else 1 + line_length (drop (i + 1) text))
line_length-step text i h = ap line_length (drop-step text i h)

pub line_length-end : (text : List ℕ) (i : ℕ) → length text ≤ i → line_length (drop i text) ≡ 0
line_length-end text i h = ap line_length (drop-end text i h)

pub comment_ending-step : (text : List ℕ) (star : Bool) (i : ℕ) → i < length text → comment_ending star (drop i text) ≡ (if star && get_or text i 0 == 47 then ending 1 true else one_more (comment_ending (get_or text i 0 == 42) (drop (i + 1) text)))
comment_ending-step text star i h = ap (comment_ending star) (drop-step text i h)

pub comment_ending-end : (text : List ℕ) (star : Bool) (i : ℕ) → length text ≤ i → comment_ending star (drop i text) ≡ ending 0 false
comment_ending-end text star i h = ap (comment_ending star) (drop-end text i h)

pub quoted_ending-step : (text : List ℕ) (quote : ℕ) (escaped : Bool) (i : ℕ) → i < length text → quoted_ending quote escaped (drop i text) ≡ (if get_or text i 0 == 10 then ending 0 false else if not escaped && get_or text i 0 == quote then ending 1 true else one_more (quoted_ending quote (not escaped && get_or text i 0 == 92) (drop (i + 1) text)))
quoted_ending-step text quote escaped i h = ap (quoted_ending quote escaped) (drop-step text i h)

pub quoted_ending-end : (text : List ℕ) (quote : ℕ) (escaped : Bool) (i : ℕ) → length text ≤ i → quoted_ending quote escaped (drop i text) ≡ ending 0 false
quoted_ending-end text quote escaped i h = ap (quoted_ending quote escaped) (drop-end text i h)

pub raw_ending-step : (text : List ℕ) (i : ℕ) → i < length text → raw_ending (drop i text) ≡ (if get_or text i 0 == 96 then ending 1 true else one_more (raw_ending (drop (i + 1) text)))
raw_ending-step text i h = ap raw_ending (drop-step text i h)

pub raw_ending-end : (text : List ℕ) (i : ℕ) → length text ≤ i → raw_ending (drop i text) ≡ ending 0 false
raw_ending-end text i h = ap raw_ending (drop-end text i h)

pub digits_after-step : (base : ℕ) (after : Bool) (text : List ℕ) (i : ℕ) → i < length text → digits_after base after (drop i text) ≡ (if get_or text i 0 == 95 then after && digits_after base false (drop (i + 1) text) else nat_lt (digit_value (get_or text i 0)) base && digits_after base true (drop (i + 1) text))
digits_after-step base after text i h = ap (digits_after base after) (drop-step text i h)

pub digits_after-end : (base : ℕ) (after : Bool) (text : List ℕ) (i : ℕ) → length text ≤ i → digits_after base after (drop i text) ≡ after
digits_after-end base after text i h = ap (digits_after base after) (drop-end text i h)

pub digits_value-step : (base high : ℕ) (text : List ℕ) (i : ℕ) → i < length text → digits_value base high (drop i text) ≡ (if get_or text i 0 == 95 then digits_value base high (drop (i + 1) text) else digits_value base (high * base + digit_value (get_or text i 0)) (drop (i + 1) text))
digits_value-step base high text i h = ap (digits_value base high) (drop-step text i h)

pub digits_value-end : (base high : ℕ) (text : List ℕ) (i : ℕ) → length text ≤ i → digits_value base high (drop i text) ≡ high
digits_value-end base high text i h = ap (digits_value base high) (drop-end text i h)

pub ruleset line_length_steps = (line_length-step, line_length-end)

pub ruleset comment_ending_steps = (comment_ending-step, comment_ending-end)

pub ruleset quoted_ending_steps = (quoted_ending-step, quoted_ending-end)

pub ruleset raw_ending_steps = (raw_ending-step, raw_ending-end)

pub ruleset digits_after_steps = (digits_after-step, digits_after-end)

pub ruleset digits_value_steps = (digits_value-step, digits_value-end)
