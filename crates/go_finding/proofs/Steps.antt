-- What the readings of a text are worth one byte further.
use Rattle.std.proofs.Common.{◌≡◌, ℕ, zero, suc, ◌+◌, ◌-◌, ◌<◌, ◌≤◌, Bool, true, false, ◌&&◌, ◌==◌, if◌then◌else◌, List, [], ◌∷◌, length, get_or, take, drop, refl, sym, ap, ◌∙◌, arith, add-one, drop-cons, length-drop}
use Rattle.std.specs.List.{prefix_len}
use Rattle.go_finding.specs.Words.{is_space, is_blank, begins_comment, ends_in_opening, comment_start}

pub drop-step : (text : List ℕ) (i : ℕ) → i < length text → drop i text ≡ get_or text i 0 ∷ drop (i + 1) text
drop-step text i h = rw add-one (drop-cons text i 0 h)

pub drop-end : (text : List ℕ) (i : ℕ) → length text ≤ i → drop i text ≡ []
drop-end [] zero h = refl
drop-end [] (suc i) h = refl
drop-end (byte ∷ text) zero h = absurd (omega arith)
drop-end (byte ∷ text) (suc i) h = drop-end text i (omega arith)

pub prefix_len-step : (p : ℕ → Bool) (text : List ℕ) (i : ℕ) → i < length text → prefix_len p (drop i text) ≡ (if p (get_or text i 0) then 1 + prefix_len p (drop (i + 1) text) else 0)
prefix_len-step p text i h = ap (prefix_len p) (drop-step text i h)

pub prefix_len-end : (p : ℕ → Bool) (text : List ℕ) (i : ℕ) → length text ≤ i → prefix_len p (drop i text) ≡ 0
prefix_len-end p text i h = ap (prefix_len p) (drop-end text i h)

pub ends_in_opening-step : (start : Bool) (text : List ℕ) (i : ℕ) → i < length text → ends_in_opening start (drop i text) ≡ (if start && (get_or text i 0 == 40 && is_blank (drop (i + 1) text)) then true else ends_in_opening (is_space (get_or text i 0)) (drop (i + 1) text))
ends_in_opening-step start text i h = ap (ends_in_opening start) (drop-step text i h)

pub ends_in_opening-end : (start : Bool) (text : List ℕ) (i : ℕ) → length text ≤ i → ends_in_opening start (drop i text) ≡ false
ends_in_opening-end start text i h = ap (ends_in_opening start) (drop-end text i h)

pub comment_start-step : (line : List ℕ) (i : ℕ) → i < length line → comment_start (drop i line) ≡ (if begins_comment (drop i line) then 0 else 1 + comment_start (drop (i + 1) line))
comment_start-step line i h = rw (drop-step line i h) refl

pub comment_start-end : (line : List ℕ) (i : ℕ) → length line ≤ i → comment_start (drop i line) ≡ 0
comment_start-end line i h = ap comment_start (drop-end line i h)

take-all : (text : List ℕ) (n : ℕ) → length text ≤ n → take n text ≡ text
take-all [] zero h = refl
take-all [] (suc n) h = refl
take-all (byte ∷ text) zero h = absurd (omega arith)
take-all (byte ∷ text) (suc n) h = ap (λ (bytes : List ℕ). byte ∷ bytes) (take-all text n (omega arith))

-- a line whose next byte begins no comment
pub comment_kept : (line : List ℕ) (i : ℕ) → i < length line → begins_comment (take (length line - i) (drop i line)) ≡ false → comment_start line ≡ i + comment_start (drop i line) → comment_start line ≡ i + 1 + comment_start (drop (i + 1) line)
comment_kept line i h part kept =
    let none : begins_comment (drop i line) ≡ false = ap begins_comment (sym (take-all (drop i line) (length line - i) (omega (arith, length-drop i line)))) ∙ part in
    let more : comment_start (drop i line) ≡ 1 + comment_start (drop (i + 1) line) = comment_start-step line i h ∙ ap (λ (b : Bool). if b then 0 else 1 + comment_start (drop (i + 1) line)) none in
    omega (arith, more, kept)

pub ruleset comment_steps = (comment_start-step, comment_start-end)

pub ruleset prefix_steps = (prefix_len-step, prefix_len-end)

pub ruleset opening_steps = (ends_in_opening-step, ends_in_opening-end)
