-- The lines of a text, one after another.
use Rattle.std.proofs.Common.{◌≡◌, ℕ, suc, ◌+◌, ◌<◌, true, false, not, cond, List, [], ◌∷◌, length, take, drop, refl, ap, ◌∙◌, sym, arith, length-take}
use Rattle.std.specs.List.{slice_split, onto_first, position_or_len}
use Rattle.std.proofs.lemmas.List.{drop-drop}
use Rattle.std.proofs.lemmas.List.Splits.{slice_split_first}
use Rattle.go_finding.specs.Words.{is_newline, without_comment}
use Rattle.go_finding.specs.GoMod.{Said, take_lines, take_text}

-- a text without a newline is one line
pub lone_line : (rest : List ℕ) → position_or_len is_newline rest ≡ length rest → slice_split is_newline rest ≡ rest ∷ []
lone_line [] e = refl
lone_line (byte ∷ rest) e =
    elim (is_newline byte) as (λ b. cond (not b) (1 + position_or_len is_newline rest) 0 ≡ suc (length rest) → cond b ([] ∷ slice_split is_newline rest) (onto_first byte (slice_split is_newline rest)) ≡ (byte ∷ rest) ∷ []) [
      | true ↦ λ f. absurd (omega (arith, f))
      | false ↦ λ f. ap (onto_first byte) (lone_line rest (omega (arith, f)))
    ] e

pub take_length : (rest : List ℕ) → take (length rest) rest ≡ rest
take_length [] = refl
take_length (byte ∷ rest) = ap (λ bytes. byte ∷ bytes) (take_length rest)

pub last_line : (rest : List ℕ) (n at : ℕ) (said : Said) → n ≡ position_or_len is_newline rest → n ≡ length rest → take_lines at (slice_split is_newline rest) said ≡ take_text at (without_comment (take n rest)) said
last_line rest n at said p e =
    let one : slice_split is_newline rest ≡ rest ∷ [] = lone_line rest (sym p ∙ e) in
    let whole : take n rest ≡ rest = ap (λ k. take k rest) e ∙ take_length rest in
    ap (λ lines. take_lines at lines said) one ∙ ap (λ line. take_text at (without_comment line) said) (sym whole)

same_lines : (a b : ℕ) (xs ys : List (List ℕ)) (said more : Said) → a ≡ b → xs ≡ ys → said ≡ more → take_lines a xs said ≡ take_lines b ys more
same_lines a b xs ys said more p q r =
    ap (λ (n : ℕ). take_lines n xs said) p ∙ ap (λ (lines : List (List ℕ)). take_lines b lines said) q ∙ ap (λ (s : Said). take_lines b ys s) r

pub next_line : (text : List ℕ) (n at : ℕ) (said more : Said) → n ≡ position_or_len is_newline (drop at text) → n < length (drop at text) → more ≡ take_text at (without_comment (take n (drop at text))) said → take_lines at (slice_split is_newline (drop at text)) said ≡ take_lines (at + (n + 1)) (slice_split is_newline (drop (at + (n + 1)) text)) more
next_line text n at said more p h m =
    let rest : List ℕ = drop at text in
    let k : ℕ = position_or_len is_newline rest in
    let below : k < length rest = omega (arith, p, h) in
    let first : slice_split is_newline rest ≡ take k rest ∷ slice_split is_newline (drop (k + 1) rest) = slice_split_first is_newline rest 0 below in
    let size : length (take k rest) ≡ k = omega (arith, length-take k rest, below) in
    let place : at + length (take k rest) + 1 ≡ at + (n + 1) = omega (arith, size, p) in
    let left : drop (k + 1) rest ≡ drop (at + (n + 1)) text = drop-drop (k + 1) at text ∙ ap (λ (j : ℕ). drop (at + (j + 1)) text) (sym p) in
    let same : take_text at (without_comment (take k rest)) said ≡ more = ap (λ (j : ℕ). take_text at (without_comment (take j rest)) said) (sym p) ∙ sym m in
    ap (λ (lines : List (List ℕ)). take_lines at lines said) first
    ∙ same_lines (at + length (take k rest) + 1) (at + (n + 1)) (slice_split is_newline (drop (k + 1) rest)) (slice_split is_newline (drop (at + (n + 1)) text)) (take_text at (without_comment (take k rest)) said) more place (ap (slice_split is_newline) left) same

-- the same, where the line and what is left were cut off
pub last_cut : (text rest line : List ℕ) (n at : ℕ) (said more : Said) → rest ≡ drop at text → n ≡ position_or_len is_newline rest → line ≡ take n rest → length line ≡ n → length line ≡ length rest → more ≡ take_text at (without_comment line) said → take_lines at (slice_split is_newline (drop at text)) said ≡ more
last_cut text rest line n at said more b p f size whole m =
    let place : n ≡ position_or_len is_newline (drop at text) = p ∙ ap (position_or_len is_newline) b in
    let all : n ≡ length (drop at text) = sym size ∙ whole ∙ ap length b in
    let cut : line ≡ take n (drop at text) = f ∙ ap (take n) b in
    last_line (drop at text) n at said place all ∙ ap (λ (x : List ℕ). take_text at (without_comment x) said) (sym cut) ∙ sym m

pub next_cut : (text rest line : List ℕ) (n at : ℕ) (said more : Said) → rest ≡ drop at text → n ≡ position_or_len is_newline rest → line ≡ take n rest → length line ≡ n → length line < length rest → more ≡ take_text at (without_comment line) said → take_lines at (slice_split is_newline (drop at text)) said ≡ take_lines (at + (length line + 1)) (slice_split is_newline (drop (at + (length line + 1)) text)) more
next_cut text rest line n at said more b p f size below m =
    let place : n ≡ position_or_len is_newline (drop at text) = p ∙ ap (position_or_len is_newline) b in
    let left : length rest ≡ length (drop at text) = ap length b in
    let cut : line ≡ take n (drop at text) = f ∙ ap (take n) b in
    next_line text n at said more place (omega (arith, size, below, left)) (m ∙ ap (λ (x : List ℕ). take_text at (without_comment x) said) cut)
    ∙ ap (λ (k : ℕ). take_lines (at + (k + 1)) (slice_split is_newline (drop (at + (k + 1)) text)) more) (sym size)
