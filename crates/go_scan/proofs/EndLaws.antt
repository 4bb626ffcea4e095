-- Where lines, comments and literals end: what is found is a piece, and none that begins the same text is longer.
use Rattle.std.proofs.Common.{◌≡◌, ℕ, suc, ◌+◌, ◌≤◌, Bool, true, false, ◌&&◌, ◌==◌, not, if◌then◌else◌, List, [], ◌∷◌, ◌++◌, length, take, refl, ap, sym, ◌∙◌, arith}
use Rattle.std.specs.List.{list_all}
use Rattle.std.proofs.lemmas.Bool.{false≢true}
use Rattle.go_ast.specs.Pieces.{Extent, Open, Closed, TooLong, closed_before, comment_extent, quoted_extent, raw_extent, is_within}
use Rattle.go_scan.specs.Reach.{line_length, comment_ending, quoted_ending, raw_ending, ending, one_more}
use Rattle.go_scan.proofs.PartLaws.{and-both}

abbrev pub shut : Bool → Extent
shut closed = if closed then Closed else Open

take-more : (m byte : ℕ) (text : List ℕ) → take (1 + m) (byte ∷ text) ≡ byte ∷ take m text
take-more m byte text = let e : 1 + m ≡ suc m = omega arith in ap (λ k. take k (byte ∷ text)) e

-- ---- lines

abbrev pub no_newline : ℕ → Bool
no_newline byte = not (byte == 10)

not-false : (b : Bool) → not b ≡ true → b ≡ false
not-false true e = absurd cc
not-false false e = refl

pub line-within : (text : List ℕ) → line_length text ≤ length text
line-within [] = omega arith
line-within (byte ∷ text) = go (byte == 10) (line-within text)
  where
    go : (v : Bool) → line_length text ≤ length text → (if v then 0 else 1 + line_length text) ≤ length (byte ∷ text)
    go true h = omega arith
    go false h = omega arith

pub line-front : (text : List ℕ) → list_all no_newline (take (line_length text) text) ≡ true
line-front [] = refl
line-front (byte ∷ text) = go (byte == 10) refl (line-front text)
  where
    go : (v : Bool) → byte == 10 ≡ v → list_all no_newline (take (line_length text) text) ≡ true → list_all no_newline (take (if v then 0 else 1 + line_length text) (byte ∷ text)) ≡ true
    go true e h = refl
    go false e h = ap (list_all no_newline) (take-more (line_length text) byte text) ∙ ap (λ v. not v && list_all no_newline (take (line_length text) text)) e ∙ h

pub line-longest : (text more : List ℕ) → list_all no_newline text ≡ true → length text ≤ line_length (text ++ more)
line-longest [] more e = omega arith
line-longest (byte ∷ text) more e =
    let both = and-both (no_newline byte) (list_all no_newline text) e in
    let here : byte == 10 ≡ false = not-false (byte == 10) both.0 in
    let turn : line_length (byte ∷ text ++ more) ≡ 1 + line_length (text ++ more) = ap (λ v. if v then 0 else 1 + line_length (text ++ more)) here in
    omega (arith, turn, line-longest text more both.1)

-- ---- general comments

pub comment-within : (star : Bool) (text : List ℕ) → (comment_ending star text).length ≤ length text
comment-within star [] = omega arith
comment-within star (byte ∷ text) = go (star && byte == 47) (comment-within (byte == 42) text)
  where
    go : (v : Bool) → (comment_ending (byte == 42) text).length ≤ length text → (if v then ending 1 true else one_more (comment_ending (byte == 42) text)).length ≤ length (byte ∷ text)
    go true h = omega arith
    go false h = omega arith

pub comment-front : (star : Bool) (text : List ℕ) → comment_extent star (take (comment_ending star text).length text) ≡ shut (comment_ending star text).closed
comment-front star [] = refl
comment-front star (byte ∷ text) = go (star && byte == 47) refl (comment-front (byte == 42) text)
  where
    go : (v : Bool) → (star && byte == 47) ≡ v → comment_extent (byte == 42) (take (comment_ending (byte == 42) text).length text) ≡ shut (comment_ending (byte == 42) text).closed
        → comment_extent star (take (if v then ending 1 true else one_more (comment_ending (byte == 42) text)).length (byte ∷ text)) ≡ shut (if v then ending 1 true else one_more (comment_ending (byte == 42) text)).closed
    go true e h = ap (λ v. if v then Closed else comment_extent (byte == 42) []) e
    go false e h =
        let front = take (comment_ending (byte == 42) text).length text in
        ap (comment_extent star) (take-more (comment_ending (byte == 42) text).length byte text)
        ∙ ap (λ v. if v then closed_before front else comment_extent (byte == 42) front) e ∙ h

closed-empty : (text : List ℕ) → is_within (closed_before text) ≡ true → length text ≡ 0
closed-empty [] e = refl
closed-empty (byte ∷ text) e = absurd cc

pub comment-longest : (star : Bool) (text more : List ℕ) → is_within (comment_extent star text) ≡ true → length text ≤ (comment_ending star (text ++ more)).length
comment-longest star [] more e = omega arith
comment-longest star (byte ∷ text) more e = go (star && byte == 47) e (comment-longest (byte == 42) text more)
  where
    go : (v : Bool) → is_within (if v then closed_before text else comment_extent (byte == 42) text) ≡ true
        → (is_within (comment_extent (byte == 42) text) ≡ true → length text ≤ (comment_ending (byte == 42) (text ++ more)).length)
        → length (byte ∷ text) ≤ (if v then ending 1 true else one_more (comment_ending (byte == 42) (text ++ more))).length
    go true e h = omega (arith, closed-empty text e)
    go false e h = omega (arith, h e)

-- ---- raw strings

pub raw-within : (text : List ℕ) → (raw_ending text).length ≤ length text
raw-within [] = omega arith
raw-within (byte ∷ text) = go (byte == 96) (raw-within text)
  where
    go : (v : Bool) → (raw_ending text).length ≤ length text → (if v then ending 1 true else one_more (raw_ending text)).length ≤ length (byte ∷ text)
    go true h = omega arith
    go false h = omega arith

pub raw-front : (text : List ℕ) → raw_extent (take (raw_ending text).length text) ≡ shut (raw_ending text).closed
raw-front [] = refl
raw-front (byte ∷ text) = go (byte == 96) refl (raw-front text)
  where
    go : (v : Bool) → byte == 96 ≡ v → raw_extent (take (raw_ending text).length text) ≡ shut (raw_ending text).closed
        → raw_extent (take (if v then ending 1 true else one_more (raw_ending text)).length (byte ∷ text)) ≡ shut (if v then ending 1 true else one_more (raw_ending text)).closed
    go true e h = ap (λ v. if v then Closed else raw_extent []) e
    go false e h =
        let front = take (raw_ending text).length text in
        ap raw_extent (take-more (raw_ending text).length byte text) ∙ ap (λ v. if v then closed_before front else raw_extent front) e ∙ h

pub raw-longest : (text more : List ℕ) → is_within (raw_extent text) ≡ true → length text ≤ (raw_ending (text ++ more)).length
raw-longest [] more e = omega arith
raw-longest (byte ∷ text) more e = go (byte == 96) e (raw-longest text more)
  where
    go : (v : Bool) → is_within (if v then closed_before text else raw_extent text) ≡ true
        → (is_within (raw_extent text) ≡ true → length text ≤ (raw_ending (text ++ more)).length)
        → length (byte ∷ text) ≤ (if v then ending 1 true else one_more (raw_ending (text ++ more))).length
    go true e h = omega (arith, closed-empty text e)
    go false e h = omega (arith, h e)

-- ---- runes and strings

pub quoted-within : (quote : ℕ) (escaped : Bool) (text : List ℕ) → (quoted_ending quote escaped text).length ≤ length text
quoted-within quote escaped [] = omega arith
quoted-within quote escaped (byte ∷ text) = go (byte == 10) (not escaped && byte == quote) (quoted-within quote (not escaped && byte == 92) text)
  where
    go : (line v : Bool) → (quoted_ending quote (not escaped && byte == 92) text).length ≤ length text
        → (if line then ending 0 false else if v then ending 1 true else one_more (quoted_ending quote (not escaped && byte == 92) text)).length ≤ length (byte ∷ text)
    go true v h = omega arith
    go false true h = omega arith
    go false false h = omega arith

-- the two ways to say what a quote means behind a backslash or not
same_extent : (quote : ℕ) (escaped : Bool) (byte : ℕ) (text : List ℕ) → byte == 10 ≡ false → (not escaped && byte == quote) ≡ false
    → quoted_extent quote escaped (byte ∷ text) ≡ quoted_extent quote (not escaped && byte == 92) text
same_extent quote true byte text e f = ap (λ v. if v then TooLong else quoted_extent quote false text) e
same_extent quote false byte text e f =
    ap (λ v. if v then TooLong else if byte == quote then closed_before text else quoted_extent quote (byte == 92) text) e
    ∙ ap (λ v. if v then closed_before text else quoted_extent quote (byte == 92) text) f

quote_extent : (quote : ℕ) (escaped : Bool) (byte : ℕ) (text : List ℕ) → byte == 10 ≡ false → (not escaped && byte == quote) ≡ true
    → quoted_extent quote escaped (byte ∷ text) ≡ closed_before text
quote_extent quote true byte text e f = absurd cc
quote_extent quote false byte text e f =
    ap (λ v. if v then TooLong else if byte == quote then closed_before text else quoted_extent quote (byte == 92) text) e
    ∙ ap (λ v. if v then closed_before text else quoted_extent quote (byte == 92) text) f

pub quoted-front : (quote : ℕ) (escaped : Bool) (text : List ℕ) → quoted_extent quote escaped (take (quoted_ending quote escaped text).length text) ≡ shut (quoted_ending quote escaped text).closed
quoted-front quote escaped [] = refl
quoted-front quote escaped (byte ∷ text) = go (byte == 10) (not escaped && byte == quote) refl refl (quoted-front quote (not escaped && byte == 92) text)
  where
    go : (line v : Bool) → byte == 10 ≡ line → (not escaped && byte == quote) ≡ v
        → quoted_extent quote (not escaped && byte == 92) (take (quoted_ending quote (not escaped && byte == 92) text).length text) ≡ shut (quoted_ending quote (not escaped && byte == 92) text).closed
        → quoted_extent quote escaped (take (if line then ending 0 false else if v then ending 1 true else one_more (quoted_ending quote (not escaped && byte == 92) text)).length (byte ∷ text))
        ≡ shut (if line then ending 0 false else if v then ending 1 true else one_more (quoted_ending quote (not escaped && byte == 92) text)).closed
    go true v e f h = refl
    go false true e f h = quote_extent quote escaped byte [] e f
    go false false e f h =
        let m = (quoted_ending quote (not escaped && byte == 92) text).length in
        ap (quoted_extent quote escaped) (take-more m byte text) ∙ same_extent quote escaped byte (take m text) e f ∙ h

pub quoted-longest : (quote : ℕ) (escaped : Bool) (text more : List ℕ) → is_within (quoted_extent quote escaped text) ≡ true → length text ≤ (quoted_ending quote escaped (text ++ more)).length
quoted-longest quote escaped [] more e = omega arith
quoted-longest quote escaped (byte ∷ text) more e = go (byte == 10) (not escaped && byte == quote) refl refl (quoted-longest quote (not escaped && byte == 92) text more)
  where
    line_long : byte == 10 ≡ true → quoted_extent quote escaped (byte ∷ text) ≡ TooLong
    line_long f = ap (λ v. if v then TooLong else if escaped then quoted_extent quote false text else if byte == quote then closed_before text else quoted_extent quote (byte == 92) text) f

    go : (line v : Bool) → byte == 10 ≡ line → (not escaped && byte == quote) ≡ v
        → (is_within (quoted_extent quote (not escaped && byte == 92) text) ≡ true → length text ≤ (quoted_ending quote (not escaped && byte == 92) (text ++ more)).length)
        → length (byte ∷ text) ≤ (if line then ending 0 false else if v then ending 1 true else one_more (quoted_ending quote (not escaped && byte == 92) (text ++ more))).length
    go true v f g h = absurd (false≢true (ap is_within (sym (line_long f)) ∙ e))
    go false true f g h = omega (arith, closed-empty text (ap is_within (sym (quote_extent quote escaped byte text f g)) ∙ e))
    go false false f g h = omega (arith, h (ap is_within (sym (same_extent quote escaped byte text f g)) ∙ e))
