-- The longest piece at the head of a text: it is one, and none that begins the text is longer.
use Rattle.std.proofs.Common.{◌≡◌, ◌⊎◌, ℕ, suc, ◌+◌, ◌≤◌, Bool, true, false, ◌&&◌, ◌==◌, if◌then◌else◌, Option, Some, None, is_some, List, [], ◌∷◌, ◌++◌, length, take, drop, refl, ap, sym, ◌∙◌, subst, arith, inl, inr}
use Rattle.std.proofs.lemmas.Bool.{eqb-true}
use Rattle.bstr.specs.Utf8.{decoded}
use Rattle.go_ast.specs.Characters.{passing, is_letter, is_name_character, is_numeral_character, are_characters}
use Rattle.go_ast.specs.Pieces.{Class, Space, LineComment, GeneralComment, Mark, Word, Numeral, RuneLiteral, StringLiteral, RawLiteral, class_of, class_of_pair, extent, is_closed, is_within, is_of, is_piece, quoted_extent, comment_extent, raw_extent, is_space, is_decimal, begins_word}
use Rattle.go_scan.specs.Reach.{run_length, comment_ending, quoted_ending, raw_ending}
use Rattle.go_scan.specs.Reading.{ending_of}
use Rattle.go_scan.proofs.Parts.{run-step, run-stop}
use Rattle.go_scan.proofs.Decoding.{passing-local, passing-some}
use Rattle.go_scan.proofs.PartLaws.{is_some-is, and-both, parts-longest, parts-run, run-within, step-front}
use Rattle.go_scan.proofs.EndLaws.{shut, line-within, line-front, line-longest, comment-within, comment-front, comment-longest, quoted-within, quoted-front, quoted-longest, raw-within, raw-front, raw-longest}
use Rattle.go_scan.proofs.MarkLaws.{mark-found, mark-longest}
use Rattle.go_scan.proofs.ClassLaws.{pair-cases, plain_class, pair_zero}
use Rattle.go_scan.proofs.ItemLaws.{if_case}

shut-within : (closed : Bool) → is_within (shut closed) ≡ true
shut-within true = refl
shut-within false = refl

shut-closed : (closed : Bool) → is_closed (shut closed) ≡ closed
shut-closed true = refl
shut-closed false = refl

-- ---- none is longer

word-longest : (text rest : List ℕ) → (is_some (passing is_letter text) && are_characters is_name_character text) ≡ true
    → length text ≤ (if is_some (passing is_letter (text ++ rest)) then run_length (passing is_name_character) 0 (text ++ rest) else 0)
word-longest text rest e =
    let both = and-both (is_some (passing is_letter text)) (are_characters is_name_character text) e in
    let letter = is_some-is (passing is_letter text) both.0 in
    let grown : passing is_letter (text ++ rest) ≡ Some letter.0 = (passing-local is_letter).grows text rest letter.0 letter.1 in
    let long = parts-longest (passing is_name_character) 0 text rest (passing-local is_name_character) both.1 (omega arith) in
    subst (λ n. length text ≤ n) (sym (ap (λ o. if is_some o then run_length (passing is_name_character) 0 (text ++ rest) else 0) grown)) long

pub longest-of : (class : Class) (text rest : List ℕ) → is_of class text ≡ true → length text ≤ (ending_of class (text ++ rest)).length
longest-of Space text rest e = let one = eqb-true (length text) 1 e in omega arith
longest-of LineComment text rest e = line-longest text rest e
longest-of GeneralComment [] rest e = omega arith
longest-of GeneralComment (a ∷ []) rest e = omega arith
longest-of GeneralComment (a ∷ b ∷ text) rest e = let long = comment-longest false text rest e in omega (arith, long)
longest-of Mark text rest e = mark-longest text rest e
longest-of Word text rest e = word-longest text rest e
longest-of Numeral text rest e = parts-longest (passing is_numeral_character) 0 text rest (passing-local is_numeral_character) e (omega arith)
longest-of RuneLiteral [] rest e = omega arith
longest-of RuneLiteral (a ∷ text) rest e = let long = quoted-longest 39 false text rest e in omega (arith, long)
longest-of StringLiteral [] rest e = omega arith
longest-of StringLiteral (a ∷ text) rest e = let long = quoted-longest 34 false text rest e in omega (arith, long)
longest-of RawLiteral [] rest e = omega arith
longest-of RawLiteral (a ∷ text) rest e = let long = raw-longest text rest e in omega (arith, long)

pub piece-longest : (text rest : List ℕ) → is_piece text ≡ true → length text ≤ (ending_of (class_of (text ++ rest)) (text ++ rest)).length
piece-longest [] rest e = absurd cc
piece-longest (a ∷ []) [] e = longest-of (class_of_pair a 0) (a ∷ []) [] e
piece-longest (a ∷ []) (b ∷ rest) e = go (pair-cases a b rest)
  where
    go : (class_of_pair a b ≡ class_of_pair a 0) ⊎ (2 ≤ (ending_of (class_of_pair a b) (a ∷ b ∷ rest)).length) → 1 ≤ (ending_of (class_of_pair a b) (a ∷ b ∷ rest)).length
    go (inl same) = let long = longest-of (class_of_pair a 0) (a ∷ []) (b ∷ rest) e in subst (λ k. 1 ≤ (ending_of k (a ∷ b ∷ rest)).length) (sym same) long
    go (inr two) = omega arith
piece-longest (a ∷ b ∷ text) rest e = longest-of (class_of_pair a b) (a ∷ b ∷ text) rest e

-- ---- what is found is a piece

pub record IsReach (class : Class) (text : List ℕ) : Type 0 where
  pub within : (ending_of class text).length ≤ length text
  pub one : 1 ≤ (ending_of class text).length → is_of class (take (ending_of class text).length text) ≡ true
  pub closed : 1 ≤ (ending_of class text).length → is_closed (extent class (take (ending_of class text).length text)) ≡ (ending_of class text).closed

take_one : (m a : ℕ) (text : List ℕ) → drop 1 (take (1 + m) (a ∷ text)) ≡ take m text
take_one m a text = let e : 1 + m ≡ suc m = omega arith in ap (λ k. drop 1 (take k (a ∷ text))) e

take_two : (m a b : ℕ) (text : List ℕ) → drop 2 (take (2 + m) (a ∷ b ∷ text)) ≡ take m text
take_two m a b text = let e : 2 + m ≡ suc (suc m) = omega arith in ap (λ k. drop 2 (take k (a ∷ b ∷ text))) e

quoted_reach : (quote a : ℕ) (text : List ℕ) → quoted_extent quote false (drop 1 (take (1 + (quoted_ending quote false text).length) (a ∷ text))) ≡ shut (quoted_ending quote false text).closed
quoted_reach quote a text = ap (quoted_extent quote false) (take_one (quoted_ending quote false text).length a text) ∙ quoted-front quote false text

-- a word that is found begins with its letter
word_found : (text : List ℕ) → is_some (passing is_letter text) ≡ true → 1 ≤ run_length (passing is_name_character) 0 text
    → (is_some (passing is_letter (take (run_length (passing is_name_character) 0 text) text)) && are_characters is_name_character (take (run_length (passing is_name_character) 0 text) text)) ≡ true
word_found text e h = go (passing is_name_character text) refl
  where
    go : (o : Option ℕ) → passing is_name_character text ≡ o
        → (is_some (passing is_letter (take (run_length (passing is_name_character) 0 text) text)) && are_characters is_name_character (take (run_length (passing is_name_character) 0 text) text)) ≡ true
    go None none = absurd (omega (arith, run-stop (passing is_name_character) text none))
    go (Some width) some =
        let n = run_length (passing is_name_character) 0 text in
        let reach = run-step (passing is_name_character) text width (passing-local is_name_character) some in
        let letter = is_some-is (passing is_letter text) e in
        let size = (passing-some is_name_character (decoded text).char (decoded text).size width some).1 in
        let same = (passing-some is_letter (decoded text).char (decoded text).size letter.0 letter.1).1 in
        let front : passing is_letter (take n text) ≡ Some letter.0 = step-front (passing is_letter) text letter.0 n (passing-local is_letter) letter.1 (omega (arith, reach, size, same)) in
        ap (λ o. is_some o && are_characters is_name_character (take n text)) front
        ∙ parts-run (passing is_name_character) 0 text (passing-local is_name_character) (omega arith)

word_reached : (text : List ℕ) (v : Bool) → is_some (passing is_letter text) ≡ v → ((if v then run_length (passing is_name_character) 0 text else 0) ≤ length text)
    × (1 ≤ (if v then run_length (passing is_name_character) 0 text else 0) → (is_some (passing is_letter (take (if v then run_length (passing is_name_character) 0 text else 0) text))
    && are_characters is_name_character (take (if v then run_length (passing is_name_character) 0 text else 0) text)) ≡ true)
word_reached text true e = (run-within (passing is_name_character) 0 text, λ h. word_found text e h)
word_reached text false e = (omega arith, λ h. absurd (omega arith))

never_general : (a : ℕ) → plain_class a ≡ GeneralComment → ⊥
never_general a e =
    if_case (is_space a) _ _ _ e (λ e. absurd cc) (λ e.
    if_case (is_decimal a) _ _ _ e (λ e. absurd cc) (λ e.
    if_case (a == 39) _ _ _ e (λ e. absurd cc) (λ e.
    if_case (a == 34) _ _ _ e (λ e. absurd cc) (λ e.
    if_case (a == 96) _ _ _ e (λ e. absurd cc) (λ e.
    if_case (begins_word a) _ _ _ e (λ e. absurd cc) (λ e. absurd cc))))))

two_bytes : (text : List ℕ) → class_of text ≡ GeneralComment → 2 ≤ length text
two_bytes [] e = absurd cc
two_bytes (a ∷ []) e = absurd (never_general a (sym (pair_zero a) ∙ e))
two_bytes (a ∷ b ∷ text) e = omega arith

pub reach-of : (class : Class) (text : List ℕ) → class_of text ≡ class → 1 ≤ length text → IsReach class text
reach-of class [] e h = absurd (omega arith)
reach-of Space (a ∷ text) e h = record { within = omega arith; one = λ l. refl; closed = λ l. refl }
reach-of LineComment (a ∷ text) e h = record { within = line-within (a ∷ text); one = λ l. line-front (a ∷ text); closed = λ l. refl }
reach-of GeneralComment (a ∷ []) e h = absurd (omega (arith, two_bytes (a ∷ []) e))
reach-of GeneralComment (a ∷ b ∷ text) e h =
    let front : comment_extent false (drop 2 (take (2 + (comment_ending false text).length) (a ∷ b ∷ text))) ≡ shut (comment_ending false text).closed =
    ap (comment_extent false) (take_two (comment_ending false text).length a b text) ∙ comment-front false text in
    record {
      within = omega (arith, comment-within false text);
      one = λ l. ap is_within front ∙ shut-within (comment_ending false text).closed;
      closed = λ l. ap is_closed front ∙ shut-closed (comment_ending false text).closed;
    }
reach-of Mark (a ∷ text) e h = let found = mark-found (a ∷ text) in record { within = found.within; one = found.one; closed = λ l. refl }
reach-of Word (a ∷ text) e h =
    let found = word_reached (a ∷ text) (is_some (passing is_letter (a ∷ text))) refl in
    record { within = found.0; one = found.1; closed = λ l. refl }
reach-of Numeral (a ∷ text) e h = record {
  within = run-within (passing is_numeral_character) 0 (a ∷ text);
  one = λ l. parts-run (passing is_numeral_character) 0 (a ∷ text) (passing-local is_numeral_character) (omega arith);
  closed = λ l. refl;
}
reach-of RuneLiteral (a ∷ text) e h = record {
  within = omega (arith, quoted-within 39 false text);
  one = λ l. ap is_within (quoted_reach 39 a text) ∙ shut-within (quoted_ending 39 false text).closed;
  closed = λ l. ap is_closed (quoted_reach 39 a text) ∙ shut-closed (quoted_ending 39 false text).closed;
}
reach-of StringLiteral (a ∷ text) e h = record {
  within = omega (arith, quoted-within 34 false text);
  one = λ l. ap is_within (quoted_reach 34 a text) ∙ shut-within (quoted_ending 34 false text).closed;
  closed = λ l. ap is_closed (quoted_reach 34 a text) ∙ shut-closed (quoted_ending 34 false text).closed;
}
reach-of RawLiteral (a ∷ text) e h =
    let front : raw_extent (drop 1 (take (1 + (raw_ending text).length) (a ∷ text))) ≡ shut (raw_ending text).closed =
    ap raw_extent (take_one (raw_ending text).length a text) ∙ raw-front text in
    record {
      within = omega (arith, raw-within text);
      one = λ l. ap is_within front ∙ shut-within (raw_ending text).closed;
      closed = λ l. ap is_closed front ∙ shut-closed (raw_ending text).closed;
    }
