-- A character hangs on its own bytes alone.
use Rattle.std.proofs.Common.{◌≡◌, ℕ, ◌<◌, ◌≤◌, Bool, true, false, if◌then◌else◌, Option, Some, None, List, [], ◌∷◌, ◌++◌, length, take, get_or, refl, ap, sym, ◌∙◌, arith, length-append, length-take-le, get_or-take, ⊎_elim}
use Rattle.std.proofs.lemmas.List.{get_or_append_left}
use Rattle.bstr.specs.Utf8.{bad, good, decoded, decoded_by, continues, second, code_of_2, code_of_3, code_of_4}
use Rattle.bstr.proofs.lemmas.PieceLemmas.{decoded_by-shape, size-bounds, value-1, value-6, value-9, value-12}
use Rattle.go_ast.specs.Characters.{passes, passing}
use Rattle.go_scan.proofs.Parts.{IsLocal}

none_some : {A : Type 0} (char : Option ℕ) (c : ℕ) → char ≡ None → char ≡ Some c → A
none_some char c e f = cc

pub same_decoded : (n m b c d e b' c' d' e' ch : ℕ) → (decoded_by n b c d e).char ≡ Some ch → (decoded_by n b c d e).size ≤ m
    → (0 < (decoded_by n b c d e).size → b' ≡ b) → (1 < (decoded_by n b c d e).size → c' ≡ c)
    → (2 < (decoded_by n b c d e).size → d' ≡ d) → (3 < (decoded_by n b c d e).size → e' ≡ e)
    → decoded_by m b' c' d' e' ≡ decoded_by n b c d e
same_decoded n m b c d e b' c' d' e' ch is fits pb pc pd pe =
    let none : ((k : ℕ) → decoded_by n b c d e ≡ bad k → decoded_by m b' c' d' e' ≡ decoded_by n b c d e) = λ k r. none_some _ _ (ap (λ p. p.char) r) is in
    ⊎_elim (λ h. none 0 h.1) (λ s1.
    ⊎_elim (λ h.
    let size : (decoded_by n b c d e).size ≡ 1 = ap (λ p. p.size) h.2 in
    let eb : b' ≡ b = pb (omega arith) in
    value-1 m b' c' d' e' (omega arith, omega arith) ∙ ap (λ x. good x 1) eb ∙ sym h.2) (λ s2.
    ⊎_elim (λ h. none 1 h.3) (λ s3.
    ⊎_elim (λ h. none 1 h.2) (λ s4.
    ⊎_elim (λ h. none 1 h.4) (λ s5.
    ⊎_elim (λ h. none 1 h.4) (λ s6.
    ⊎_elim (λ h.
    let size : (decoded_by n b c d e).size ≡ 2 = ap (λ p. p.size) h.4 in
    let eb : b' ≡ b = pb (omega arith) in
    let ec : c' ≡ c = pc (omega arith) in
    value-6 m b' c' d' e' (omega arith, omega arith, omega arith, ap (λ x. second x c') eb ∙ ap (λ x. second b x) ec ∙ h.3)
    ∙ ap (λ x. good (code_of_2 x c') 2) eb ∙ ap (λ x. good (code_of_2 b x) 2) ec ∙ sym h.4) (λ s7.
    ⊎_elim (λ h. none 2 h.5) (λ s8.
    ⊎_elim (λ h. none 2 h.5) (λ s9.
    ⊎_elim (λ h.
    let size : (decoded_by n b c d e).size ≡ 3 = ap (λ p. p.size) h.5 in
    let eb : b' ≡ b = pb (omega arith) in
    let ec : c' ≡ c = pc (omega arith) in
    let ed : d' ≡ d = pd (omega arith) in
    value-9 m b' c' d' e' (omega arith, omega arith, omega arith, ap (λ x. second x c') eb ∙ ap (λ x. second b x) ec ∙ h.3, ap continues ed ∙ h.4)
    ∙ ap (λ x. good (code_of_3 x c' d') 3) eb ∙ ap (λ x. good (code_of_3 b x d') 3) ec ∙ ap (λ x. good (code_of_3 b c x) 3) ed ∙ sym h.5) (λ s10.
    ⊎_elim (λ h. none 3 h.6) (λ s11.
    ⊎_elim (λ h. none 3 h.6) (λ h.
    let size : (decoded_by n b c d e).size ≡ 4 = ap (λ p. p.size) h.6 in
    let eb : b' ≡ b = pb (omega arith) in
    let ec : c' ≡ c = pc (omega arith) in
    let ed : d' ≡ d = pd (omega arith) in
    let ee : e' ≡ e = pe (omega arith) in
    value-12 m b' c' d' e' (omega arith, omega arith, omega arith, ap (λ x. second x c') eb ∙ ap (λ x. second b x) ec ∙ h.3, ap continues ed ∙ h.4, ap continues ee ∙ h.5)
    ∙ ap (λ x. good (code_of_4 x c' d' e') 4) eb ∙ ap (λ x. good (code_of_4 b x d' e') 4) ec ∙ ap (λ x. good (code_of_4 b c x e') 4) ed ∙ ap (λ x. good (code_of_4 b c d x) 4) ee ∙ sym h.6)
    s11) s10) s9) s8) s7) s6) s5) s4) s3) s2) s1) (decoded_by-shape n b c d e)

-- a character in a text that agrees on its bytes
pub decoded-same : (text other : List ℕ) (c : ℕ) → (decoded text).char ≡ Some c → (decoded text).size ≤ length other → ((k : ℕ) → k < (decoded text).size → get_or other k 0 ≡ get_or text k 0) → decoded other ≡ decoded text
decoded-same text other c is fits same =
    same_decoded (length text) (length other) (get_or text 0 0) (get_or text 1 0) (get_or text 2 0) (get_or text 3 0) (get_or other 0 0) (get_or other 1 0) (get_or other 2 0) (get_or other 3 0) c is fits (same 0) (same 1) (same 2) (same 3)

pub decoded-bounds : (text : List ℕ) (c : ℕ) → (decoded text).char ≡ Some c → (1 ≤ (decoded text).size) × ((decoded text).size ≤ length text)
decoded-bounds [] c is = absurd cc
decoded-bounds (byte ∷ text) c is =
    let h = size-bounds (length (byte ∷ text)) (get_or (byte ∷ text) 0 0) (get_or (byte ∷ text) 1 0) (get_or (byte ∷ text) 2 0) (get_or (byte ∷ text) 3 0) (omega arith) in
    (h.0, h.2)

pub decoded-grows : (text more : List ℕ) (c : ℕ) → (decoded text).char ≡ Some c → decoded (text ++ more) ≡ decoded text
decoded-grows text more c is =
    let bounds = decoded-bounds text c is in
    decoded-same text (text ++ more) c is (omega (arith, length-append text more, bounds.1)) (λ k h. get_or_append_left text more 0 k (omega (arith, bounds.1, h)))

pub decoded-shrinks : (text : List ℕ) (c : ℕ) → (decoded text).char ≡ Some c → decoded (take (decoded text).size text) ≡ decoded text
decoded-shrinks text c is =
    let bounds = decoded-bounds text c is in
    let size : length (take (decoded text).size text) ≡ (decoded text).size = length-take-le (decoded text).size text bounds.1 in
    decoded-same text (take (decoded text).size text) c is (omega arith) (λ k h. get_or-take (decoded text).size text k 0 h)

abbrev passing_of : (ℕ → Bool) → Option ℕ → ℕ → Option ℕ
passing_of test char size = if passes test char then Some size else None

pub passing-some : (test : ℕ → Bool) (char : Option ℕ) (size width : ℕ) → passing_of test char size ≡ Some width → ((c : ℕ) × (char ≡ Some c)) × (size ≡ width)
passing-some test None size width e = absurd cc
passing-some test (Some c) size width e = ((c, refl), sized (test c) e)
  where
    sized : (b : Bool) → (if b then Some size else None) ≡ Some width → size ≡ width
    sized true e = cc
    sized false e = absurd cc

pub passing-local : (test : ℕ → Bool) → IsLocal (passing test)
passing-local test = record {
  least = λ text width e. let h = passing-some test (decoded text).char (decoded text).size width e in omega (arith, h.1, (decoded-bounds text h.0.0 h.0.1).0);
  within = λ text width e. let h = passing-some test (decoded text).char (decoded text).size width e in omega (arith, h.1, (decoded-bounds text h.0.0 h.0.1).1);
  grows = λ text more width e.
      let h = passing-some test (decoded text).char (decoded text).size width e in
      ap (λ d. passing_of test d.char d.size) (decoded-grows text more h.0.0 h.0.1) ∙ e;
  shrinks = λ text width e.
      let h = passing-some test (decoded text).char (decoded text).size width e in
      ap (λ n. passing_of test (decoded (take n text)).char (decoded (take n text)).size) (sym h.1)
      ∙ ap (λ d. passing_of test d.char d.size) (decoded-shrinks text h.0.0 h.0.1) ∙ e;
}
