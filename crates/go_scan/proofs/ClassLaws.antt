-- Which class of pieces a text may begin with, by its first two bytes.
use Rattle.std.proofs.Common.{◌≡◌, ◌⊎◌, ℕ, zero, suc, ◌+◌, ◌-◌, ◌<◌, ◌≤◌, Bool, true, false, ◌&&◌, ◌||◌, ◌==◌, not, if◌then◌else◌, Some, None, List, [], ◌∷◌, length, take, get_or, refl, ap, sym, ◌∙◌, subst, arith, inl, inr, nat_le}
use Rattle.std.proofs.Math.Bool.{and-false, or-false, or-true}
use Rattle.std.proofs.lemmas.Bool.{eqb-true}
use Rattle.std.proofs.lemmas.Bool.Decides.{nat_tests}
use Rattle.std.specs.Option.{option_map_or}
use Rattle.ucd_category.specs.GeneralCategory.{general_category, general_category_eq}
use Rattle.ucd_category.specs.declared.GeneralCategory.TheVariants.{DecimalNumber}
use Rattle.ucd_table.proofs.Computing.{tables}
use Rattle.ucd_table.proofs.Facts.{Stepped-below}
use Rattle.ucd_category.proofs.GeneralCategoryLemmas.{general_category_stepped}
use Rattle.bstr.specs.Utf8.{decoded, good}
use Rattle.bstr.proofs.lemmas.PieceLemmas.{value-1}
use Rattle.go_ast.specs.Characters.{passes, passing, is_digit, is_letter, is_numeral_character}
use Rattle.go_ast.specs.Pieces as pieces
use Rattle.go_ast.specs.Pieces.{Class, class_of_pair, class_of, is_space, is_decimal, begins_word}
use Rattle.go_scan.specs.Reach.{run_length}
use Rattle.go_scan.specs.Reading.{ending_of}
use Rattle.go_scan.proofs.PartLaws.{and-both}

-- the class where the second byte does not matter
abbrev pub plain_class : ℕ → Class
plain_class a =
    if is_space a then pieces.Space
    else if is_decimal a then pieces.Numeral
    else if a == 39 then pieces.RuneLiteral
    else if a == 34 then pieces.StringLiteral
    else if a == 96 then pieces.RawLiteral
    else if begins_word a then pieces.Word
    else pieces.Mark

abbrev class_by : ℕ → Bool → Bool → Bool → Class
class_by a line general dot =
    if is_space a then pieces.Space
    else if line then pieces.LineComment
    else if general then pieces.GeneralComment
    else if is_decimal a || dot then pieces.Numeral
    else if a == 39 then pieces.RuneLiteral
    else if a == 34 then pieces.StringLiteral
    else if a == 96 then pieces.RawLiteral
    else if begins_word a then pieces.Word
    else pieces.Mark

class_plain : (a : ℕ) → class_by a false false false ≡ plain_class a
class_plain a = ap (λ v. if is_space a then pieces.Space else if v then pieces.Numeral else if a == 39 then pieces.RuneLiteral else if a == 34 then pieces.StringLiteral else if a == 96 then pieces.RawLiteral else if begins_word a then pieces.Word else pieces.Mark) (or-false (is_decimal a))

pair_plain : (a b : ℕ) → (a == 47 && b == 47) ≡ false → (a == 47 && b == 42) ≡ false → (a == 46 && is_decimal b) ≡ false → class_of_pair a b ≡ plain_class a
pair_plain a b l g d =
    ap (λ v. class_by a v (a == 47 && b == 42) (a == 46 && is_decimal b)) l
    ∙ ap (λ v. class_by a false v (a == 46 && is_decimal b)) g
    ∙ ap (λ v. class_by a false false v) d
    ∙ class_plain a

pub pair_zero : (a : ℕ) → class_of_pair a 0 ≡ plain_class a
pair_zero a = pair_plain a 0 (and-false (a == 47)) (and-false (a == 47)) (and-false (a == 46))

-- a character of one byte
pub passing-ascii : (test : ℕ → Bool) (byte : ℕ) (text : List ℕ) → byte < 128 → passing test (byte ∷ text) ≡ (if test byte then Some 1 else None)
passing-ascii test byte text h =
    let e : decoded (byte ∷ text) ≡ good byte 1 = value-1 (length (byte ∷ text)) (get_or (byte ∷ text) 0 0) (get_or (byte ∷ text) 1 0) (get_or (byte ∷ text) 2 0) (get_or (byte ∷ text) 3 0) (omega arith, h) in
    ap (λ d. if passes test d.char then Some d.size else None) e

decimal-small : (byte : ℕ) → is_decimal byte ≡ true → byte < 128
decimal-small byte e = let both = and-both (nat_le 48 byte) (nat_le byte 57) e in grind (arith, nat_tests)

decimal-digit : (byte : ℕ) → is_decimal byte ≡ true → is_digit byte ≡ true
unfolding tables general_category_stepped
decimal-digit byte e =
    let h : byte < 128 = decimal-small byte e in
    let fact : (not (is_decimal byte) || is_digit byte) ≡ true = Stepped-below general_category general_category_stepped (λ x v. not (is_decimal x) || general_category_eq v DecimalNumber) 128 refl byte h in
    sym (ap (λ v. not v || is_digit byte) e) ∙ fact

dot_reach : (b : ℕ) (text : List ℕ) → is_decimal b ≡ true → 2 ≤ run_length (passing is_numeral_character) 0 (46 ∷ b ∷ text)
dot_reach b text e =
    let step = passing is_numeral_character in
    let dot : step (46 ∷ b ∷ text) ≡ Some 1 = passing-ascii is_numeral_character 46 (b ∷ text) (omega arith) in
    let passes_b : is_numeral_character b ≡ true =
    ap (λ v. b == 46 || (is_letter b || v)) (decimal-digit b e) ∙ ap (λ v. b == 46 || v) (or-true (is_letter b)) ∙ or-true (b == 46) in
    let digit : step (b ∷ text) ≡ Some 1 = passing-ascii is_numeral_character b text (decimal-small b e) ∙ ap (λ v. if v then Some 1 else None) passes_b in
    let turn : run_length step 0 (46 ∷ b ∷ text) ≡ 1 + run_length step 0 (b ∷ text) = ap (λ o. option_map_or (λ width. 1 + run_length step (width - 1) (b ∷ text)) o 0) dot in
    let next : run_length step 0 (b ∷ text) ≡ 1 + run_length step 0 text = ap (λ o. option_map_or (λ width. 1 + run_length step (width - 1) text) o 0) digit in
    omega (arith, turn, next)

-- either the second byte does not matter, or the piece has two bytes at least
pub pair-cases : (a b : ℕ) (text : List ℕ) → (class_of_pair a b ≡ class_of_pair a 0) ⊎ (2 ≤ (ending_of (class_of_pair a b) (a ∷ b ∷ text)).length)
pair-cases a b text = go (a == 47 && b == 47) (a == 47 && b == 42) (a == 46 && is_decimal b) refl refl refl
  where
    slashes : (b : ℕ) → a ≡ 47 → b ≡ 47 → 2 ≤ (ending_of (class_of_pair a b) (a ∷ b ∷ text)).length
    slashes b ea eb =
        let at : 2 ≤ (ending_of (class_of_pair 47 47) (47 ∷ 47 ∷ text)).length = omega arith in
        subst (λ x. 2 ≤ (ending_of (class_of_pair x b) (x ∷ b ∷ text)).length) (sym ea)
        (subst (λ y. 2 ≤ (ending_of (class_of_pair 47 y) (47 ∷ y ∷ text)).length) (sym eb) at)

    star : (b : ℕ) → a ≡ 47 → b ≡ 42 → 2 ≤ (ending_of (class_of_pair a b) (a ∷ b ∷ text)).length
    star b ea eb =
        let at : 2 ≤ (ending_of (class_of_pair 47 42) (47 ∷ 42 ∷ text)).length = omega arith in
        subst (λ x. 2 ≤ (ending_of (class_of_pair x b) (x ∷ b ∷ text)).length) (sym ea)
        (subst (λ y. 2 ≤ (ending_of (class_of_pair 47 y) (47 ∷ y ∷ text)).length) (sym eb) at)

    dot : a ≡ 46 → is_decimal b ≡ true → 2 ≤ (ending_of (class_of_pair a b) (a ∷ b ∷ text)).length
    dot ea eb =
        let class : class_of_pair 46 b ≡ pieces.Numeral = ap (λ v. class_by 46 false false v) eb in
        let at : 2 ≤ (ending_of (class_of_pair 46 b) (46 ∷ b ∷ text)).length = subst (λ k. 2 ≤ (ending_of k (46 ∷ b ∷ text)).length) (sym class) (dot_reach b text eb) in
        subst (λ x. 2 ≤ (ending_of (class_of_pair x b) (x ∷ b ∷ text)).length) (sym ea) at

    go : (line general dotted : Bool) → (a == 47 && b == 47) ≡ line → (a == 47 && b == 42) ≡ general → (a == 46 && is_decimal b) ≡ dotted
        → (class_of_pair a b ≡ class_of_pair a 0) ⊎ (2 ≤ (ending_of (class_of_pair a b) (a ∷ b ∷ text)).length)
    go true general dotted l g d = let both = and-both (a == 47) (b == 47) l in inr (slashes b (eqb-true a 47 both.0) (eqb-true b 47 both.1))
    go false true dotted l g d = let both = and-both (a == 47) (b == 42) g in inr (star b (eqb-true a 47 both.0) (eqb-true b 42 both.1))
    go false false true l g d = let both = and-both (a == 46) (is_decimal b) d in inr (dot (eqb-true a 46 both.0) both.1)
    go false false false l g d = inl (pair_plain a b l g d ∙ sym (pair_zero a))

-- the front of a text that is long enough begins with the same class
pub class-front : (text : List ℕ) (n : ℕ) → 1 ≤ n → n ≡ (ending_of (class_of text) text).length → class_of (take n text) ≡ class_of text
class-front [] n h e = absurd (omega (arith, e))
class-front (a ∷ []) (suc zero) h e = refl
class-front (a ∷ []) (suc (suc n)) h e = refl
class-front (a ∷ b ∷ text) (suc (suc n)) h e = refl
class-front (a ∷ b ∷ text) (suc zero) h e = go (pair-cases a b text)
  where
    go : (class_of_pair a b ≡ class_of_pair a 0) ⊎ (2 ≤ (ending_of (class_of_pair a b) (a ∷ b ∷ text)).length) → class_of_pair a 0 ≡ class_of_pair a b
    go (inl same) = sym same
    go (inr two) = absurd (omega (arith, two, e))
class-front (a ∷ []) zero h e = absurd (omega arith)
class-front (a ∷ b ∷ text) zero h e = absurd (omega arith)
