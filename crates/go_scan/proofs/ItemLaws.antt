-- The items of runes and strings.
use Rattle.std.proofs.Common.{◌≡◌, ℕ, ◌+◌, ◌*◌, ◌<◌, ◌≤◌, Bool, true, false, ◌==◌, ◌&&◌, ◌||◌, if◌then◌else◌, Option, Some, None, List, [], ◌∷◌, length, refl, ap, sym, ◌∙◌, subst, arith, nat_lt, eq-eqb, inl, inr}
use Rattle.std.proofs.lemmas.Bool.Decides.{nat_tests}
use Rattle.std.specs.Char.{digit_value, InScalarRange}
use Rattle.bstr.specs.Utf8.{decoded}
use Rattle.go_ast.specs.Characters.{is_source_character}
use Rattle.go_ast.specs.Literals.{Item, first, item_of, if_passes, fixed_digits, is_code_point, is_one_byte, named_escape, escape, character, item}
use Rattle.std.specs.Prelude.{option_map, IfSome}
use Rattle.go_scan.specs.declared.items.Item.{Item as CodeItem}
use Rattle.go_scan.specs.Reading.{reading, view_item}
use Rattle.go_scan.specs.declared.items.Reading.{Reading}
use Rattle.go_scan.specs.declared.items.Reading.TheVariants.{Plain, Quoted}
use Rattle.go_scan.proofs.Decoding.{decoded-bounds}
use Rattle.go_scan.proofs.Digits.{fixed-length}

pub record IsItemOf (width : ℕ) (is_byte : Bool) (value : Option ℕ) (it : Item) : Type 0 where
  pub value_is : value ≡ Some it.value
  pub width_is : it.width ≡ width
  pub byte_is : it.is_byte ≡ is_byte

same_item : (width value : ℕ) (is_byte : Bool) (it : Item) → Some (record { width = width; value = value; is_byte = is_byte }) ≡ Some it → IsItemOf width is_byte (Some value) it
same_item width value is_byte it e =
    let made : Item = record { width = width; value = value; is_byte = is_byte } in
    let r : made ≡ it = cc in
    record { value_is = ap (λ i. Some i.value) r; width_is = ap (λ i. i.width) (sym r); byte_is = ap (λ i. i.is_byte) (sym r) }

pub item_of-some : (width : ℕ) (is_byte : Bool) (value : Option ℕ) (it : Item) → item_of width is_byte value ≡ Some it → IsItemOf width is_byte value it
item_of-some width is_byte None it e = absurd cc
item_of-some width is_byte (Some value) it e = same_item width value is_byte it e

pub if_passes-some : (test : ℕ → Bool) (value : Option ℕ) (x : ℕ) → if_passes test value ≡ Some x → (value ≡ Some x) × (test x ≡ true)
if_passes-some test None x e = absurd cc
if_passes-some test (Some y) x e = split (test y) refl e
  where
    split : (b : Bool) → test y ≡ b → (if b then Some y else None) ≡ Some x → (Some y ≡ Some x) × (test x ≡ true)
    split true t e = let r : y ≡ x = cc in (e, ap test (sym r) ∙ t)
    split false t e = absurd cc

-- what holds of an item in a text of n bytes
pub record IsGood (n : ℕ) (it : Item) : Type 0 where
  pub least : 1 ≤ it.width
  pub within : it.width ≤ n

pub character-good : (text : List ℕ) (it : Item) → character text ≡ Some it → IsGood (length text) it
character-good text it e =
    let parts = item_of-some (decoded text).size false (if_passes is_source_character (decoded text).char) it e in
    let char = if_passes-some is_source_character (decoded text).char it.value parts.value_is in
    let bounds = decoded-bounds text it.value char.0 in
    record { least = omega (arith, parts.width_is, bounds.0); within = omega (arith, parts.width_is, bounds.1) }

pub if_case : {A : Type 0} {P : Type 0} (b : Bool) (x y z : A) → (if b then x else y) ≡ z → (x ≡ z → P) → (y ≡ z → P) → P
if_case true x y z e f g = f e
if_case false x y z e f g = g e

-- what holds of an escape behind a backslash
pub record IsEscape (quote n : ℕ) (it : Item) : Type 0 where
  pub good : IsGood (1 + n) it
  pub one_byte : it.is_byte ≡ true → it.value < 256
  pub code_point : quote < 128 → it.is_byte ≡ false → is_code_point it.value ≡ true

fixed_two : (text : List ℕ) (value : ℕ) → fixed_digits 16 2 0 text ≡ Some value → value < 256
fixed_two [] value e = absurd cc
fixed_two (a ∷ []) value e = if_case (nat_lt (digit_value a) 16) None None (Some value) e (λ e. absurd cc) (λ e. absurd cc)
fixed_two (a ∷ b ∷ text) value e = split (nat_lt (digit_value a) 16) (nat_lt (digit_value b) 16) refl refl e
  where
    split : (s t : Bool) → nat_lt (digit_value a) 16 ≡ s → nat_lt (digit_value b) 16 ≡ t
        → (if s then (if t then Some ((0 * 16 + digit_value a) * 16 + digit_value b) else None) else None) ≡ Some value → value < 256
    split true true p q e =
        let r : (0 * 16 + digit_value a) * 16 + digit_value b ≡ value = cc in
        let small : (x y : ℕ) → nat_lt x 16 ≡ true → nat_lt y 16 ≡ true → (0 * 16 + x) * 16 + y < 256 = λ x y p q. grind (arith, nat_tests) in
        subst (λ n. n < 256) r (small (digit_value a) (digit_value b) p q)
    split true false p q e = absurd cc
    split false t p q e = absurd cc

some_small : (n value : ℕ) → Some n ≡ Some value → n < 128 → value < 128
some_small n value e h = let r : n ≡ value = cc in omega arith

named-small : (quote letter value : ℕ) → quote < 128 → named_escape quote letter ≡ Some value → value < 128
named-small quote letter value h e =
    if_case (letter == 97) _ _ _ e (λ e. some_small 7 value e (omega arith)) (λ e.
    if_case (letter == 98) _ _ _ e (λ e. some_small 8 value e (omega arith)) (λ e.
    if_case (letter == 102) _ _ _ e (λ e. some_small 12 value e (omega arith)) (λ e.
    if_case (letter == 110) _ _ _ e (λ e. some_small 10 value e (omega arith)) (λ e.
    if_case (letter == 114) _ _ _ e (λ e. some_small 13 value e (omega arith)) (λ e.
    if_case (letter == 116) _ _ _ e (λ e. some_small 9 value e (omega arith)) (λ e.
    if_case (letter == 118) _ _ _ e (λ e. some_small 11 value e (omega arith)) (λ e.
    if_case (letter == 92) _ _ _ e (λ e. some_small 92 value e (omega arith)) (λ e.
    if_case (letter == quote) _ _ _ e (λ e. some_small quote value e h) (λ e. absurd cc)))))))))

code_point-small : (value : ℕ) → value < 128 → is_code_point value ≡ true
code_point-small value h = let t : nat_lt value 0xD800 ≡ true = grind (arith, nat_tests) in ap (λ b. b || (nat_lt 0xDFFF value && nat_lt value 0x110000)) t

never : {A : Type 0} (b : Bool) → b ≡ true → b ≡ false → A
never b e f = absurd cc

escape_x : (quote : ℕ) (text : List ℕ) (it : Item) (n : ℕ) → 1 + length text ≤ n → item_of 4 true (fixed_digits 16 2 0 text) ≡ Some it → IsEscape quote n it
escape_x quote text it n h e =
    let parts = item_of-some 4 true (fixed_digits 16 2 0 text) it e in
    let room = fixed-length 16 2 0 it.value text parts.value_is in
    record {
      good = record { least = omega (arith, parts.width_is); within = omega (arith, parts.width_is, room) };
      one_byte = λ b. fixed_two text it.value parts.value_is;
      code_point = λ h b. never it.is_byte parts.byte_is b;
    }

escape_point : (quote width count : ℕ) (text : List ℕ) (it : Item) (n : ℕ) → 1 ≤ width → width ≤ 2 + count → 1 + length text ≤ n → item_of width false (if_passes is_code_point (fixed_digits 16 count 0 text)) ≡ Some it → IsEscape quote n it
escape_point quote width count text it n l w h e =
    let parts = item_of-some width false (if_passes is_code_point (fixed_digits 16 count 0 text)) it e in
    let value = if_passes-some is_code_point (fixed_digits 16 count 0 text) it.value parts.value_is in
    let room = fixed-length 16 count 0 it.value text value.0 in
    record {
      good = record { least = omega (arith, parts.width_is); within = omega (arith, parts.width_is, room) };
      one_byte = λ b. never it.is_byte b parts.byte_is;
      code_point = λ q b. value.1;
    }

escape_octal : (quote : ℕ) (text : List ℕ) (it : Item) → item_of 4 true (if_passes is_one_byte (fixed_digits 8 3 0 text)) ≡ Some it → IsEscape quote (length text) it
escape_octal quote text it e =
    let parts = item_of-some 4 true (if_passes is_one_byte (fixed_digits 8 3 0 text)) it e in
    let value = if_passes-some is_one_byte (fixed_digits 8 3 0 text) it.value parts.value_is in
    let room = fixed-length 8 3 0 it.value text value.0 in
    let small : it.value < 256 = let t = value.1 in grind (arith, nat_tests) in
    record {
      good = record { least = omega (arith, parts.width_is); within = omega (arith, parts.width_is, room) };
      one_byte = λ b. small;
      code_point = λ h b. never it.is_byte parts.byte_is b;
    }

escape_named : (quote letter : ℕ) (it : Item) (n : ℕ) → 1 ≤ n → item_of 2 false (named_escape quote letter) ≡ Some it → IsEscape quote n it
escape_named quote letter it n h' e =
    let parts = item_of-some 2 false (named_escape quote letter) it e in
    record {
      good = record { least = omega (arith, parts.width_is); within = omega (arith, parts.width_is) };
      one_byte = λ b. never it.is_byte b parts.byte_is;
      code_point = λ h b. code_point-small it.value (named-small quote letter it.value h parts.value_is);
    }

pub escape-is : (quote : ℕ) (text : List ℕ) (it : Item) → escape quote text ≡ Some it → IsEscape quote (length text) it
escape-is quote [] it e = absurd cc
escape-is quote (letter ∷ text) it e =
    if_case (letter == 120) _ _ _ e (escape_x quote text it (length (letter ∷ text)) (omega arith)) (λ e.
    if_case (letter == 117) _ _ _ e (escape_point quote 6 4 text it (length (letter ∷ text)) (omega arith) (omega arith) (omega arith)) (λ e.
    if_case (letter == 85) _ _ _ e (escape_point quote 10 8 text it (length (letter ∷ text)) (omega arith) (omega arith) (omega arith)) (λ e.
    if_case (nat_lt (digit_value letter) 8) _ _ _ e (escape_octal quote (letter ∷ text) it) (λ e.
    escape_named quote letter it (length (letter ∷ text)) (omega arith) e))))

pub item-good : (quote : ℕ) (text : List ℕ) (it : Item) → item quote text ≡ Some it → IsGood (length text) it
item-good quote [] it e = character-good [] it e
item-good quote (byte ∷ text) it e =
    if_case (byte == 92) _ _ _ e
    (λ e. let escaped = escape-is quote text it e in record { least = escaped.good.least; within = omega (arith, escaped.good.within) })
    (character-good (byte ∷ text) it)

pub reading-good : (how : Reading) (text : List ℕ) (it : Item) → reading how text ≡ Some it → IsGood (length text) it
reading-good Plain text it e = character-good text it e
reading-good (Quoted quote) text it e = item-good quote text it e

pub view-good : (how : Reading) (text : List ℕ) (result : Option CodeItem) → option_map view_item result ≡ reading how text → IfSome result (λ it. (1 ≤ it.width) × (it.width ≤ length text))
view-good how text None e = tt
view-good how text (Some it) e = let good = reading-good how text (view_item it) (sym e) in (good.least, good.within)

-- an item of a string that names a byte, and one that names a code point
pub item-byte : (text : List ℕ) (it : Item) → item 34 text ≡ Some it → it.is_byte ≡ true → it.value < 256
item-byte [] it e b = absurd cc
item-byte (byte ∷ text) it e b =
    if_case (byte == 92) _ _ _ e
    (λ e. (escape-is 34 text it e).one_byte b)
    (λ e. never it.is_byte b (item_of-some (decoded (byte ∷ text)).size false (if_passes is_source_character (decoded (byte ∷ text)).char) it e).byte_is)

pub item-point : (text : List ℕ) (it : Item) → item 34 text ≡ Some it → first text ≡ 92 → it.is_byte ≡ false → is_code_point it.value ≡ true
item-point [] it e h b = absurd cc
item-point (byte ∷ text) it e h b =
    let t : byte == 92 ≡ true = eq-eqb byte 92 h in
    (escape-is 34 text it (sym (ap (λ v. if v then escape 34 text else character (byte ∷ text)) t) ∙ e)).code_point (omega arith) b

pub point-scalar : (value : ℕ) → is_code_point value ≡ true → InScalarRange value
point-scalar value t = split (nat_lt value 0xD800) refl
  where
    split : (b : Bool) → nat_lt value 0xD800 ≡ b → InScalarRange value
    split true low = inl (grind (arith, nat_tests))
    split false high =
        let more : nat_lt 0xDFFF value && nat_lt value 0x110000 ≡ true = sym (ap (λ b. b || (nat_lt 0xDFFF value && nat_lt value 0x110000)) high) ∙ t in
        inr (grind (arith, nat_tests), grind (arith, nat_tests))
