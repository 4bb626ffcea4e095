-- Texts and the integers that they are made of.
use Rattle.std.proofs.Common.{◌≡◌, ◌<◌, ◌≤◌, ◌+◌, ℕ, zero, suc, ℤ, pos, ap, sym, refl, subst, ◌∙◌, inl, inr, map, List, [], ◌∷◌, ◌++◌, drop, length, Option, Some, None, IsSome, ◌-◌, false, unwrap_or, Result, OnOk, OnErr, arith, append_assoc, length-drop}
use Rattle.std.specs.List.{flat_map}
use Rattle.std.proofs.lemmas.Bool.{false≢true}
use Rattle.std.proofs.lemmas.List.{append-nil, length-map, drop_all, drop-drop}
use Rattle.bstr.specs.Utf8.{decoded, Decoded}
use Rattle.bstr.proofs.lemmas.EncodeLemmas.{decoded-encode}
use Rattle.bstr.proofs.lemmas.PieceLemmas.{piece-bounds}
use Rattle.go_value.specs.Gives.{Gives}
use Rattle.go_value.specs.Runes.{IsFirstRune, no_rune}
use Rattle.go_value.specs.Values.{Val, number, parts, part}
use Rattle.go_value.specs.Values.{parts_of}
use Rattle.go_value.specs.declared.faults.ValueError.{ValueError}
use Rattle.go_value.proofs.RuneAt.{first_rune, none_first}
use Rattle.go_store.specs.Arrays.{array_of, elements, with_elements}
use Rattle.go_store.specs.Cells.{packed, packed_bytes, plain_number}
use Rattle.go_store.specs.Conversions.{AreRunes, MakesSlice, byte_of, new_slice, numbers_of, within_limit}
use Rattle.go_store.specs.Stores.{Stored, made}
use Rattle.go_value.specs.declared.address.SliceValue.{SliceValue}
use Rattle.go_store.proofs.Reached.{on_ok}

-- ---- integers as elements

elements_of_ints : (ints : List ℤ) → elements (map number ints) ≡ parts_of (map plain_number ints)
elements_of_ints [] = refl
elements_of_ints (n ∷ ns) = ap (part (number n) false) (elements_of_ints ns)

pub packed_is : (ints : List ℤ) → packed ints ≡ array_of (map number ints)
packed_is ints = ap parts (sym (elements_of_ints ints))

back : (items : List Val) (ints : List ℤ) → elements items ≡ parts_of (map plain_number ints) → items ≡ map number ints
back [] [] h = refl
back [] (n ∷ ns) h = cc
back (it ∷ items) [] h = cc
back (it ∷ items) (n ∷ ns) h =
    let e : it ≡ number n = cc in
    let r : elements items ≡ parts_of (map plain_number ns) = cc in
    ap (λ v. v ∷ items) e ∙ ap (λ vs. number n ∷ vs) (back items ns r)

pub elements_ints : (o : Option (List Val)) (ints : List ℤ) (old now : Val) → IsSome o → old ≡ packed [] → now ≡ with_elements (unwrap_or o []) old → now ≡ packed ints → o ≡ Some (map number ints)
elements_ints None ints old now some old_is now_is is = absurd (false≢true some)
elements_ints (Some items) ints old now some old_is now_is is =
    let e : parts (elements items) ≡ parts (parts_of (map plain_number ints)) =
    sym (ap (with_elements items) old_is) ∙ sym now_is ∙ is in
    let r : elements items ≡ parts_of (map plain_number ints) = cc in
    ap Some (back items ints r)

-- ---- bytes

spelled : (bytes : List ℕ) → flat_map byte_of (map number (map pos bytes)) ≡ bytes
spelled [] = refl
spelled (b ∷ bytes) = ap (λ bs. b ∷ bs) (spelled bytes)

pub of_bytes : (result : Result (List ℕ) ValueError) (o : Option (List Val)) (bytes : List ℕ) → o ≡ Some (map number (map pos bytes)) → Gives (λ text. text) result (within_limit bytes) → Gives (λ text. text) result (within_limit (flat_map byte_of (unwrap_or o [])))
of_bytes result o bytes there given =
    subst (λ b. Gives (λ text. text) result (within_limit b)) (sym (spelled bytes) ∙ ap (λ p. flat_map byte_of (unwrap_or p [])) (sym there)) given

pub makes_bytes : (old new : Stored) (bytes : List ℕ) (result : Result SliceValue ValueError) → Gives (λ slice. slice) result (new_slice old (length bytes)) → OnOk result (new ≡ made old (packed_bytes bytes)) → OnErr result (new ≡ old) → MakesSlice old (numbers_of bytes) result new
makes_bytes old new bytes result given ok err =
    record {
      value = subst (λ n. Gives (λ slice. slice) result (new_slice old n)) (sym (length-map bytes pos)) given;
      ok = on_ok result ok (λ same. same ∙ ap (made old) (packed_is (map pos bytes)));
      err = err;
    }

pub of_slice : (f : Val → List ℕ) (result : Result (List ℕ) ValueError) (o : Option (List Val)) (ints : List ℤ) (bytes : List ℕ) → o ≡ Some (map number ints) → bytes ≡ flat_map f (map number ints) → Gives (λ text. text) result (within_limit bytes) → Gives (λ text. text) result (within_limit (flat_map f (unwrap_or o [])))
of_slice f result o ints bytes there spelled given =
    subst (λ b. Gives (λ text. text) result (within_limit b)) (spelled ∙ ap (λ p. flat_map f (unwrap_or p [])) (sym there)) given

-- ---- code points

pub width_within : (bs : List ℕ) (rune width : ℕ) → 0 < length bs → IsFirstRune bs rune width → (0 < width) × (width ≤ length bs)
width_within bs rune width some (inl h) =
    let e = ap (λ (d : Decoded). d.size) (ap decoded h.0.1.1 ∙ decoded-encode rune h.0.1.0 h.0.0) in
    let bounds = piece-bounds bs some in
    let w : width ≡ (decoded bs).size = h.1 ∙ sym e in
    (omega (arith, bounds.0), omega (arith, bounds.2))
width_within bs rune width some (inr h) = (omega (arith, h.2), omega (arith, h.2))

first_exists : (bs : List ℕ) → (rune width : ℕ) × IsFirstRune bs rune width
first_exists bs = by (decoded bs).char refl
  where
    by : (o : Option ℕ) → (decoded bs).char ≡ o → (rune width : ℕ) × IsFirstRune bs rune width
    by (Some c) is = (c, (decoded bs).size, first_rune bs c is)
    by None is = (no_rune, 1, none_first bs is)

none_left : (bs : List ℕ) → length bs ≤ 0 → bs ≡ []
none_left [] le = refl
none_left (b ∷ bs) le = absurd (omega arith)

exist_within : (n : ℕ) (text : List ℕ) → length text ≤ n → (ints : List ℤ) × AreRunes text ints
exist_within zero text le = ([], none_left text le)
exist_within (suc n) [] le = ([], refl)
exist_within (suc n) (b ∷ bs) le =
    let first = first_exists (b ∷ bs) in
    let some : 0 < length (b ∷ bs) = omega arith in
    let bounds = width_within (b ∷ bs) first.0 first.1 some first.2 in
    let shorter : length (drop first.1 (b ∷ bs)) ≤ n = omega (arith, length-drop first.1 (b ∷ bs), bounds.0, bounds.1, le) in
    let rest = exist_within n (drop first.1 (b ∷ bs)) shorter in
    (pos first.0 ∷ rest.0, (first.0, first.1, some, first.2, refl, rest.1))

pub runes_exist : (text : List ℕ) → (ints : List ℤ) × AreRunes text ints
runes_exist text = exist_within (length text) text (omega arith)

-- what is decoded up to a place, and what follows there
abbrev pub Follows : List ℕ → ℕ → List ℤ → Type 0
Follows text at runes = (rest : List ℤ) → AreRunes (drop at text) rest → AreRunes text (runes ++ rest)

further : (at next : ℕ) → at < next → at + (next - at) ≡ next
further at next above = omega arith

left : (at next len : ℕ) → at < next → next ≤ len → 0 < len - at
left at next len above within = omega arith

pub follows_next : (text : List ℕ) (at next rune : ℕ) (old new : List ℤ) → at < next → next ≤ length text → IsFirstRune (drop at text) rune (next - at) → new ≡ old ++ pos rune ∷ [] → Follows text at old → Follows text next new
follows_next text at next rune old new above within first is before rest are =
    let there : drop (next - at) (drop at text) ≡ drop next text = drop-drop (next - at) at text ∙ ap (λ n. drop n text) (further at next above) in
    let some : 0 < length (drop at text) = subst (λ n. 0 < n) (sym (length-drop at text)) (left at next (length text) above within) in
    let behind : AreRunes (drop (next - at) (drop at text)) rest = subst (λ bs. AreRunes bs rest) (sym there) are in
    let all : AreRunes text (old ++ pos rune ∷ rest) = before (pos rune ∷ rest) (rune, next - at, some, first, refl, behind) in
    subst (AreRunes text) (sym (ap (λ xs. xs ++ rest) is ∙ append_assoc old (pos rune ∷ []) rest)) all

pub follows_end : (text : List ℕ) (at : ℕ) (runes : List ℤ) → length text ≤ at → Follows text at runes → AreRunes text runes
follows_end text at runes past before = subst (AreRunes text) (append-nil runes) (before [] (drop_all at text past))
