-- Keys of one type have one code exactly where they are equal.
use Rattle.std.proofs.Common.{◌≡◌, ℕ, refl, ap, sym, ◌∙◌, Bool, true, false, Option, Some, None, List, [], ◌∷◌, ◌++◌, length, Result, Ok, Err, ℤ, int_eq, of_z, to_z, SFits, append_assoc, arith}
use Rattle.std.specs.Prelude.{◌==◌, ◌↔◌}
use mir.ValLaws.{of_z_fits}
use Rattle.std.specs.Int.{to_le_bytes, w128}
use Rattle.std.proofs.lemmas.Bool.{false≢true, cond-true, cond-false, eq-eqb, eqb-true}
use Rattle.std.proofs.lemmas.Bool.Decides.{Decides-int_eq}
use Rattle.std.proofs.lemmas.Int.{to_z-of_z}
use Rattle.go_base.specs.declared.ids.CellId.{CellId}
use Rattle.go_base.specs.declared.ids.ChanId.{ChanId}
use Rattle.go_base.specs.declared.ids.TypeId.{TypeId}
use Rattle.go_value.specs.declared.address.Pointer.{Pointer}
use Rattle.go_value.specs.declared.faults.Fault.{Fault}
use Rattle.go_value.specs.declared.faults.Fault.TheVariants as fault
use Rattle.go_value.specs.Values as vals
use Rattle.go_value.specs.Values.{Val, Parts, none, part}
use Rattle.go_maps.specs.Equality.{compared, compared_parts, same_numbers, same_chan, same_pointer, next_where_equal}
use Rattle.go_maps.specs.Keys.{code, parts_code, number_code, steps_code, pointer_code, KeyCode, of_number, of_bytes, key_code, unhashable, unhashable_in, first_fault, IsCount, AreCounts, HasPath, IsPointer, IsChan, Alike, AlikeParts, KeysLaw}
use Rattle.go_maps.specs.Keys as keys
use Rattle.go_maps.proofs.Bytes.{number_same, wide_same}
use Rattle.go_maps.proofs.Leaves.{numbers_same, numbers_self, pointer_same, pointer_self}

-- ---- lists one behind the other

cons_same : (x y : ℕ) (xs ys : List ℕ) → (x ∷ xs) ≡ (y ∷ ys) → (x ≡ y) × (xs ≡ ys)
cons_same x y xs ys is = (cc, cc)

append_split : (xs ys r s : List ℕ) → length xs ≡ length ys → xs ++ r ≡ ys ++ s → (xs ≡ ys) × (r ≡ s)
append_split [] [] r s same is = (refl, is)
append_split [] (y ∷ ys) r s same is = absurd (omega arith)
append_split (x ∷ xs) [] r s same is = absurd (omega arith)
append_split (x ∷ xs) (y ∷ ys) r s same is =
    let first = cons_same x y (xs ++ r) (ys ++ s) is in
    let shorter : length xs ≡ length ys = omega arith in
    let rest = append_split xs ys r s shorter first.1 in
    (ap (λ z. z ∷ xs) first.0 ∙ ap (λ zs. y ∷ zs) rest.0, rest.1)

number_split : (n m : ℕ) (r s : List ℕ) → IsCount n → IsCount m → number_code n ++ r ≡ number_code m ++ s → (n ≡ m) × (r ≡ s)
number_split n m r s fits fits' is =
    let split = append_split (number_code n) (number_code m) r s refl is in
    (number_same n m fits fits' split.0, split.1)

then_number : (n m : ℕ) (xs ys r s : List ℕ) → IsCount n → IsCount m → (number_code n ++ xs) ++ r ≡ (number_code m ++ ys) ++ s → (n ≡ m) × (xs ++ r ≡ ys ++ s)
then_number n m xs ys r s fits fits' is =
    number_split n m (xs ++ r) (ys ++ s) fits fits' (sym (append_assoc (number_code n) xs r) ∙ is ∙ append_assoc (number_code m) ys s)

steps_split : (xs ys r s : List ℕ) → AreCounts xs → AreCounts ys → length xs ≡ length ys → steps_code xs ++ r ≡ steps_code ys ++ s → (xs ≡ ys) × (r ≡ s)
steps_split [] [] r s fit fit' same is = (refl, is)
steps_split [] (y ∷ ys) r s fit fit' same is = absurd (omega arith)
steps_split (x ∷ xs) [] r s fit fit' same is = absurd (omega arith)
steps_split (x ∷ xs) (y ∷ ys) r s fit fit' same is =
    let first = then_number x y (steps_code xs) (steps_code ys) r s fit.0 fit'.0 is in
    let shorter : length xs ≡ length ys = omega arith in
    let rest = steps_split xs ys r s fit.1 fit'.1 shorter first.1 in
    (ap (λ z. z ∷ xs) first.0 ∙ ap (λ zs. y ∷ zs) rest.0, rest.1)

int_split : (a b : ℤ) (r s : List ℕ) → SFits w128 a → SFits w128 b → to_le_bytes w128 (of_z w128 a) ++ r ≡ to_le_bytes w128 (of_z w128 b) ++ s → (a ≡ b) × (r ≡ s)
int_split a b r s fits fits' is =
    let split = append_split (to_le_bytes w128 (of_z w128 a)) (to_le_bytes w128 (of_z w128 b)) r s refl is in
    let same = wide_same (of_z w128 a) (of_z w128 b) (of_z_fits w128 a fits).fits (of_z_fits w128 b fits').fits split.0 in
    (sym (to_z-of_z w128 a fits) ∙ ap (to_z w128) same ∙ to_z-of_z w128 b fits', split.1)

ints_equal : (a b : ℤ) → a ≡ b → int_eq a b ≡ true
ints_equal a b is = (Decides-int_eq a b).1 is

ints_same : (a b : ℤ) → int_eq a b ≡ true → a ≡ b
ints_same a b is = (Decides-int_eq a b).0 is

text_split : (a b r s : List ℕ) → IsCount (length a) → IsCount (length b) → (number_code (length a) ++ a) ++ r ≡ (number_code (length b) ++ b) ++ s → (a ≡ b) × (r ≡ s)
text_split a b r s fits fits' is =
    let first = then_number (length a) (length b) a b r s fits fits' is in
    append_split a b r s first.0 first.1

-- ---- pointers and channels

pointer_split_at : (a b : Option CellId) (xs ys r s : List ℕ) → HasPath a xs → HasPath b ys → pointer_code a xs ++ r ≡ pointer_code b ys ++ s → (a ≡ b) × (xs ≡ ys) × (r ≡ s)
pointer_split_at None None xs ys r s fits fits' is = (refl, fits ∙ sym fits', (cons_same 0 0 r s is).1)
pointer_split_at None (Some b) xs ys r s fits fits' is = absurd (let e = (cons_same 0 1 r _ is).0 in omega arith)
pointer_split_at (Some a) None xs ys r s fits fits' is = absurd (let e = (cons_same 1 0 _ s is).0 in omega arith)
pointer_split_at (Some a) (Some b) xs ys r s fits fits' is =
    let cells = then_number a.number b.number (number_code (length xs) ++ steps_code xs) (number_code (length ys) ++ steps_code ys) r s fits.0 fits'.0 (cons_same 1 1 _ _ is).1 in
    let lengths = then_number (length xs) (length ys) (steps_code xs) (steps_code ys) r s fits.1 fits'.1 cells.1 in
    let steps = steps_split xs ys r s fits.2 fits'.2 lengths.0 lengths.1 in
    (ap (λ n. Some (record { number = n })) cells.0, steps.0, steps.1)

pointer_split : (a b : Pointer) (r s : List ℕ) → IsPointer a → IsPointer b → pointer_code a.cell a.path ++ r ≡ pointer_code b.cell b.path ++ s → (a ≡ b) × (r ≡ s)
pointer_split a b r s fits fits' is =
    let split = pointer_split_at a.cell b.cell a.path b.path r s fits fits' is in
    (ap (λ (c : Option CellId). record a { cell = c }) split.0 ∙ ap (λ (p : List ℕ). record b { path = p }) split.1, split.2)

chan_split : (a b : Option ChanId) (r s : List ℕ) → IsChan a → IsChan b → code (vals.chan_number a) ++ r ≡ code (vals.chan_number b) ++ s → (same_chan a b ≡ true) × (r ≡ s)
chan_split None None r s fits fits' is = (refl, (cons_same 0 0 r s is).1)
chan_split None (Some b) r s fits fits' is = absurd (let e = (cons_same 0 1 r _ is).0 in omega arith)
chan_split (Some a) None r s fits fits' is = absurd (let e = (cons_same 1 0 _ s is).0 in omega arith)
chan_split (Some a) (Some b) r s fits fits' is =
    let split = number_split a.number b.number r s fits fits' (cons_same 1 1 _ _ is).1 in
    (eq-eqb a.number b.number split.0, split.1)

chan_codes : (a b : Option ChanId) → same_chan a b ≡ true → code (vals.chan_number a) ≡ code (vals.chan_number b)
chan_codes None None is = refl
chan_codes None (Some b) is = absurd (false≢true is)
chan_codes (Some a) None is = absurd (false≢true is)
chan_codes (Some a) (Some b) is = ap (λ n. 1 ∷ number_code n) (eqb-true a.number b.number is)

-- ---- values in interfaces, and parts

tested : (test : TypeId → Bool) (of : TypeId) (it : Val) (b : Bool) → test of ≡ b → unhashable test (vals.dynamic of it) ≡ None → (test of ≡ true) × (unhashable test it ≡ None)
tested test of it true is fine = (is, sym (cond-true (test of) _ _ is) ∙ fine)
tested test of it false is fine = absurd (let e : Some (fault.Unhashable of) ≡ None = sym (cond-false (test of) _ _ is) ∙ fine in cc)

firsts : (first later : Option Fault) → first_fault first later ≡ None → (first ≡ None) × (later ≡ None)
firsts None later fine = (refl, fine)
firsts (Some it) later fine = absurd (cc)

dynamic_equal : (test : TypeId → Bool) (of other : TypeId) (a b : Val) → of.number ≡ other.number → test of ≡ true → compared test a b ≡ Ok true → compared test (vals.dynamic of a) (vals.dynamic other b) ≡ Ok true
dynamic_equal test of other a b same fine is = cond-true (of.number == other.number) _ _ (eq-eqb of.number other.number same) ∙ cond-true (test of) _ _ fine ∙ is

field_equal : (first later : Result Bool Fault) → first ≡ Ok true → later ≡ Ok true → next_where_equal first later ≡ Ok true
field_equal first later is is' = ap (λ f. next_where_equal f later) is ∙ is'

mutual
  split : (test : TypeId → Bool) (a b : Val) → Alike a b → unhashable test a ≡ None → (r s : List ℕ) → code a ++ r ≡ code b ++ s → (compared test a b ≡ Ok true) × (r ≡ s)
  split test _ _ (keys.truths true true) fine r s is = (refl, (cons_same 1 1 r s is).1)
  split test _ _ (keys.truths false false) fine r s is = (refl, (cons_same 0 0 r s is).1)
  split test _ _ (keys.truths true false) fine r s is = absurd (let e = (cons_same 1 0 r s is).0 in omega arith)
  split test _ _ (keys.truths false true) fine r s is = absurd (let e = (cons_same 0 1 r s is).0 in omega arith)
  split test _ _ (keys.numbers a b fits fits') fine r s is = let it = int_split a b r s fits fits' is in (ap Ok (ints_equal a b it.0), it.1)
  split test _ _ (keys.texts a b fits fits') fine r s is =
      let it = text_split a b r s fits fits' is in
      (ap Ok (ap (same_numbers a) (sym it.0) ∙ numbers_self a), it.1)
  split test _ _ (keys.pointers a b fits fits') fine r s is = let it = pointer_split a b r s fits fits' is in (ap Ok (pointer_self a b it.0), it.1)
  split test _ _ (keys.chans a b fits fits') fine r s is = let it = chan_split a b r s fits fits' is in (ap Ok it.0, it.1)
  split test _ _ keys.nils fine r s is = (refl, (cons_same 0 0 r s is).1)
  split test _ _ (keys.first_nil of it) fine r s is = absurd (let e = (cons_same 0 1 r _ is).0 in omega arith)
  split test _ _ (keys.second_nil of it) fine r s is = absurd (let e = (cons_same 1 0 _ s is).0 in omega arith)
  split test _ _ (keys.dynamics of other a b fits fits' alike) fine r s is =
      let first = then_number of.number other.number (code a) (code b) r s fits fits' (cons_same 1 1 _ _ is).1 in
      let fine' = tested test of a (test of) refl fine in
      let rest = split test a b (alike first.0) fine'.1 r s first.1 in
      (dynamic_equal test of other a b first.0 fine'.0 rest.0, rest.1)
  split test _ _ (keys.compounds a b alike) fine r s is = split_parts test a b alike fine r s is

  split_parts : (test : TypeId → Bool) (a b : Parts) → AlikeParts a b → unhashable_in test a ≡ None → (r s : List ℕ) → parts_code a ++ r ≡ parts_code b ++ s → (compared_parts test a b ≡ Ok true) × (r ≡ s)
  split_parts test _ _ keys.ends fine r s is = (refl, is)
  split_parts test _ _ (keys.blanks a b rest rest' alike) fine r s is = split_parts test rest rest' alike fine r s is
  split_parts test _ _ (keys.fields a b rest rest' alike alikes) fine r s is =
      let fine' = firsts (unhashable test a) (unhashable_in test rest) fine in
      let first = split test a b alike fine'.0 (parts_code rest ++ r) (parts_code rest' ++ s) (sym (append_assoc (code a) (parts_code rest) r) ∙ is ∙ append_assoc (code b) (parts_code rest') s) in
      let later = split_parts test rest rest' alikes fine'.1 r s first.1 in
      (field_equal (compared test a b) (compared_parts test rest rest') first.0 later.0, later.1)

-- ---- equal keys have one code

ok_same : (a b : Bool) → ◌≡◌ {A = Result Bool Fault} (Ok a) (Ok b) → a ≡ b
ok_same a b is = cc

not_equal : (outcome : Result Bool Fault) → outcome ≡ Ok false → outcome ≡ Ok true → ⊥
not_equal outcome is is' = false≢true (ok_same false true (sym is ∙ is'))

failed_apart : (outcome : Result Bool Fault) (it : Fault) → outcome ≡ Err it → outcome ≡ Ok true → ⊥
failed_apart outcome it is is' = cc

dynamic_back : (test : TypeId → Bool) (of other : TypeId) (a b : Val) (same fine : Bool) → (of.number == other.number) ≡ same → test of ≡ fine → compared test (vals.dynamic of a) (vals.dynamic other b) ≡ Ok true → (of.number ≡ other.number) × (compared test a b ≡ Ok true)
dynamic_back test of other a b true true same fine is =
    (eqb-true of.number other.number same, sym (cond-true (of.number == other.number) _ _ same ∙ cond-true (test of) _ _ fine) ∙ is)
dynamic_back test of other a b true false same fine is =
    absurd (failed_apart (compared test (vals.dynamic of a) (vals.dynamic other b)) (fault.Uncomparable of) (cond-true (of.number == other.number) _ _ same ∙ cond-false (test of) _ _ fine) is)
dynamic_back test of other a b false fine same told is =
    absurd (not_equal (compared test (vals.dynamic of a) (vals.dynamic other b)) (cond-false (of.number == other.number) _ _ same) is)

fields_back : (first later : Result Bool Fault) → next_where_equal first later ≡ Ok true → (first ≡ Ok true) × (later ≡ Ok true)
fields_back (Ok true) later is = (refl, is)
fields_back (Ok false) later is = absurd (not_equal (Ok false) refl is)
fields_back (Err it) later is = absurd (failed_apart (Err it) it refl is)

mutual
  codes : (test : TypeId → Bool) (a b : Val) → Alike a b → compared test a b ≡ Ok true → code a ≡ code b
  codes test _ _ (keys.truths true true) is = refl
  codes test _ _ (keys.truths false false) is = refl
  codes test _ _ (keys.truths true false) is = absurd (not_equal (Ok false) refl is)
  codes test _ _ (keys.truths false true) is = absurd (not_equal (Ok false) refl is)
  codes test _ _ (keys.numbers a b fits fits') is = ap (λ n. to_le_bytes w128 (of_z w128 n)) (ints_same a b (ok_same (int_eq a b) true is))
  codes test _ _ (keys.texts a b fits fits') is = ap (λ xs. number_code (length xs) ++ xs) (numbers_same a b (ok_same (same_numbers a b) true is))
  codes test _ _ (keys.pointers a b fits fits') is = ap (λ (p : Pointer). pointer_code p.cell p.path) (pointer_same a b (ok_same (same_pointer a b) true is))
  codes test _ _ (keys.chans a b fits fits') is = chan_codes a b (ok_same (same_chan a b) true is)
  codes test _ _ keys.nils is = refl
  codes test _ _ (keys.first_nil of it) is = absurd (not_equal (Ok false) refl is)
  codes test _ _ (keys.second_nil of it) is = absurd (not_equal (Ok false) refl is)
  codes test _ _ (keys.dynamics of other a b fits fits' alike) is =
      let back = dynamic_back test of other a b (of.number == other.number) (test of) refl refl is in
      ap (λ n. 1 ∷ (number_code n ++ code a)) back.0 ∙ ap (λ xs. 1 ∷ (number_code other.number ++ xs)) (codes test a b (alike back.0) back.1)
  codes test _ _ (keys.compounds a b alike) is = codes_in test a b alike is

  codes_in : (test : TypeId → Bool) (a b : Parts) → AlikeParts a b → compared_parts test a b ≡ Ok true → parts_code a ≡ parts_code b
  codes_in test _ _ keys.ends is = refl
  codes_in test _ _ (keys.blanks a b rest rest' alike) is = codes_in test rest rest' alike is
  codes_in test _ _ (keys.fields a b rest rest' alike alikes) is =
      let back = fields_back (compared test a b) (compared_parts test rest rest') is in
      ap (λ xs. xs ++ parts_code rest) (codes test a b alike back.0) ∙ ap (λ xs. code b ++ xs) (codes_in test rest rest' alikes back.1)

-- ---- so codes tell equality

bytes_same : (a b : List ℕ) → of_bytes a ≡ of_bytes b → a ≡ b
bytes_same a b is = cc

number_codes : (a b : ℤ) → of_number a ≡ of_number b → a ≡ b
number_codes a b is = cc

by_bytes : (test : TypeId → Bool) (a b : Val) → Alike a b → unhashable test a ≡ None → (of_bytes (code a) ≡ of_bytes (code b)) ↔ (compared test a b ≡ Ok true)
by_bytes test a b alike fine =
    (λ is. (split test a b alike fine [] [] (ap (λ xs. xs ++ []) (bytes_same (code a) (code b) is))).0, λ is. ap of_bytes (codes test a b alike is))

pub keys_law : KeysLaw
keys_law test _ _ (keys.truths a b) fine = by_bytes test (vals.truth a) (vals.truth b) (keys.truths a b) fine
keys_law test _ _ (keys.numbers a b fits fits') fine =
    (λ is. ap Ok (ints_equal a b (number_codes a b is)), λ is. ap of_number (ints_same a b (ok_same (int_eq a b) true is)))
keys_law test _ _ (keys.texts a b fits fits') fine = by_bytes test (vals.text a) (vals.text b) (keys.texts a b fits fits') fine
keys_law test _ _ (keys.pointers a b fits fits') fine = by_bytes test (vals.pointer a) (vals.pointer b) (keys.pointers a b fits fits') fine
keys_law test _ _ (keys.chans a b fits fits') fine = by_bytes test (vals.chan_number a) (vals.chan_number b) (keys.chans a b fits fits') fine
keys_law test _ _ keys.nils fine = by_bytes test vals.nil_interface vals.nil_interface keys.nils fine
keys_law test _ _ (keys.first_nil of it) fine = by_bytes test vals.nil_interface (vals.dynamic of it) (keys.first_nil of it) fine
keys_law test _ _ (keys.second_nil of it) fine = by_bytes test (vals.dynamic of it) vals.nil_interface (keys.second_nil of it) fine
keys_law test _ _ (keys.dynamics of other a b fits fits' alike) fine = by_bytes test (vals.dynamic of a) (vals.dynamic other b) (keys.dynamics of other a b fits fits' alike) fine
keys_law test _ _ (keys.compounds a b alike) fine = by_bytes test (vals.parts a) (vals.parts b) (keys.compounds a b alike) fine
