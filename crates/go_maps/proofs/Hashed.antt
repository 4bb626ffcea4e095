-- The code of a key and its fault, part by part.
use Rattle.std.proofs.Common.{◌≡◌, ◌<◌, ◌≤◌, ◌+◌, ℕ, ap, refl, sym, ◌∙◌, List, [], ◌∷◌, ◌++◌, Bool, true, false, Option, Some, None, Err, drop, get_or, length, append_assoc}
use Rattle.std.specs.Prelude.{IsTrue, ◌↔◌}
use Rattle.std.proofs.lemmas.Bool.{cond-true, cond-false}
use Rattle.std.proofs.lemmas.List.{append-nil}
use Rattle.go_base.specs.declared.ids.TypeId.{TypeId}
use Rattle.go_type.specs.Comparable.{Comparable}
use Rattle.go_type.specs.Table.{Table}
use Rattle.go_value.specs.declared.faults.Fault.{Fault}
use Rattle.go_value.specs.declared.faults.Fault.TheVariants as fault
use Rattle.go_value.specs.declared.faults.ValueError.{ValueError}
use Rattle.go_value.specs.declared.faults.ValueError.TheVariants as errors
use Rattle.go_value.specs.Values as vals
use Rattle.go_value.specs.Values.{Val, Field, Typed, parts_of, part}
use Rattle.go_maps.specs.Equality.{TellsComparable}
use Rattle.go_maps.specs.Keys.{code, parts_code, part_code, number_code, unhashable, unhashable_in, unhashable_part, first_fault, TellsFault}
use Rattle.go_maps.proofs.KindsOf.{kind, interfaces, compounds}
use Rattle.go_maps.proofs.Sames.{told, not_told, next_part, drop_whole}

-- ---- leaves have no fault

pub leaf_hashes : (test : TypeId → Bool) (v : Val) → (kind v ≡ interfaces → ⊥) → (kind v ≡ compounds → ⊥) → unhashable test v ≡ None
leaf_hashes test (vals.dynamic x y) h h' = absurd (h refl)
leaf_hashes test (vals.parts x) h h' = absurd (h' refl)
leaf_hashes test (vals.truth x) h h' = refl
leaf_hashes test (vals.number x) h h' = refl
leaf_hashes test (vals.text x) h h' = refl
leaf_hashes test (vals.pointer x) h h' = refl
leaf_hashes test (vals.slice x) h h' = refl
leaf_hashes test (vals.map_number x) h h' = refl
leaf_hashes test (vals.chan_number x) h h' = refl
leaf_hashes test vals.nil_function h h' = refl
leaf_hashes test vals.nil_interface h h' = refl
leaf_hashes test (vals.closure x y) h h' = refl
leaf_hashes test (vals.bound x y) h h' = refl
leaf_hashes test (vals.expression x y z) h h' = refl
leaf_hashes test (vals.text_range x y) h h' = refl
leaf_hashes test (vals.map_range x y) h h' = refl

-- ---- values in interfaces

pub dynamic_code : (it : Typed) (old one two new : List ℕ) → one ≡ old ++ 1 ∷ [] → two ≡ one ++ number_code it.of.number → new ≡ two ++ code it.value → new ≡ old ++ code (vals.dynamic it.of it.value)
dynamic_code it old one two new is is' is'' =
    is'' ∙ ap (λ l. l ++ code it.value) is' ∙ ap (λ l. (l ++ number_code it.of.number) ++ code it.value) is
    ∙ append_assoc (old ++ 1 ∷ []) (number_code it.of.number) (code it.value)
    ∙ append_assoc old (1 ∷ []) (number_code it.of.number ++ code it.value)

pub unhashable_type : (types : Table) (test : TypeId → Bool) (it : Typed) (known : Bool) → TellsComparable types test → (IsTrue known ↔ Comparable types it.of) → known ≡ false → unhashable test (vals.dynamic it.of it.value) ≡ Some (fault.Unhashable it.of)
unhashable_type types test it known tells means no_way =
    cond-false (test it.of) _ _ (not_told types test it.of known tells means no_way (test it.of) refl)

pub within_hashes : (types : Table) (test : TypeId → Bool) (it : Typed) (known : Bool) → TellsComparable types test → (IsTrue known ↔ Comparable types it.of) → known ≡ true → unhashable test (vals.dynamic it.of it.value) ≡ unhashable test it.value
within_hashes types test it known tells means yes_way =
    cond-true (test it.of) _ _ (told types test it.of known tells means yes_way)

-- ---- parts

pub blank_code : (p : Field) (old : List ℕ) → p.blank ≡ true → old ≡ old ++ part_code p
blank_code p old is = sym (ap (λ l. old ++ l) (cond-true p.blank _ _ is) ∙ append-nil old)

pub plain_code : (p : Field) → p.blank ≡ false → part_code p ≡ code (p.value)
plain_code p is = cond-false p.blank _ _ is

pub blank_hashes : (test : TypeId → Bool) (p : Field) → p.blank ≡ true → unhashable_part test p ≡ None
blank_hashes test p is = cond-true p.blank _ _ is

pub plain_hashes : (test : TypeId → Bool) (p : Field) → p.blank ≡ false → unhashable_part test p ≡ unhashable test (p.value)
plain_hashes test p is = cond-false p.blank _ _ is

abbrev codes_of : List Field → List ℕ
codes_of xs = parts_code (parts_of xs)

first_code : (v : Val) (b : Bool) (rest : List Field) → parts_code (part v b (parts_of rest)) ≡ part_code (record { value = v; blank = b }) ++ parts_code (parts_of rest)
first_code v true rest = refl
first_code v false rest = refl

first_hashes : (test : TypeId → Bool) (v : Val) (b : Bool) (rest : List Field) → unhashable_in test (part v b (parts_of rest)) ≡ first_fault (unhashable_part test (record { value = v; blank = b })) (unhashable_in test (parts_of rest))
first_hashes test v true rest = refl
first_hashes test v false rest = refl

pub next_code : (xs : List Field) (i : ℕ) (x : Field) (done more all : List ℕ) → done ++ parts_code (parts_of (drop i xs)) ≡ all → i < length xs → x ≡ get_or xs i x → more ≡ done ++ part_code x → more ++ parts_code (parts_of (drop (i + 1) xs)) ≡ all
next_code xs i x done more all before below is pushed =
    ap (λ m. m ++ codes_of (drop (i + 1) xs)) pushed
    ∙ append_assoc done (part_code x) (codes_of (drop (i + 1) xs))
    ∙ ap (λ l. done ++ l) (sym (first_code x.value x.blank (drop (i + 1) xs)))
    ∙ ap (λ (l : List Field). done ++ codes_of l) (sym (next_part xs i x below is))
    ∙ before

pub all_code : (xs : List Field) (i : ℕ) (done all : List ℕ) → done ++ parts_code (parts_of (drop i xs)) ≡ all → length xs ≤ i → done ≡ all
all_code xs i done all before end = sym (append-nil done) ∙ ap (λ (l : List Field). done ++ codes_of l) (sym (drop_whole i xs end)) ∙ before

pub next_hashes : (test : TypeId → Bool) (xs : List Field) (i : ℕ) (x : Field) → i < length xs → x ≡ get_or xs i x → unhashable_in test (parts_of (drop i xs)) ≡ first_fault (unhashable_part test x) (unhashable_in test (parts_of (drop (i + 1) xs)))
next_hashes test xs i x below is =
    ap (λ (l : List Field). unhashable_in test (parts_of l)) (next_part xs i x below is)
    ∙ first_hashes test x.value x.blank (drop (i + 1) xs)

pub passed : (first later : Option Fault) → first ≡ None → first_fault first later ≡ later
passed first later is = ap (λ f. first_fault f later) is

pub failed : (e : ValueError) (first later : Option Fault) → TellsFault {A = Unit {0}} (Err e) first → TellsFault {A = Unit {0}} (Err e) (first_fault first later)
failed (errors.Fault it) first later is = ap (λ f. first_fault f later) is
failed (errors.OutOfMemory) first later is = tt
