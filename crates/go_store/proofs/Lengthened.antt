-- Arrays with further elements.
use Rattle.std.proofs.Common.{◌≡◌, ap, sym, refl, ◌∙◌, map, List, [], ◌∷◌, ◌++◌, ℕ, ◌+◌, ℤ, pos, ◌<◌, length, take, get_or, replicate, false}
use Rattle.std.specs.Global.{Vec}
use Rattle.std.proofs.lemmas.List.{map-append, take_more, replicate-append-replicate}
use Rattle.go_value.specs.Values as vals
use Rattle.go_value.specs.Values.{Val, Field, Parts, parts, none, part, parts_of, number, value_of}
use Rattle.go_value.specs.declared.values.Value.{Value}
use Rattle.go_store.specs.Arrays.{array_of, elements, extended, with_elements}
use Rattle.go_store.specs.Cells.{held, packed, packed_bytes, spread, place_of, plain_number}
use Rattle.go_store.specs.declared.cells.Cell.{Cell}
use Rattle.go_store.specs.declared.cells.Place.{Place}
use Rattle.go_store.specs.declared.cells.Cell.TheVariants as cells
use Rattle.go_store.proofs.Held.{bytes_are, ints_are, many_are, place_is}

abbrev pub plain : Val → Field
plain it = record { value = it; blank = false }

elements_plain : (items : List Val) → elements items ≡ parts_of (map plain items)
elements_plain [] = refl
elements_plain (it ∷ items) = ap (part it false) (elements_plain items)

pub extended_fields : (items : List Val) (fields : List Field) → extended items (parts_of fields) ≡ parts_of (fields ++ map plain items)
extended_fields items [] = elements_plain items
extended_fields items (f ∷ fields) = ap (part f.value f.blank) (extended_fields items fields)

pub number_pushed : (ints : List ℤ) (n : ℤ) → packed (ints ++ (n ∷ [])) ≡ with_elements (vals.number n ∷ []) (packed ints)
number_pushed ints n = ap (λ (fields : List Field). parts (parts_of fields)) (map-append plain_number ints (n ∷ [])) ∙ ap parts (sym (extended_fields (vals.number n ∷ []) (map plain_number ints)))

pub byte_pushed : (bytes : List ℕ) (b : ℕ) → packed_bytes (bytes ++ (b ∷ [])) ≡ with_elements (vals.number (pos b) ∷ []) (packed_bytes bytes)
byte_pushed bytes b = ap packed (map-append pos bytes (b ∷ [])) ∙ number_pushed (map pos bytes) (pos b)

pub place_pushed : (places : List Place) (cell : Cell) → spread (places ++ (record { cell = cell; blank = false } ∷ [])) ≡ with_elements (held cell ∷ []) (spread places)
place_pushed places cell =
    ap (λ (fields : List Field). parts (parts_of fields)) (map-append place_of places (record { cell = cell; blank = false } ∷ []) ∙ ap (λ f. map place_of places ++ (f ∷ [])) (place_is (record { cell = cell; blank = false })))
    ∙ ap parts (sym (extended_fields (held cell ∷ []) (map place_of places)))

-- ---- one after the other

elements_more : (xs ys : List Val) → extended ys (elements xs) ≡ elements (xs ++ ys)
elements_more [] ys = refl
elements_more (x ∷ xs) ys = ap (part x false) (elements_more xs ys)

extended_more : (xs ys : List Val) (it : Parts) → extended ys (extended xs it) ≡ extended (xs ++ ys) it
extended_more xs ys none = elements_more xs ys
extended_more xs ys (part it blank rest) = ap (part it blank) (extended_more xs ys rest)

pub more : (xs ys : List Val) (it : Val) → with_elements ys (with_elements xs it) ≡ with_elements (xs ++ ys) it
more xs ys (vals.truth a) = refl
more xs ys (vals.number a) = refl
more xs ys (vals.text a) = refl
more xs ys (vals.pointer a) = refl
more xs ys (vals.slice a) = refl
more xs ys (vals.map_number a) = refl
more xs ys (vals.chan_number a) = refl
more xs ys vals.nil_function = refl
more xs ys (vals.closure a b) = refl
more xs ys (vals.bound a b) = refl
more xs ys (vals.expression a b c) = refl
more xs ys vals.nil_interface = refl
more xs ys (vals.dynamic a b) = refl
more xs ys (vals.parts a) = ap parts (extended_more xs ys a)
more xs ys (vals.text_range a b) = refl
more xs ys (vals.map_range a b) = refl

extended_none : (it : Parts) → extended [] it ≡ it
extended_none none = refl
extended_none (part it blank rest) = ap (part it blank) (extended_none rest)

pub no_more : (it : Val) → with_elements [] it ≡ it
no_more (vals.truth a) = refl
no_more (vals.number a) = refl
no_more (vals.text a) = refl
no_more (vals.pointer a) = refl
no_more (vals.slice a) = refl
no_more (vals.map_number a) = refl
no_more (vals.chan_number a) = refl
no_more vals.nil_function = refl
no_more (vals.closure a b) = refl
no_more (vals.bound a b) = refl
no_more (vals.expression a b c) = refl
no_more vals.nil_interface = refl
no_more (vals.dynamic a b) = refl
no_more (vals.parts a) = ap parts (extended_none a)
no_more (vals.text_range a b) = refl
no_more (vals.map_range a b) = refl

-- ---- the next of a list

pub next_item : (items : List Value) (k : ℕ) (it d : Value) (old now after : Val) → now ≡ with_elements (map value_of (take k items)) old → after ≡ with_elements (value_of it ∷ []) now → k < length items → it ≡ get_or items k d → after ≡ with_elements (map value_of (take (k + 1) items)) old
next_item items k it d old now after before step below is =
    step ∙ ap (with_elements (value_of it ∷ [])) before ∙ more (map value_of (take k items)) (value_of it ∷ []) old
    ∙ ap (λ xs. with_elements xs old) (ap (λ x. map value_of (take k items) ++ (value_of x ∷ [])) is ∙ sym (map-append value_of (take k items) (get_or items k d ∷ [])) ∙ ap (map value_of) (sym (take_more items k d below)))

-- ---- without elements

pub ints_empty : (ints : Vec ℤ) → ints.items ≡ [] → held (cells.Ints ints) ≡ array_of []
ints_empty ints none_yet = ints_are ints ∙ ap packed none_yet

pub bytes_empty : (bytes : Vec ℕ) → bytes.items ≡ [] → held (cells.Bytes bytes) ≡ array_of []
bytes_empty bytes none_yet = bytes_are bytes ∙ ap packed_bytes none_yet

pub many_empty : (places : Vec Place) → places.items ≡ [] → held (cells.Many places) ≡ array_of []
many_empty places none_yet = many_are places ∙ ap spread none_yet

-- ---- one value again and again

pub once_more : (k : ℕ) (v old now after : Val) → now ≡ with_elements (replicate k v) old → after ≡ with_elements (v ∷ []) now → after ≡ with_elements (replicate (k + 1) v) old
once_more k v old now after before step =
    step ∙ ap (with_elements (v ∷ [])) before ∙ more (replicate k v) (v ∷ []) old ∙ ap (λ xs. with_elements xs old) (replicate-append-replicate k 1 v)

pub next_of : {X : Type 0} (f : X → Val) (items : List X) (k : ℕ) (it d : X) (old now after : Val) → now ≡ with_elements (map f (take k items)) old → after ≡ with_elements (f it ∷ []) now → k < length items → it ≡ get_or items k d → after ≡ with_elements (map f (take (k + 1) items)) old
next_of f items k it d old now after before step below is =
    step ∙ ap (with_elements (f it ∷ [])) before ∙ more (map f (take k items)) (f it ∷ []) old
    ∙ ap (λ xs. with_elements xs old) (ap (λ x. map f (take k items) ++ (f x ∷ [])) is ∙ sym (map-append f (take k items) (get_or items k d ∷ [])) ∙ ap (map f) (sym (take_more items k d below)))
