-- What is read and written at parts of cells.
use Rattle.std.proofs.Common.{◌≡◌, ap, sym, subst, refl, IsSome, ◌∙◌, map, List, [], ◌∷◌, Option, Some, None, ℕ, zero, suc, ℤ, pos, ◌<◌, ◌≤◌, ◌==◌, length, get_or, Bor, Result, Ok, Err, OnOk, OnErr, slice_get, slice_set, Bool, false, true}
use Rattle.std.specs.Global.{Vec}
use Rattle.std.specs.Option.{option_map, option_and_then, option_copied}
use Rattle.std.specs.Slice.{IsItemAt}
use Rattle.std.proofs.lemmas.Option.{slice_get-map, slice_get_past, slice_get_read, slice_get-get_or}
use Rattle.std.proofs.Math.Dec.{eqb-suc-zero}
use Rattle.std.proofs.lemmas.Bool.{true≢false}
use Rattle.std.specs.Vec.{with_items}
use Rattle.std.proofs.lemmas.List.{length-map, map-set, with_items_is}
use Rattle.go_value.specs.Kinds.{integer, has_parts}
use Rattle.go_value.specs.Values as vals
use Rattle.go_value.specs.Values.{Val, Field, Parts, parts, none, part, parts_of, number, value_of}
use Rattle.go_store.specs.Cells.{held, packed, packed_bytes, place_of, plain_number, value_in, value_at, read_at, changed_in, changed_at, updated, written_at, integer_in}
use Rattle.go_store.specs.declared.cells.Cell.{Cell}
use Rattle.go_store.specs.declared.leaves.Leaf.{Leaf}
use Rattle.go_store.specs.declared.cells.Place.{Place}
use Rattle.go_store.specs.declared.cells.Cell.TheVariants as cells
use Rattle.go_store.proofs.Integers.{integer_from}
use Rattle.go_store.proofs.Held.{one_is, ints_are, bytes_are, many_are, place_is}

-- ---- parts by their places

value_in_fields : (fields : List Field) (k : ℕ) → value_in (parts_of fields) k ≡ option_map (λ f. f.value) (slice_get fields k)
value_in_fields [] k = refl
value_in_fields (f ∷ fields) zero = refl
value_in_fields (f ∷ fields) (suc k) = value_in_fields fields k

option_map_twice : {A B C : Type 0} (f : B → C) (g : A → B) (o : Option A) → option_map f (option_map g o) ≡ option_map (λ x. f (g x)) o
option_map_twice f g None = refl
option_map_twice f g (Some x) = refl

value_in_numbers : (ints : List ℤ) (k : ℕ) → value_in (parts_of (map plain_number ints)) k ≡ option_map number (slice_get ints k)
value_in_numbers ints k = value_in_fields (map plain_number ints) k ∙ ap (option_map (λ (f : Field). f.value)) (slice_get-map plain_number ints k) ∙ option_map_twice (λ (f : Field). f.value) plain_number (slice_get ints k)

held_of : (o : Option Place) → option_map (λ (p : Place). (place_of p).value) o ≡ option_map (λ (p : Place). held p.cell) o
held_of None = refl
held_of (Some p) = ap (λ (f : Field). Some f.value) (place_is p)

value_in_places : (places : List Place) (k : ℕ) → value_in (parts_of (map place_of places)) k ≡ option_map (λ (p : Place). held p.cell) (slice_get places k)
value_in_places places k =
    value_in_fields (map place_of places) k
    ∙ ap (option_map (λ (f : Field). f.value)) (slice_get-map place_of places k)
    ∙ option_map_twice (λ (f : Field). f.value) place_of (slice_get places k)
    ∙ held_of (slice_get places k)

-- ---- what is read

and_then_map : {A B C : Type 0} (f : B → Option C) (g : A → B) (o : Option A) → option_and_then f (option_map g o) ≡ option_and_then (λ x. f (g x)) o
and_then_map f g None = refl
and_then_map f g (Some x) = refl

pub read_many : (places : Vec Place) (step : ℕ) (rest : List ℕ) → read_at (held (cells.Many places)) (step ∷ rest) ≡ option_and_then (λ (p : Place). read_at (held p.cell) rest) (slice_get places.items step)
read_many places step rest =
    ap (λ it. read_at it (step ∷ rest)) (many_are places)
    ∙ ap (option_and_then (λ inner. read_at inner rest)) (value_in_places places.items step)
    ∙ and_then_map (λ inner. read_at inner rest) (λ (p : Place). held p.cell) (slice_get places.items step)

pub read_packed : (ints : List ℤ) (step : ℕ) (rest : List ℕ) → read_at (packed ints) (step ∷ rest) ≡ option_and_then (λ n. read_at (number n) rest) (slice_get ints step)
read_packed ints step rest =
    ap (option_and_then (λ inner. read_at inner rest)) (value_in_numbers ints step)
    ∙ and_then_map (λ inner. read_at inner rest) number (slice_get ints step)

no_part : (it : Val) (step : ℕ) → has_parts it ≡ false → value_at it step ≡ None
no_part (vals.truth a) step h = refl
no_part (vals.number a) step h = refl
no_part (vals.text a) step h = refl
no_part (vals.pointer a) step h = refl
no_part (vals.slice a) step h = refl
no_part (vals.map_number a) step h = refl
no_part (vals.chan_number a) step h = refl
no_part vals.nil_function step h = refl
no_part (vals.closure a b) step h = refl
no_part (vals.bound a b) step h = refl
no_part (vals.expression a b c) step h = refl
no_part vals.nil_interface step h = refl
no_part (vals.dynamic a b) step h = refl
no_part (vals.parts a) step h = cc
no_part (vals.text_range a b) step h = refl
no_part (vals.map_range a b) step h = refl

pub read_one : (leaf : Leaf) (step : ℕ) (rest : List ℕ) → read_at (held (cells.One leaf)) (step ∷ rest) ≡ None
read_one leaf step rest =
    ap (λ it. read_at it (step ∷ rest)) (one_is leaf)
    ∙ ap (option_and_then (λ inner. read_at inner rest)) (no_part (value_of leaf.value) step leaf.whole)

-- ---- what is written

changed_fields : (change : Val → Val) (fields : List Field) (k : ℕ) (f : Field) → slice_get fields k ≡ Some f → changed_in change (parts_of fields) k ≡ parts_of (slice_set fields k (record { value = change f.value; blank = f.blank }))
changed_fields change [] k f h = cc
changed_fields change (g ∷ fields) zero f h = let same : g ≡ f = cc in ap (λ (x : Field). part (change x.value) x.blank (parts_of fields)) same
changed_fields change (g ∷ fields) (suc k) f h = ap (part g.value g.blank) (changed_fields change fields k f h)

place_changed : (change : Val → Val) (rest : List ℕ) (p : Place) (cell : Cell) → held cell ≡ updated change (held p.cell) rest → place_of (record { cell = cell; blank = p.blank }) ≡ record { value = updated change (place_of p).value rest; blank = (place_of p).blank }
place_changed change rest p cell h =
    place_is (record { cell = cell; blank = p.blank })
    ∙ ap (λ v. record { value = v; blank = p.blank }) h
    ∙ sym (ap (λ (f : Field). record { value = updated change f.value rest; blank = f.blank }) (place_is p))

pub write_many : (change : Val → Val) (places : List Place) (step : ℕ) (rest : List ℕ) (p : Place) (cell : Cell) → slice_get places step ≡ Some p → held cell ≡ updated change (held p.cell) rest → parts (parts_of (map place_of (slice_set places step (record { cell = cell; blank = p.blank })))) ≡ updated change (parts (parts_of (map place_of places))) (step ∷ rest)
write_many change places step rest p cell there h =
    ap (λ (fields : List Field). parts (parts_of fields)) (map-set place_of places step (record { cell = cell; blank = p.blank }) ∙ ap (slice_set (map place_of places) step) (place_changed change rest p cell h))
    ∙ ap parts (sym (changed_fields (λ inner. updated change inner rest) (map place_of places) step (place_of p) (slice_get-map place_of places step ∙ ap (option_map place_of) there)))

pub write_packed : (change : Val → Val) (ints : List ℤ) (step : ℕ) (old new : ℤ) → slice_get ints step ≡ Some old → change (number old) ≡ number new → packed (slice_set ints step new) ≡ updated change (packed ints) (step ∷ [])
write_packed change ints step old new there same =
    ap (λ (fields : List Field). parts (parts_of fields)) (map-set plain_number ints step new ∙ ap (λ v. slice_set (map plain_number ints) step (record { value = v; blank = false })) (sym same))
    ∙ ap parts (sym (changed_fields change (map plain_number ints) step (plain_number old) (slice_get-map plain_number ints step ∙ ap (option_map plain_number) there)))

plain_at : (ints : List ℤ) (k : ℕ) (f : Field) → slice_get (map plain_number ints) k ≡ Some f → (n : ℤ) × (f ≡ plain_number n)
plain_at [] k f h = cc
plain_at (n ∷ ints) zero f h = (n, cc)
plain_at (n ∷ ints) (suc k) f h = plain_at ints k f h

pub whole_integer : (leaf : Leaf) → integer (held (cells.One leaf)) ≡ integer (value_of leaf.value)
whole_integer leaf = ap integer (one_is leaf)

pub ints_no_integer : (ints : Vec ℤ) → integer (held (cells.Ints ints)) ≡ None
ints_no_integer ints = ap integer (ints_are ints)

pub bytes_no_integer : (bytes : Vec ℕ) → integer (held (cells.Bytes bytes)) ≡ None
bytes_no_integer bytes = ap integer (bytes_are bytes)

pub many_no_integer : (places : Vec Place) → integer (held (cells.Many places)) ≡ None
many_no_integer places = ap integer (many_are places)

pub ruleset of_integers = (whole_integer, ints_no_integer, bytes_no_integer, many_no_integer)

-- ---- items of lists

pub got : {X : Type 0} (xs : List X) (i : ℕ) (x : X) → i < length xs → x ≡ get_or xs i x → slice_get xs i ≡ Some x
got xs i x below is = slice_get_read xs (length xs) i x refl below is

pub copied_is : {X : Type 0} (xs : List X) (i : ℕ) (r : Option (Bor X)) → IsItemAt xs i r → option_copied r ≡ slice_get xs i
copied_is xs i None h = sym (slice_get_past xs i h.3)
copied_is xs i (Some x) h = sym (slice_get_read xs (length xs) i x.now refl h.3.0 h.1)

none_left : (n : ℕ) → (suc n == 0) ≡ false
none_left n = eqb-suc-zero n

pub empty_list : {X : Type 0} (xs : List X) (b : Bool) → b ≡ (length xs == 0) → b ≡ true → xs ≡ []
empty_list [] b h e = refl
empty_list (x ∷ xs) b h e = absurd (true≢false (sym e ∙ h ∙ none_left (length xs)))

-- ---- what reads give

numbers_are : (o : Option ℤ) → integer_in (option_and_then (λ n. read_at (number n) []) o) ≡ o
numbers_are None = refl
numbers_are (Some n) = refl

pub number_here : (ints : List ℤ) (step : ℕ) (rest : List ℕ) (r : Option ℤ) → rest ≡ [] → r ≡ slice_get ints step → r ≡ integer_in (read_at (packed ints) (step ∷ rest))
number_here ints step rest r end is =
    is ∙ sym (ap (λ rs. integer_in (read_at (packed ints) (step ∷ rs))) end ∙ ap integer_in (read_packed ints step []) ∙ numbers_are (slice_get ints step))

no_numbers : (next : ℕ) (rest : List ℕ) (o : Option ℤ) → integer_in (option_and_then (λ n. read_at (number n) (next ∷ rest)) o) ≡ None
no_numbers next rest None = refl
no_numbers next rest (Some n) = refl

pub no_number_deeper : (ints : List ℤ) (step : ℕ) (rest : List ℕ) (b : Bool) → b ≡ (length rest == 0) → b ≡ false → None ≡ integer_in (read_at (packed ints) (step ∷ rest))
no_number_deeper ints step [] b h e = cc
no_number_deeper ints step (next ∷ rest) b h e = sym (ap integer_in (read_packed ints step (next ∷ rest)) ∙ no_numbers next rest (slice_get ints step))

pub byte_here : (bytes : List ℕ) (step : ℕ) (rest : List ℕ) (b : ℕ) (n : ℤ) → rest ≡ [] → step < length bytes → b ≡ get_or bytes step b → n ≡ pos b → Some n ≡ integer_in (read_at (packed_bytes bytes) (step ∷ rest))
byte_here bytes step rest b n end below is same =
    ap Some same ∙ number_here (map pos bytes) step rest (Some (pos b)) end (sym (slice_get-map pos bytes step ∙ ap (option_map pos) (got bytes step b below is)))

pub byte_past : (bytes : List ℕ) (step : ℕ) (rest : List ℕ) → rest ≡ [] → length bytes ≤ step → None ≡ integer_in (read_at (packed_bytes bytes) (step ∷ rest))
byte_past bytes step rest end past =
    number_here (map pos bytes) step rest None end (sym (slice_get-map pos bytes step ∙ ap (option_map pos) (slice_get_past bytes step past)))

pub some_integer : (o : Option Val) (n : ℤ) → integer_in o ≡ Some n → o ≡ Some (vals.number n)
some_integer None n h = cc
some_integer (Some it) n h = ap Some (integer_from it n (sym h))

pub read_into : (cell : Cell) (steps : List ℕ) (places : Vec Place) (step : ℕ) (rest : List ℕ) (p : Place) → cell ≡ cells.Many places → steps ≡ step ∷ rest → slice_get places.items step ≡ Some p → read_at (held cell) steps ≡ read_at (held p.cell) rest
read_into cell steps places step rest p is split there =
    ap (λ s. read_at (held cell) s) split ∙ ap (λ c. read_at (held c) (step ∷ rest)) is ∙ read_many places step rest ∙ ap (option_and_then (λ (p : Place). read_at (held p.cell) rest)) there

pub read_past : (cell : Cell) (steps : List ℕ) (places : Vec Place) (step : ℕ) (rest : List ℕ) → cell ≡ cells.Many places → steps ≡ step ∷ rest → slice_get places.items step ≡ None → read_at (held cell) steps ≡ None
read_past cell steps places step rest is split there =
    ap (λ s. read_at (held cell) s) split ∙ ap (λ c. read_at (held c) (step ∷ rest)) is ∙ read_many places step rest ∙ ap (option_and_then (λ (p : Place). read_at (held p.cell) rest)) there

pub read_ints : (cell : Cell) (steps : List ℕ) (ints : Vec ℤ) (step : ℕ) (rest : List ℕ) → cell ≡ cells.Ints ints → steps ≡ step ∷ rest → read_at (held cell) steps ≡ read_at (packed ints.items) (step ∷ rest)
read_ints cell steps ints step rest is split = ap (λ s. read_at (held cell) s) split ∙ ap (λ c. read_at (held c) (step ∷ rest)) is ∙ ap (λ it. read_at it (step ∷ rest)) (ints_are ints)

pub read_bytes : (cell : Cell) (steps : List ℕ) (bytes : Vec ℕ) (step : ℕ) (rest : List ℕ) → cell ≡ cells.Bytes bytes → steps ≡ step ∷ rest → read_at (held cell) steps ≡ read_at (packed_bytes bytes.items) (step ∷ rest)
read_bytes cell steps bytes step rest is split = ap (λ s. read_at (held cell) s) split ∙ ap (λ c. read_at (held c) (step ∷ rest)) is ∙ ap (λ it. read_at it (step ∷ rest)) (bytes_are bytes)

pub read_leaf : (cell : Cell) (steps : List ℕ) (leaf : Leaf) (step : ℕ) (rest : List ℕ) → cell ≡ cells.One leaf → steps ≡ step ∷ rest → read_at (held cell) steps ≡ None
read_leaf cell steps leaf step rest is split = ap (λ s. read_at (held cell) s) split ∙ ap (λ c. read_at (held c) (step ∷ rest)) is ∙ read_one leaf step rest

-- ---- what writes give

pub there : (ints : List ℤ) (step : ℕ) → step < length ints → slice_get ints step ≡ Some (get_or ints step (pos 0))
there ints step below = slice_get-get_or ints step (pos 0) below

pub number_written : (change : Val → Val) (ints : List ℤ) (step : ℕ) (rest : List ℕ) (n : ℤ) → ((old : ℤ) → change (vals.number old) ≡ vals.number n) → rest ≡ [] → step < length ints → packed (slice_set ints step n) ≡ updated change (packed ints) (step ∷ rest)
number_written change ints step rest n same end below =
    write_packed change ints step (get_or ints step (pos 0)) n (there ints step below) (same _) ∙ sym (ap (λ rs. updated change (packed ints) (step ∷ rs)) end)

pub number_there : (ints : List ℤ) (step : ℕ) (rest : List ℕ) → rest ≡ [] → step < length ints → read_at (packed ints) (step ∷ rest) ≡ Some (vals.number (get_or ints step (pos 0)))
number_there ints step rest end below =
    ap (λ rs. read_at (packed ints) (step ∷ rs)) end ∙ read_packed ints step [] ∙ ap (option_and_then (λ n. read_at (number n) [])) (there ints step below)

below_mapped : (bytes : List ℕ) (step : ℕ) → step < length bytes → step < length (map pos bytes)
below_mapped bytes step below = subst (λ n. step < n) (sym (length-map bytes pos)) below

pub byte_set : (bytes : List ℕ) (step : ℕ) (rest : List ℕ) (b : ℕ) → rest ≡ [] → step < length bytes → packed_bytes (slice_set bytes step b) ≡ written_at (vals.number (pos b)) (packed_bytes bytes) (step ∷ rest)
byte_set bytes step rest b end below =
    ap packed (map-set pos bytes step b)
    ∙ number_written (λ _. vals.number (pos b)) (map pos bytes) step rest (pos b) (λ old. refl) end (below_mapped bytes step below)

pub byte_there : (bytes : List ℕ) (step : ℕ) (rest : List ℕ) → rest ≡ [] → step < length bytes → IsSome (read_at (packed_bytes bytes) (step ∷ rest))
byte_there bytes step rest end below =
    subst (λ o. IsSome o) (sym (number_there (map pos bytes) step rest end (below_mapped bytes step below))) refl

pub updated_into : (change : Val → Val) (cell : Cell) (steps : List ℕ) (places : Vec Place) (step : ℕ) (rest : List ℕ) → cell ≡ cells.Many places → steps ≡ step ∷ rest → updated change (held cell) steps ≡ updated change (parts (parts_of (map place_of places.items))) (step ∷ rest)
updated_into change cell steps places step rest is split = ap (λ s. updated change (held cell) s) split ∙ ap (λ c. updated change (held c) (step ∷ rest)) is ∙ ap (λ it. updated change it (step ∷ rest)) (many_are places)

pub updated_ints : (change : Val → Val) (cell : Cell) (steps : List ℕ) (ints : Vec ℤ) (step : ℕ) (rest : List ℕ) → cell ≡ cells.Ints ints → steps ≡ step ∷ rest → updated change (held cell) steps ≡ updated change (packed ints.items) (step ∷ rest)
updated_ints change cell steps ints step rest is split = ap (λ s. updated change (held cell) s) split ∙ ap (λ c. updated change (held c) (step ∷ rest)) is ∙ ap (λ it. updated change it (step ∷ rest)) (ints_are ints)

-- a place of an array is written
pub place_written : (change : Val → Val) (cell : Cell) (steps : List ℕ) (places : Vec Place) (step : ℕ) (rest : List ℕ) (p : Place) (new : Cell) (after : Vec Place) → cell ≡ cells.Many places → steps ≡ step ∷ rest → slice_get places.items step ≡ Some p → held new ≡ updated change (held p.cell) rest → after.items ≡ slice_set places.items step (record { cell = new; blank = p.blank }) → held (cells.Many after) ≡ updated change (held cell) steps
place_written change cell steps places step rest p new after is split there same set =
    many_are after
    ∙ ap (λ (items : List Place). parts (parts_of (map place_of items))) set
    ∙ write_many change places.items step rest p new there same
    ∙ sym (updated_into change cell steps places step rest is split)

pub past_get : {X : Type 0} (xs ys : List X) (i : ℕ) → xs ≡ ys → length xs ≤ i → slice_get ys i ≡ None
past_get {X} xs ys i same past = ap (λ zs. slice_get zs i) (sym same) ∙ slice_get_past xs i past

pub on_ok : {A E P Q : Type 0} (r : Result A E) → OnOk r P → (P → Q) → OnOk r Q
on_ok (Ok x) h f = f h
on_ok (Err e) h f = h

pub on_err : {A E P Q : Type 0} (r : Result A E) → OnErr r P → (P → Q) → OnErr r Q
on_err (Ok x) h f = h
on_err (Err e) h f = f h

pub ints_written : (change : Val → Val) (cell : Cell) (steps : List ℕ) (ints v : Vec ℤ) (step : ℕ) (rest : List ℕ) (new : List ℤ) → v ≡ ints → cell ≡ cells.Ints ints → steps ≡ step ∷ rest → length new ≡ v.len → packed new ≡ updated change (packed ints.items) (step ∷ rest) → held (cells.Ints (with_items v new)) ≡ updated change (held cell) steps
ints_written change cell steps ints v step rest new here is split long same =
    ints_are (with_items v new) ∙ ap packed (with_items_is v new long) ∙ same ∙ sym (updated_ints change cell steps ints step rest is split)

pub ints_same : (cell : Cell) (ints v : Vec ℤ) (new : List ℤ) → v ≡ ints → cell ≡ cells.Ints ints → length new ≡ v.len → new ≡ ints.items → held (cells.Ints (with_items v new)) ≡ held cell
ints_same cell ints v new here is long same = ints_are (with_items v new) ∙ ap packed (with_items_is v new long ∙ same) ∙ sym (ap held is ∙ ints_are ints)

updated_bytes : (change : Val → Val) (cell : Cell) (bytes : Vec ℕ) (steps : List ℕ) → cell ≡ cells.Bytes bytes → updated change (held cell) steps ≡ updated change (packed_bytes bytes.items) steps
updated_bytes change cell bytes steps is = ap (λ c. updated change (held c) steps) is ∙ ap (λ it. updated change it steps) (bytes_are bytes)

pub bytes_written : (change : Val → Val) (cell : Cell) (bytes v : Vec ℕ) (steps : List ℕ) (new : List ℕ) → v ≡ bytes → cell ≡ cells.Bytes bytes → length new ≡ v.len → packed_bytes new ≡ updated change (packed_bytes bytes.items) steps → held (cells.Bytes (with_items v new)) ≡ updated change (held cell) steps
bytes_written change cell bytes v steps new here is long same =
    bytes_are (with_items v new) ∙ ap packed_bytes (with_items_is v new long) ∙ same ∙ sym (updated_bytes change cell bytes steps is)

pub bytes_same : (cell : Cell) (bytes v : Vec ℕ) (new : List ℕ) → v ≡ bytes → cell ≡ cells.Bytes bytes → length new ≡ v.len → new ≡ bytes.items → held (cells.Bytes (with_items v new)) ≡ held cell
bytes_same cell bytes v new here is long same = bytes_are (with_items v new) ∙ ap packed_bytes (with_items_is v new long ∙ same) ∙ sym (ap held is ∙ bytes_are bytes)

same_parts : (it : Parts) (step : ℕ) → changed_in (λ x. x) it step ≡ it
same_parts none step = refl
same_parts (part it blank rest) zero = refl
same_parts (part it blank rest) (suc step) = ap (part it blank) (same_parts rest step)

same_value : (it : Val) (step : ℕ) → changed_at (λ x. x) it step ≡ it
same_value (vals.truth a) step = refl
same_value (vals.number a) step = refl
same_value (vals.text a) step = refl
same_value (vals.pointer a) step = refl
same_value (vals.slice a) step = refl
same_value (vals.map_number a) step = refl
same_value (vals.chan_number a) step = refl
same_value vals.nil_function step = refl
same_value (vals.closure a b) step = refl
same_value (vals.bound a b) step = refl
same_value (vals.expression a b c) step = refl
same_value vals.nil_interface step = refl
same_value (vals.dynamic a b) step = refl
same_value (vals.parts a) step = ap parts (same_parts a step)
same_value (vals.text_range a b) step = refl
same_value (vals.map_range a b) step = refl

pub place_same : (cell : Cell) (places : Vec Place) (step : ℕ) (p : Place) (new : Cell) (after : Vec Place) → cell ≡ cells.Many places → slice_get places.items step ≡ Some p → held new ≡ held p.cell → after.items ≡ slice_set places.items step (record { cell = new; blank = p.blank }) → held (cells.Many after) ≡ held cell
place_same cell places step p new after is there same set =
    place_written (λ x. x) cell (step ∷ []) places step [] p new after is refl there same set ∙ same_value (held cell) step

pub some_number : (r : Option ℤ) (n : ℤ) (it : Val) → r ≡ integer it → r ≡ Some n → vals.number n ≡ it
some_number r n it is some = sym (integer_from it n (sym some ∙ is))
