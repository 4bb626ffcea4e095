-- Arrays whose elements are read or replaced in a run.
use Rattle.std.proofs.Common.{◌≡◌, ap, sym, subst, refl, ◌∙◌, map, List, [], ◌∷◌, ◌++◌, ℕ, zero, suc, ◌+◌, ◌-◌, ◌≤◌, ℤ, pos, length, replicate, take, drop, arith, Some, None, Result, Ok, Err, OnOk, cond}
use Rattle.std.specs.Global.{Vec}
use Rattle.std.proofs.lemmas.Bool.{le-leb}
use Rattle.std.proofs.lemmas.List.{map-append, length-map, drop-map, take_all}
use Rattle.std.specs.List.{take-map}
use borrow.Rule.Slice.PartMut.{put_mid}
use Rattle.go_value.specs.Values.{Val, Field, parts, part, parts_of, number}
use Rattle.go_store.specs.Arrays.{overwritten, run_of, run_among, values_in, with_elements, with_run}
use Rattle.go_store.specs.Cells.{held, held_in, packed, packed_bytes, spread, place_of, plain_number}
use Rattle.go_store.specs.declared.cells.Place.{Place}
use Rattle.go_store.specs.declared.cells.Cell.{Cell}
use Rattle.go_store.specs.declared.cells.Cell.TheVariants as cells
use Rattle.go_store.proofs.Held.{place_is, ints_are, bytes_are, bytes_parts, many_are, plain_byte, plain_bytes}
use Rattle.go_store.proofs.Lengthened.{extended_fields, plain}

-- ---- what is read

values_numbers : (ints : List ℤ) → values_in (parts_of (map plain_number ints)) ≡ map number ints
values_numbers [] = refl
values_numbers (n ∷ ints) = ap (λ vs. number n ∷ vs) (values_numbers ints)

values_places : (places : List Place) → values_in (parts_of (map place_of places)) ≡ map held_in places
values_places [] = refl
values_places (p ∷ places) = ap (λ (f : Field). f.value ∷ values_in (parts_of (map place_of places))) (place_is p) ∙ ap (λ vs. held_in p ∷ vs) (values_places places)

run_mapped : {X : Type 0} (f : X → Val) (xs : List X) (first len : ℕ) → first + len ≤ length xs → run_among (map f xs) first len ≡ Some (map f (take len (drop first xs)))
run_mapped f xs first len within =
    let long : first + len ≤ length (map f xs) = subst (λ n. first + len ≤ n) (sym (length-map xs f)) within in
    ap (λ b. cond b (Some (take len (drop first (map f xs)))) None) (le-leb (first + len) (length (map f xs)) long)
    ∙ ap Some (ap (take len) (drop-map f first xs) ∙ take-map f len (drop first xs))

pub run_numbers : (ints : List ℤ) (first len : ℕ) → first + len ≤ length ints → run_of (packed ints) first len ≡ Some (map number (take len (drop first ints)))
run_numbers ints first len within = ap (λ vs. run_among vs first len) (values_numbers ints) ∙ run_mapped number ints first len within

pub run_places : (places : List Place) (first len : ℕ) → first + len ≤ length places → run_of (spread places) first len ≡ Some (map held_in (take len (drop first places)))
run_places places first len within = ap (λ vs. run_among vs first len) (values_places places) ∙ run_mapped held_in places first len within

-- ---- what is added

numbers_plain : (ints : List ℤ) → map plain (map number ints) ≡ map plain_number ints
numbers_plain [] = refl
numbers_plain (n ∷ ints) = ap (λ fs. plain_number n ∷ fs) (numbers_plain ints)

pub numbers_pushed : (ints more : List ℤ) → packed (ints ++ more) ≡ with_elements (map number more) (packed ints)
numbers_pushed ints more =
    ap (λ (fields : List Field). parts (parts_of fields)) (map-append plain_number ints more ∙ ap (λ fs. map plain_number ints ++ fs) (sym (numbers_plain more)))
    ∙ ap parts (sym (extended_fields (map number more) (map plain_number ints)))

pub times_mapped : {X Y : Type 0} (f : X → Y) (times : ℕ) (it : X) → map f (replicate times it) ≡ replicate times (f it)
times_mapped f zero it = refl
times_mapped f (suc times) it = ap (λ ys. f it ∷ ys) (times_mapped f times it)

pub number_times : (ints : List ℤ) (times : ℕ) (n : ℤ) → packed (ints ++ replicate times n) ≡ with_elements (replicate times (number n)) (packed ints)
number_times ints times n =
    numbers_pushed ints (replicate times n) ∙ ap (λ vs. with_elements vs (packed ints)) (times_mapped number times n)

pub byte_times : (bytes : List ℕ) (times b : ℕ) → packed_bytes (bytes ++ replicate times b) ≡ with_elements (replicate times (number (pos b))) (packed_bytes bytes)
byte_times bytes times b =
    ap packed (map-append pos bytes (replicate times b) ∙ ap (λ xs. map pos bytes ++ xs) (times_mapped pos times b))
    ∙ number_times (map pos bytes) times (pos b)

-- what is longer than before by so many
pub resized : {X : Type 0} (xs new : List X) (len times room : ℕ) (it : X) → len ≡ length xs → room ≡ len + times → new ≡ take room xs ++ replicate (room - len) it → new ≡ xs ++ replicate times it
resized xs new len times room it long is made =
    let more : room - len ≡ times = omega arith in
    let all : length xs ≤ room = omega arith in
    made ∙ ap (λ ys. ys ++ replicate (room - len) it) (take_all room xs all) ∙ ap (λ n. xs ++ replicate n it) more

-- ---- what is replaced

over_first : {X : Type 0} (f : X → Field) (new xs : List X) → length new ≤ length xs → overwritten (parts_of (map f new)) (parts_of (map f xs)) zero ≡ parts_of (map f (new ++ drop (length new) xs))
over_first f [] [] within = refl
over_first f [] (x ∷ xs) within = refl
over_first f (n ∷ new) [] within = absurd (omega arith)
over_first f (n ∷ new) (x ∷ xs) within =
    let less : length new ≤ length xs = omega arith in
    ap (part (f n).value (f n).blank) (over_first f new xs less)

over : {X : Type 0} (f : X → Field) (new xs : List X) (first : ℕ) → first + length new ≤ length xs → overwritten (parts_of (map f new)) (parts_of (map f xs)) first ≡ parts_of (map f (put_mid first (length new) xs new))
over f new xs zero within =
    let fits : length new ≤ length xs = omega arith in
    over_first f new xs fits
over f [] [] (suc first) within = absurd (omega arith)
over f (n ∷ new) [] (suc first) within = absurd (omega arith)
over f new (x ∷ xs) (suc first) within =
    let less : first + length new ≤ length xs = omega arith in
    ap (part (f x).value (f x).blank) (over f new xs first less)

pub numbers_over : (new ints : List ℤ) (first : ℕ) → first + length new ≤ length ints → packed (put_mid first (length new) ints new) ≡ with_run (packed new) first (packed ints)
numbers_over new ints first within = ap parts (sym (over plain_number new ints first within))

pub bytes_over : (new bytes : List ℕ) (first : ℕ) → first + length new ≤ length bytes → packed_bytes (put_mid first (length new) bytes new) ≡ with_run (packed_bytes new) first (packed_bytes bytes)
bytes_over new bytes first within =
    bytes_parts (put_mid first (length new) bytes new)
    ∙ ap parts (sym (over plain_byte new bytes first within))
    ∙ ap (λ (fields : List Field). parts (overwritten (parts_of fields) (parts_of (map plain_byte bytes)) first)) (sym (plain_bytes new))
    ∙ ap (λ (fields : List Field). parts (overwritten (parts_of (map plain_number (map pos new))) (parts_of fields) first)) (sym (plain_bytes bytes))

pub places_over : (new places : List Place) (first : ℕ) → first + length new ≤ length places → spread (put_mid first (length new) places new) ≡ with_run (spread new) first (spread places)
places_over new places first within = ap parts (sym (over place_of new places first within))

-- ---- of cells

pub ints_run : (cell : Cell) (ints : Vec ℤ) (xs : List ℤ) (first len : ℕ) → cell ≡ cells.Ints ints → xs ≡ ints.items → first + len ≤ length xs → run_of (held cell) first len ≡ Some (map number (take len (drop first xs)))
ints_run cell ints xs first len is same within =
    ap (λ c. run_of (held c) first len) is ∙ ap (λ it. run_of it first len) (ints_are ints ∙ ap packed (sym same)) ∙ run_numbers xs first len within

run_of_bytes : (bytes : List ℕ) (first len : ℕ) → first + len ≤ length bytes → run_of (packed_bytes bytes) first len ≡ Some (map number (map pos (take len (drop first bytes))))
run_of_bytes bytes first len within =
    run_numbers (map pos bytes) first len (subst (λ n. first + len ≤ n) (sym (length-map bytes pos)) within)
    ∙ ap (λ (xs : List ℤ). Some (map number xs)) (ap (take len) (drop-map pos first bytes) ∙ take-map pos len (drop first bytes))

pub bytes_run : (cell : Cell) (bytes : Vec ℕ) (xs : List ℕ) (first len : ℕ) → cell ≡ cells.Bytes bytes → xs ≡ bytes.items → first + len ≤ length xs → run_of (held cell) first len ≡ Some (map number (map pos (take len (drop first xs))))
bytes_run cell bytes xs first len is same within =
    ap (λ c. run_of (held c) first len) is ∙ ap (λ it. run_of it first len) (bytes_are bytes ∙ ap packed_bytes (sym same)) ∙ run_of_bytes xs first len within

pub places_run : (cell : Cell) (places : Vec Place) (xs : List Place) (first len : ℕ) → cell ≡ cells.Many places → xs ≡ places.items → first + len ≤ length xs → run_of (held cell) first len ≡ Some (map held_in (take len (drop first xs)))
places_run cell places xs first len is same within =
    ap (λ c. run_of (held c) first len) is ∙ ap (λ it. run_of it first len) (many_are places ∙ ap spread (sym same)) ∙ run_places xs first len within

pub on_ok_with : {A E P Q R : Type 0} (r : Result A E) → OnOk r P → OnOk r Q → (P → Q → R) → OnOk r R
on_ok_with (Ok x) h k f = f h k
on_ok_with (Err e) h k f = h
