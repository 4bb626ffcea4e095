-- The elements of slices, read one by one and written in one run.
use Rattle.std.proofs.Common.{◌≡◌, ◌∙◌, ap, sym, refl, ℕ, zero, suc, ◌+◌, ◌-◌, ◌^◌, ◌<◌, ◌≤◌, List, [], ◌∷◌, ◌++◌}
use Rattle.std.proofs.Common.{length, take}
use Rattle.std.proofs.Common.{drop, map, arith, Option, Some, None, Bool, true, false, slice_get, slice_set}
use Rattle.std.proofs.Common.{slice_index, nat_lt, nat_le, zero-add, suc-add, add-one}
use Rattle.std.proofs.Common.{lt-ltb, le-leb, add-zero, MatchBool}
use Rattle.std.proofs.Common.{ℤ, pos, get_or, min, take_all}
use Rattle.std.proofs.lemmas.Bool.{cases_lt}
use mathlib.Core.Logic.{inl, inr}
use Rattle.std.proofs.lemmas.List.{map-append, nil_from_length}
use Rattle.std.proofs.Math.Dec.{leb-suc-zero}
use Rattle.std.specs.Prelude.{if◌then◌else◌, option_map, Result, Ok, Err, IfOk, IfErr}
use Rattle.std.specs.Option.{option_and_then}
use Rattle.go_base.specs.declared.ids.CellId.{CellId}
use Rattle.go_store.specs.Arrays.{array_of, run_among, run_of, values_in}
use Rattle.go_store.specs.Cells.{read_at, value_at, value_in}
use Rattle.go_store.specs.Slices.{Appends, append_fault, appended_slice, array_at, elements_of, has_room, last_step}
use Rattle.go_store.specs.Slices.{later, run_in, with_run_in}
use Rattle.go_store.specs.Stores.{Stored, loaded}
use Rattle.go_value.specs.Address.{settled}
use Rattle.go_value.specs.Values as vals
use Rattle.go_value.specs.Values.{Val, Parts, none, part}
use Rattle.go_value.specs.declared.address.Pointer.{Pointer}
use Rattle.go_value.specs.declared.address.SliceValue.{SliceValue}
use Rattle.go_value.specs.declared.faults.Fault.{Fault}
use Rattle.go_value.specs.Values.{value_of}
use Rattle.go_value.specs.declared.values.Value.{Value}
use Rattle.go_value.specs.declared.values.Value.TheVariants as values
use Rattle.go_store.specs.Conversions.{numbers_of}
use Rattle.interp_builtins.specs.Done.{IsDoneIn}
use Rattle.interp_state.specs.declared.machine.Met.{Met}
use Rattle.interp_state.specs.declared.machine.Met.TheVariants as met
use Rattle.ssa_mean.proofs.Tied.{appends_one}
use Rattle.ssa_mean.specs.BuiltIns.{Done, append, append_where, appended, overwritten_from}
use Rattle.ssa_mean.specs.Comes.{Comes, to, faults}

-- ---- the last step of a path

put_last : (path : List ℕ) (last n : ℕ) → length path ≡ suc last → slice_set path last n ≡ take last path ++ n ∷ []
put_last [] last n is = let no : ⊥ = omega (arith, is) in absurd no
put_last (x ∷ path) zero n is =
    let none : path ≡ [] = nil_from_length path (omega (arith, is)) in ap (λ rest. n ∷ rest) none
put_last (x ∷ path) (suc last) n is =
    let rest : length path ≡ suc last = omega (arith, is) in ap (λ them. x ∷ them) (put_last path last n rest)

and_then_some : {A : Type 0} (it : Option A) → option_and_then (λ x. Some x) it ≡ it
and_then_some None = refl
and_then_some (Some it) = refl

read_inside : (found : Option Val) (path : List ℕ) (n : ℕ)
    → ((it : Val) → read_at it (path ++ n ∷ []) ≡ option_and_then (λ array. value_at array n) (read_at it path))
    → option_and_then (λ inner. read_at inner (path ++ n ∷ [])) found
    ≡ option_and_then (λ array. value_at array n) (option_and_then (λ inner. read_at inner path) found)
read_inside None path n same = refl
read_inside (Some it) path n same = same it

read_last : (it : Val) (path : List ℕ) (n : ℕ)
    → read_at it (path ++ n ∷ []) ≡ option_and_then (λ array. value_at array n) (read_at it path)
read_last it [] n = and_then_some (value_at it n)
read_last it (step ∷ path) n = read_inside (value_at it step) path n (λ inner. read_last inner path n)

in_cells : (cells : Option Val) (path : List ℕ) (n : ℕ)
    → option_and_then (λ it. read_at it (path ++ n ∷ [])) cells
    ≡ option_and_then (λ array. value_at array n) (option_and_then (λ it. read_at it path) cells)
in_cells None path n = refl
in_cells (Some it) path n = read_last it path n

loaded_last : (store : Stored) (cell : Option CellId) (path : List ℕ) (n : ℕ)
    → loaded store (record { cell = cell; path = path ++ n ∷ [] })
    ≡ option_and_then (λ array. value_at array n) (loaded store (record { cell = cell; path = path }))
loaded_last store None path n = refl
loaded_last store (Some cell) path n = in_cells (slice_get store.cells cell.number) path n

-- a pointer is as good as when it is settled
unsettled : (store : Stored) (cell : Option CellId) (path : List ℕ)
    → loaded store (settled (record { cell = cell; path = path })) ≡ loaded store (record { cell = cell; path = path })
unsettled store None path = refl
unsettled store (Some cell) path = refl

later_is : (at : Pointer) (by : ℕ) → 0 < length at.path → last_step at + by < 2 ^ 32
    → later at by ≡ record { cell = at.cell; path = take (length at.path - 1) at.path ++ (last_step at + by) ∷ [] }
later_is at by some small =
    ap (λ (b : Bool). if b then record at { path = slice_set at.path (length at.path - 1) (last_step at + by) } else at)
    (lt-ltb (last_step at + by) (2 ^ 32) small)
    ∙ ap (λ path. record at { path = path })
    (put_last at.path (length at.path - 1) (last_step at + by) (omega (arith, some)))

loaded_later : (store : Stored) (at : Pointer) (by : ℕ) → 0 < length at.path → last_step at + by < 2 ^ 32
    → loaded store (settled (later at by))
    ≡ option_and_then (λ array. value_at array (last_step at + by)) (loaded store (array_at at))
loaded_later store at by some small =
    ap (λ (p : Pointer). loaded store (settled p)) (later_is at by some small)
    ∙ unsettled store at.cell (take (length at.path - 1) at.path ++ (last_step at + by) ∷ [])
    ∙ loaded_last store at.cell (take (length at.path - 1) at.path) (last_step at + by)

-- ---- one element more

value_is : (them : Parts) (n : ℕ) → value_in them n ≡ slice_get (values_in them) n
value_is none n = refl
value_is (part it blank rest) zero = refl
value_is (part it blank rest) (suc n) = value_is rest n

take_one : {A : Type 0} (xs : List A) (n : ℕ) (it : A) → slice_get xs n ≡ Some it
    → take (suc n) xs ≡ take n xs ++ it ∷ []
take_one [] n it is = cc
take_one (x ∷ xs) zero it is = let same : x ≡ it = cc in ap (λ y. y ∷ []) same
take_one (x ∷ xs) (suc n) it is = ap (λ rest. x ∷ rest) (take_one xs n it is)

get_behind : {A : Type 0} (xs : List A) (first n : ℕ) → slice_get (drop first xs) n ≡ slice_get xs (first + n)
get_behind xs zero n = ap (slice_get xs) (sym (zero-add n))
get_behind [] (suc first) n = refl
get_behind (x ∷ xs) (suc first) n = get_behind xs first n ∙ ap (slice_get (x ∷ xs)) (sym (suc-add first n))

is_within : {A : Type 0} (xs : List A) (n : ℕ) (it : A) → slice_get xs n ≡ Some it → n < length xs
is_within [] n it is = cc
is_within (x ∷ xs) zero it is = omega arith
is_within (x ∷ xs) (suc n) it is = let rest : n < length xs = is_within xs n it is in omega (arith, rest)

-- the first of the elements of an array from a place on, where none may be wanted
abbrev pub first_in : Option Val → ℕ → ℕ → Option (List Val)
first_in array first zero = Some []
first_in array first (suc len) = option_and_then (λ array. run_of array first (suc len)) array

-- the first elements of a slice, so many
abbrev pub first_of : Stored → Pointer → ℕ → Option (List Val)
first_of store at len = first_in (loaded store (array_at at)) (last_step at) len

taken : (b : Bool) (them its : List Val) → (if b then Some them else None) ≡ Some its → them ≡ its
taken true them its is = cc
taken false them its is = cc

were_first : (them : Parts) (first len : ℕ) (its : List Val) → first_in (Some (vals.parts them)) first len ≡ Some its
    → take len (drop first (values_in them)) ≡ its
were_first them first zero its is = cc
were_first them first (suc len) its is =
    taken (nat_le (first + suc len) (length (values_in them))) (take (suc len) (drop first (values_in them))) its is

one_among : (them : Parts) (first len : ℕ) (its : List Val) (it : Val)
    → first_in (Some (vals.parts them)) first len ≡ Some its → slice_get (values_in them) (first + len) ≡ Some it
    → run_among (values_in them) first (suc len) ≡ Some (its ++ it ∷ [])
one_among them first len its it are is =
    let items = values_in them in
    let within : first + len < length items = is_within items (first + len) it is in
    let fits : first + suc len ≤ length items = omega (arith, within) in
    ap (λ (b : Bool). if b then Some (take (suc len) (drop first items)) else None)
    (le-leb (first + suc len) (length items) fits)
    ∙ ap (λ (them : List Val). Some them) (take_one (drop first items) len it (get_behind items first len ∙ is)
    ∙ ap (λ (them : List Val). them ++ it ∷ []) (were_first them first len its are))

no_part : (it : Val) (first len : ℕ) (value : Val) → value_at it (first + len) ≡ Some value
    → (them : Parts) × (it ≡ vals.parts them)
no_part (vals.parts them) first len value is = (them, refl)
no_part (vals.truth a) first len value is = cc
no_part (vals.number a) first len value is = cc
no_part (vals.text a) first len value is = cc
no_part (vals.pointer a) first len value is = cc
no_part (vals.slice a) first len value is = cc
no_part (vals.map_number a) first len value is = cc
no_part (vals.chan_number a) first len value is = cc
no_part vals.nil_function first len value is = cc
no_part (vals.closure a b) first len value is = cc
no_part (vals.bound a b) first len value is = cc
no_part (vals.expression a b c) first len value is = cc
no_part vals.nil_interface first len value is = cc
no_part (vals.dynamic a b) first len value is = cc
no_part (vals.text_range a b) first len value is = cc
no_part (vals.map_range a b) first len value is = cc

in_parts : (them : Parts) (first len : ℕ) (its : List Val) (it : Val)
    → first_in (Some (vals.parts them)) first len ≡ Some its → value_at (vals.parts them) (first + len) ≡ Some it
    → run_of (vals.parts them) first (suc len) ≡ Some (its ++ it ∷ [])
in_parts them first len its it are is = one_among them first len its it are (sym (value_is them (first + len)) ∙ is)

in_array : (array : Option Val) (first len : ℕ) (its : List Val) (it : Val) → first_in array first len ≡ Some its
    → option_and_then (λ array. value_at array (first + len)) array ≡ Some it
    → first_in array first (suc len) ≡ Some (its ++ it ∷ [])
in_array None first len its it are is = cc
in_array (Some array) first len its it are is =
    let (them, same) = no_part array first len it is in
    ap (λ array. run_of array first (suc len)) same
    ∙ in_parts them first len its it (ap (λ array. first_in (Some array) first len) (sym same) ∙ are)
    (ap (λ array. value_at array (first + len)) (sym same) ∙ is)

pub one_more : (store : Stored) (at : Pointer) (len : ℕ) (its : List Val) (it : Val) → 0 < length at.path
    → last_step at + len < 2 ^ 32 → first_of store at len ≡ Some its → loaded store (settled (later at len)) ≡ Some it
    → first_of store at (suc len) ≡ Some (its ++ it ∷ [])
one_more store at len its it some small are is =
    in_array (loaded store (array_at at)) (last_step at) len its it are (sym (loaded_later store at len some small)
    ∙ is)

all_of : (store : Stored) (at : Pointer) (len : ℕ)
    → (if nat_le len 0 then Some [] else run_in store at len) ≡ first_of store at len
all_of store at zero =
    ap (λ (b : Bool). if b then Some [] else run_in store at 0) (le-leb 0 0 (omega arith))
all_of store at (suc len) =
    ap (λ (b : Bool). if b then Some [] else run_in store at (suc len)) (leb-suc-zero len)

-- the elements of a slice are as many first ones as it is long
pub elements_are : (store : Stored) (slice : SliceValue) → elements_of store slice ≡ first_of store slice.at slice.len
elements_are store slice = all_of store slice.at slice.len

-- ---- elements written in one run

same_set : (path : List ℕ) (n : ℕ) → slice_set path n (slice_index path n) ≡ path
same_set [] n = refl
same_set (x ∷ path) zero = refl
same_set (x ∷ path) (suc n) = ap (λ rest. x ∷ rest) (same_set path n)

here : (b : Bool) (at : Pointer) → (if b then record at {
  path = slice_set at.path (length at.path - 1)
      (last_step at + 0);
} else at) ≡ at
here true at =
    ap (λ n. record at { path = slice_set at.path (length at.path - 1) n }) (add-zero (last_step at))
    ∙ ap (λ path. record at { path = path }) (same_set at.path (length at.path - 1))
here false at = refl

later_none : (at : Pointer) → later at 0 ≡ at
later_none at = here (nat_lt (last_step at + 0) (2 ^ 32)) at

when_true : (P Q : Type 0) (b : Bool) → b ≡ true → MatchBool b P Q → P
when_true P Q true is h = h
when_true P Q false is h = cc

-- items that are appended to the empty front of a slice stand in its first places
pub put_first_is : (store new : Stored) (into front : SliceValue) (items : List Val) → front.at ≡ into.at
    → front.len ≡ 0
    → front.cap ≡ length items → Appends 1 store front items new → new ≡ overwritten_from store into items
put_first_is store new into front [] at len cap is = is
put_first_is store new into front (first ∷ items) at len cap is =
    let fits : front.len + length (first ∷ items) ≤ front.cap = omega (arith, len, cap) in
    when_true (new ≡ with_run_in (array_of (first ∷ items)) store (later front.at front.len)) _
    (has_room front (length (first ∷ items)))
    (le-leb (front.len + length (first ∷ items)) front.cap fits) is
    ∙ ap (with_run_in (array_of (first ∷ items)) store)
    (ap (later front.at) len ∙ later_none front.at ∙ at)

-- ---- items behind a slice

abbrev pub appends : ℕ → Stored → SliceValue → List Val → Done
appends leaves old it items =
    record {
      value = Some (vals.slice (appended_slice leaves old it (length items)));
      store = appended leaves old it items;
      written = [];
    }

pub appended_is : (leaves n : ℕ) (old new : Stored) (it made : SliceValue) (items : List Val) → n ≡ length items
    → append_fault leaves it n ≡ None → made ≡ appended_slice leaves old it n → Appends leaves old it items new
    → append leaves old it items ≡ to (record { value = Some (vals.slice made); store = new; written = [] })
appended_is leaves n old new it made items count free is after =
    ap (λ fault. append_where fault (appends leaves old it items)) (ap (append_fault leaves it) (sym count) ∙ free)
    ∙ ap (λ (after : Stored). to (record {
      value = Some (vals.slice (appended_slice leaves old it
          (length items)));
      store = after;
      written = [];
    }))
    (sym (appends_one leaves old it items new after))
    ∙ ap (λ (made : SliceValue). to (record { value = Some (vals.slice made); store = new; written = [] }))
    (ap (appended_slice leaves old it) (sym count) ∙ sym is)

pub append_faults : (leaves n : ℕ) (old : Stored) (it : SliceValue) (items : List Val) (fault : Fault)
    → n ≡ length items
    → append_fault leaves it n ≡ Some fault → append leaves old it items ≡ faults fault
append_faults leaves n old it items fault count is =
    ap (λ fault. append_where fault (appends leaves old it items)) (ap (append_fault leaves it) (sym count) ∙ is)

pub given_slice : (outcome : Result (Option Value) Met) (made : SliceValue) (old new : Stored) (wanted : Comes Done)
    → IfOk outcome (λ it. option_map value_of it ≡ Some (vals.slice made)) → IfErr outcome (λ it. it ≡ met.Memory)
    → wanted ≡ to (record { value = Some (vals.slice made); store = new; written = [] })
    → IsDoneIn outcome old new wanted
given_slice (Ok it) made old new wanted is lost leads =
    leads ∙ ap (λ value. to (record { value = value; store = new; written = [] })) (sym is)
given_slice (Err (met.Fault it)) made old new wanted is lost leads = cc
given_slice (Err met.Memory) made old new wanted is lost leads = tt

pub int_done : (z : ℤ) (n : ℕ) (one two : Stored) → z ≡ pos n → two ≡ one
    → ◌≡◌ {A = Comes Done} (to (record { value = Some (vals.number (pos n)); store = one; written = [] }))
    (to (record { value = Some (value_of (values.Int z)); store = two; written = [] }))
int_done z n one two is same =
    ap (λ it. to (record { value = Some it; store = one; written = [] })) (sym (ap vals.number is))
    ∙ ap (λ (store : Stored). to (record { value = Some (value_of (values.Int z)); store = store; written = [] }))
    (sym same)

-- ---- bytes as values

byte_at : (bytes : List ℕ) (i : ℕ) → i < length bytes → slice_get bytes i ≡ Some (get_or bytes i 0)
byte_at [] i within = let no : ⊥ = omega (arith, within) in absurd no
byte_at (byte ∷ bytes) zero within = refl
byte_at (byte ∷ bytes) (suc i) within = let rest : i < length bytes = omega (arith, within) in byte_at bytes i rest

pub byte_more : (items after : List Value) (bytes : List ℕ) (i : ℕ) (z : ℤ)
    → map value_of items ≡ map vals.number (numbers_of (take i bytes)) → i < length bytes → z ≡ pos (get_or bytes i 0)
    → after ≡ items ++ values.Int z ∷ []
    → map value_of after ≡ map vals.number (numbers_of (take (i + 1) bytes))
byte_more items after bytes i z before within is pushed =
    ap (map value_of) pushed ∙ map-append value_of items (values.Int z ∷ [])
    ∙ ap (λ front. front ++ value_of (values.Int z) ∷ []) before
    ∙ ap (λ it. map vals.number (numbers_of (take i bytes)) ++ it ∷ []) (ap vals.number is)
    ∙ sym (ap (λ n. map vals.number (numbers_of (take n bytes))) (add-one i)
    ∙ ap (λ them. map vals.number (numbers_of them)) (take_one bytes i (get_or bytes i 0) (byte_at bytes i within))
    ∙ ap (map vals.number) (map-append pos (take i bytes) (get_or bytes i 0 ∷ []))
    ∙ map-append vals.number (numbers_of (take i bytes)) (pos (get_or bytes i 0) ∷ []))

-- ---- as many as the shorter one has

take_least : {A : Type 0} (xs : List A) (n : ℕ) → take (min n (length xs)) xs ≡ take n xs
take_least xs n =
    elim (cases_lt n (length xs)) [
      | inl below ↦ let least : min n (length xs) ≡ n = omega (arith, below) in ap (λ k. take k xs) least
      | inr past ↦
          let least : min n (length xs) ≡ length xs = omega (arith, past) in
          ap (λ k. take k xs) least ∙ take_all (length xs) xs (omega arith) ∙ sym (take_all n xs past)
    ]

take_mapped : {A B : Type 0} (f : A → B) (xs : List A) (n : ℕ) → take n (map f xs) ≡ map f (take n xs)
take_mapped f xs zero = refl
take_mapped f [] (suc n) = refl
take_mapped f (x ∷ xs) (suc n) = ap (λ rest. f x ∷ rest) (take_mapped f xs n)

pub first_bytes : (bytes front : List ℕ) (items : List Value) (len : ℕ) → front ≡ take (min len (length bytes)) bytes
    → map value_of items ≡ map vals.number (numbers_of front)
    → map value_of items ≡ take len (map vals.number (numbers_of bytes))
first_bytes bytes front items len is are =
    are ∙ ap (λ them. map vals.number (numbers_of them)) (is ∙ take_least bytes len)
    ∙ sym (take_mapped vals.number (numbers_of bytes) len ∙ ap (map vals.number) (take_mapped pos bytes len))
