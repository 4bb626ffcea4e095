-- The slots of a new frame: its arguments, the values of its free variables, and registers that are not written yet.
use Rattle.std.proofs.Common.{◌≡◌, ℕ, zero, suc, ◌+◌, ◌<◌, ◌≤◌, List, [], ◌∷◌, Option, Some, None, ap, refl, sym}
use Rattle.std.proofs.Common.{◌∙◌, arith}
use Rattle.std.proofs.lemmas.List.{length-replicate}
use Rattle.std.specs.Prelude.{length, replicate, slice_get, slice_set}
use Rattle.std.specs.Option.{option_flatten}
use Rattle.go_value.specs.Values.{Val}
use Rattle.plan_laws.proofs.Alike.{slot_of}
use Rattle.plan_laws.proofs.Lists.{get_set_other, length_set}
use Rattle.plan_mean.specs.Slots.{with_slot, with_slots_from}

-- ---- a row in which slots from one on hold values

pub put_from : ℕ → List Val → List (Option Val) → List (Option Val)
put_from slot [] row = row
put_from slot (it ∷ others) row = slice_set (put_from (suc slot) others row) slot (Some it)

pub put_on_top : (slot : ℕ) (its : List Val) (row : List (Option Val)) (rows : List (List (Option Val)))
    → with_slots_from slot its (row ∷ rows) ≡ put_from slot its row ∷ rows
unfolding put_from
put_on_top slot [] row rows = refl
put_on_top slot (it ∷ others) row rows = ap (with_slot slot it) (put_on_top (suc slot) others row rows)

pub length_put : (slot : ℕ) (its : List Val) (row : List (Option Val)) → length (put_from slot its row) ≡ length row
unfolding put_from
length_put slot [] row = refl
length_put slot (it ∷ others) row =
    length_set (put_from (suc slot) others row) slot (Some it) ∙ length_put (suc slot) others row

set_there : {A : Type 0} → (xs : List A) (n : ℕ) (x : A) → n < length xs → slice_get (slice_set xs n x) n ≡ Some x
set_there [] n x h = absurd (omega arith)
set_there (y ∷ ys) zero x h = refl
set_there (y ∷ ys) (suc n) x h = set_there ys n x (omega arith)

-- slots before them stay
pub put_behind : (slot : ℕ) (its : List Val) (row : List (Option Val)) (n : ℕ) → n < slot
    → slice_get (put_from slot its row) n ≡ slice_get row n
unfolding put_from
put_behind slot [] row n h = refl
put_behind slot (it ∷ others) row n h =
    get_set_other (put_from (suc slot) others row) slot n (Some it) (λ same. omega arith)
    ∙ put_behind (suc slot) others row n (omega arith)

-- and those after them
pub put_before : (slot : ℕ) (its : List Val) (row : List (Option Val)) (n : ℕ) → slot + length its ≤ n
    → slice_get (put_from slot its row) n ≡ slice_get row n
unfolding put_from
put_before slot [] row n h = refl
put_before slot (it ∷ others) row n h =
    get_set_other (put_from (suc slot) others row) slot n (Some it) (λ same. omega arith)
    ∙ put_before (suc slot) others row n (omega arith)

pub put_at : (slot : ℕ) (its : List Val) (row : List (Option Val)) (n : ℕ) → slot + length its ≤ length row
    → n < length its → slot_of (put_from slot its row) (slot + n) ≡ slice_get its n
unfolding put_from
put_at slot [] row n within h = absurd (omega arith)
put_at slot (it ∷ others) row zero within h =
    let same : length (put_from (suc slot) others row) ≡ length row = length_put (suc slot) others row in
    let there : slot < length (put_from (suc slot) others row) = omega arith in
    let begin : slot + 0 ≡ slot = omega arith in
    ap (λ (n : ℕ). slot_of (slice_set (put_from (suc slot) others row) slot (Some it)) n) begin
    ∙ ap option_flatten (set_there (put_from (suc slot) others row) slot (Some it) there)
put_at slot (it ∷ others) row (suc n) within h =
    let next : slot + suc n ≡ suc slot + n = omega arith in
    ap option_flatten (get_set_other (put_from (suc slot) others row) slot (slot + suc n) (Some it) (λ same. omega arith))
    ∙ (ap (slot_of (put_from (suc slot) others row)) next ∙ put_at (suc slot) others row n (omega arith) (omega arith))

-- ---- a row that is not written yet

pub not_written : (count n : ℕ) → slot_of (replicate count None) n ≡ None
not_written zero n = refl
not_written (suc count) zero = refl
not_written (suc count) (suc n) = not_written count n

-- ---- the row of a new frame

pub entered_row : ℕ → ℕ → List Val → List Val → List (Option Val)
entered_row params slots arguments free = put_from params free (put_from 0 arguments (replicate slots None))

pub entered_rows : (params slots : ℕ) (arguments free : List Val) (rows : List (List (Option Val)))
    → with_slots_from params free (with_slots_from 0 arguments (replicate slots None ∷ rows))
    ≡ entered_row params slots arguments free ∷ rows
unfolding entered_row
entered_rows params slots arguments free rows =
    ap (with_slots_from params free) (put_on_top 0 arguments (replicate slots None) rows)
    ∙ put_on_top params free (put_from 0 arguments (replicate slots None)) rows

pub entered_count : (params slots : ℕ) (arguments free : List Val) → length (entered_row params slots arguments free) ≡ slots
unfolding entered_row
entered_count params slots arguments free =
    length_put params free (put_from 0 arguments (replicate slots None))
    ∙ (length_put 0 arguments (replicate slots None) ∙ length-replicate slots None)

first_count : (slots : ℕ) (arguments : List Val) → length (put_from 0 arguments (replicate slots None)) ≡ slots
first_count slots arguments = length_put 0 arguments (replicate slots None) ∙ length-replicate slots None

pub entered_parameter : (params slots : ℕ) (arguments free : List Val) → length arguments ≡ params → params ≤ slots → (n : ℕ)
    → n < params → slot_of (entered_row params slots arguments free) n ≡ slice_get arguments n
unfolding entered_row
entered_parameter params slots arguments free p within n h =
    let blank : length (replicate {A = Option Val} slots None) ≡ slots = length-replicate slots None in
    let begin : 0 + n ≡ n = omega arith in
    ap option_flatten (put_behind params free (put_from 0 arguments (replicate slots None)) n h)
    ∙ (ap (slot_of (put_from 0 arguments (replicate slots None))) (sym begin)
    ∙ put_at 0 arguments (replicate slots None) n (omega arith) (omega arith))

pub entered_free : (params slots : ℕ) (arguments free : List Val) → params + length free ≤ slots → (n : ℕ)
    → n < length free → slot_of (entered_row params slots arguments free) (params + n) ≡ slice_get free n
unfolding entered_row
entered_free params slots arguments free within n h =
    let count : length (put_from 0 arguments (replicate slots None)) ≡ slots = first_count slots arguments in
    put_at params free (put_from 0 arguments (replicate slots None)) n (omega arith) h

pub entered_other : (params slots : ℕ) (arguments free : List Val) → length arguments ≡ params → (n : ℕ)
    → params + length free ≤ n → slot_of (entered_row params slots arguments free) n ≡ None
unfolding entered_row
entered_other params slots arguments free p n h =
    ap option_flatten (put_before params free (put_from 0 arguments (replicate slots None)) n h
    ∙ put_before 0 arguments (replicate slots None) n (omega arith))
    ∙ not_written slots n
