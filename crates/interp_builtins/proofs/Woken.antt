-- Those that waited go on.
use Rattle.std.proofs.Common.{◌≡◌, ◌∙◌, ap, sym, refl, ℕ, List, map, Option, Some, None, option_map, slice_get}
use Rattle.std.proofs.Common.{slice_set}
use Rattle.std.proofs.Common.{true, false, Result, Ok, Err, OnOk, ◌<◌, ◌≤◌, length, arith, slice_index_or}
use Rattle.std.proofs.Common.{vec_len, true≢false}
use Rattle.std.proofs.lemmas.Bool.{cases_lt}
use Rattle.std.specs.Global.{Vec}
use Rattle.std.specs.Option.{option_and_then, option_map_or}
use Rattle.std.specs.Vec.{with_item}
use mathlib.Core.Logic.{inl, inr}
use Rattle.std.proofs.lemmas.List.{map-set}
use Rattle.std.proofs.lemmas.Option.{slice_get-map, slice_get_past, slice_get_read}
use Rattle.code_plan.specs.declared.steps.Step.{Step}
use Rattle.go_sched.specs.Operations.{Woken}
use Rattle.interp_builtins.specs.Operations.{gone_at}
use Rattle.interp_state.specs.Machines.{goroutine_of, machine_of}
use Rattle.interp_state.specs.declared.frames.Goroutine as state
use Rattle.interp_state.specs.declared.machine.Machine.{Machine}
use Rattle.plan_mean.specs.Channels.{gone_behind, step_at, woken, woken_goroutine}
use Rattle.plan_mean.specs.State as meant

pub on_ok : {A E P Q : Type 0} (r : Result A E) → OnOk r P → (P → Q) → OnOk r Q
on_ok (Ok x) h f = f h
on_ok (Err e) h f = h

-- ---- goroutines by their numbers

pub found_at : {A : Type 0} (v : Vec A) (n : ℕ) (it : A) → n < vec_len v → it ≡ slice_index_or v.items n it
    → slice_get v.items n ≡ Some it
found_at v n it below is =
    let within : n < length v.items = omega (arith, below, v.ok.0) in slice_get_read v.items
    (length v.items) n it refl within is

pub none_at : {A : Type 0} (v : Vec A) (n : ℕ) → (n < vec_len v → false ≡ true) → slice_get v.items n ≡ None
none_at v n h =
    elim (cases_lt n (vec_len v)) [
      | inl below ↦ absurd (true≢false (sym (h below)))
      | inr past ↦ let beyond : length v.items ≤ n = omega (arith, past, v.ok.0) in slice_get_past v.items n beyond
    ]

-- two goroutines change their places
pub swapped_at : (m : Machine) (n : ℕ) (place x y : state.Goroutine) → slice_get m.goroutines.items n ≡ Some place
    → x ≡ m.current → y ≡ place
    → machine_of (record m { goroutines = with_item m.goroutines n x; current = y }) ≡ meant.swapped n (machine_of m)
swapped_at m n place x y found one other =
    ap (λ x. machine_of (record m { goroutines = with_item m.goroutines n x; current = y })) one
    ∙ ap (λ y. machine_of (record m { goroutines = with_item m.goroutines n m.current; current = y })) other
    ∙ ap (λ others. record (machine_of m) { others = others; current = goroutine_of place })
    (map-set goroutine_of m.goroutines.items n m.current)
    ∙ sym (ap (λ found. option_map_or (λ g. record (machine_of m) {
      others = slice_set (machine_of m).others n (machine_of m).current;
      current = g;
    }) found (machine_of m))
    (slice_get-map goroutine_of m.goroutines.items n ∙ ap (option_map goroutine_of) found))

pub swapped_past : (m : Machine) (n : ℕ) → slice_get m.goroutines.items n ≡ None
    → machine_of m ≡ meant.swapped n (machine_of m)
swapped_past m n none =
    sym (ap (λ found. option_map_or (λ g. record (machine_of m) {
      others = slice_set (machine_of m).others n (machine_of m).current;
      current = g;
    }) found (machine_of m))
    (slice_get-map goroutine_of m.goroutines.items n ∙ ap (option_map goroutine_of) none))

-- ---- those that are woken

-- the goroutine at a number has changed as it is to change
pub changed_at : (them : List state.Goroutine) (place : ℕ) (it after : state.Goroutine)
    (change : meant.Goroutine → meant.Goroutine) → slice_get them place ≡ Some it
    → goroutine_of after ≡ change (goroutine_of it)
    → gone_at place change (map goroutine_of them) ≡ Some (map goroutine_of (slice_set them place after))
changed_at them place it after change found changed =
    ap (option_map (λ g. slice_set (map goroutine_of them) place (change g)))
    (slice_get-map goroutine_of them place ∙ ap (option_map goroutine_of) found)
    ∙ ap (λ g. Some (slice_set (map goroutine_of them) place g)) (sym changed)
    ∙ ap (λ all. Some all) (sym (map-set goroutine_of them place after))

-- where it waits at a step, it is woken
at_step : (it : Woken) (step : Step) (m : meant.Machine) (found : Option meant.Goroutine) (all : List meant.Goroutine)
    → option_and_then (λ g. step_at g.frames) found ≡ Some step
    → option_map (λ g. slice_set m.others it.goroutine.number (gone_behind it g step)) found ≡ Some all
    → option_map (λ g. record m { others = slice_set m.others it.goroutine.number g }) (option_and_then
    (woken_goroutine it) found)
    ≡ Some (record m { others = all })
at_step it step m None all waits gone = cc
at_step it step m (Some g) all waits gone =
    ap (λ at. option_map (λ g. record m { others = slice_set m.others it.goroutine.number g }) (option_map
    (gone_behind it g) at)) waits
    ∙ ap (option_map (λ all. record m { others = all })) gone

pub woken_is : (it : Woken) (step : Step) (old new : Machine)
    → option_and_then (λ g. step_at g.frames) (slice_get (map goroutine_of old.goroutines.items) it.goroutine.number)
    ≡ Some step
    → gone_at it.goroutine.number (λ g. gone_behind it g step) (map goroutine_of old.goroutines.items)
    ≡ Some (map goroutine_of new.goroutines.items)
    → new ≡ record old { goroutines = new.goroutines } → woken it (machine_of old) ≡ Some (machine_of new)
woken_is it step old new waits gone others =
    at_step it step (machine_of old) (slice_get (map goroutine_of old.goroutines.items) it.goroutine.number)
    (map goroutine_of new.goroutines.items) waits gone
    ∙ ap (λ (m : Machine). Some (machine_of m)) (sym others)
