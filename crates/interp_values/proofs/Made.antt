-- What the steps that make values come to, by what their parts give.
use Rattle.std.proofs.lemmas.Bool.{false≢true}
use Rattle.std.proofs.Common.{◌≡◌, ◌∙◌, ℕ, ℤ, ◌==◌, List, [], ◌∷◌, ◌++◌, map, Bool, true, false, sym, ap, subst}
use Rattle.std.proofs.Common.{refl}
use Rattle.std.proofs.Common.{Option, Some, None, Result, Ok, Err, IsSome, flat_map, option_map}
use Rattle.std.specs.Result.{IsErrAnd}
use Rattle.std.specs.Prelude.{if◌then◌else◌, unsigned_abs, unwrap_or}
use Rattle.code_plan.specs.declared.steps.Arg.{Arg}
use Rattle.code_plan.specs.declared.steps.Bounds.{Bounds}
use Rattle.code_plan.specs.declared.steps.CutForm.{CutForm}
use Rattle.go_base.specs.declared.ids.FuncId.{FuncId}
use Rattle.go_base.specs.declared.ids.MapId.{MapId}
use Rattle.go_base.specs.declared.ids.TypeId.{TypeId}
use Rattle.go_maps.specs.Entries.{value_of_key, with_pair}
use Rattle.go_maps.specs.Equality.{TellsComparable}
use Rattle.go_maps.specs.Keys.{unhashable, TellsFault}
use Rattle.go_maps.specs.Maps.{map_in, put_fault}
use Rattle.go_sched.specs.Goroutines.{state_of}
use Rattle.go_store.specs.Arrays.{array_of}
use Rattle.go_store.specs.Conversions.{MakesSlice, MakesRunes, within_limit}
use Rattle.go_store.specs.MapCalls.{map_changed}
use Rattle.go_value.specs.Texts.{text_between}
use Rattle.go_store.specs.Slices.{sliced, make_fault, slice_of_new, with_zeros}
use Rattle.go_store.specs.Stores.{Stored, stored, made}
use Rattle.go_type.specs.Table.{Table}
use Rattle.go_value.specs.Gives.{Gives, FaultIs}
use Rattle.go_value.specs.Interfaces.{dynamic_type, is_interface_type}
use Rattle.go_value.specs.Values.{Val, number, text, pointer, slice, map_number, chan_number, nil_function, closure}
use Rattle.go_value.specs.Values.{bound}
use Rattle.go_value.specs.Values.{truth, expression, nil_interface, dynamic, parts, text_range, map_range, value_of}
use Rattle.go_value.specs.declared.address.Pointer.{Pointer}
use Rattle.go_value.specs.declared.address.SliceValue.{SliceValue}
use Rattle.go_value.specs.declared.faults.Fault.{Fault}
use Rattle.go_value.specs.declared.faults.ValueError.{ValueError}
use Rattle.go_value.specs.declared.faults.ValueError.TheVariants as errors
use Rattle.go_value.specs.declared.values.Value.{Value}
use Rattle.interp_state.proofs.Turns.{goes_to, sets, wants, wrote_is, wrote_in, changed}
use Rattle.interp_state.specs.Asked.{AreAsked}
use Rattle.interp_state.specs.Errors.{met_of, met_of_fault}
use Rattle.interp_state.specs.Machines.{machine_of}
use Rattle.interp_state.specs.States.{looked}
use Rattle.interp_state.specs.Turns.{IsIn, ComesTo, Steps, IsUnseen, Gives as GivesTo, Does, IsGiven, IsMade}
use Rattle.interp_state.specs.Turns.{IsChanged}
use Rattle.interp_state.specs.declared.machine.Machine.{Machine}
use Rattle.interp_state.specs.declared.machine.Met.{Met}
use Rattle.interp_state.specs.declared.machine.Met.TheVariants as met
use Rattle.interp_state.specs.declared.machine.Turn.{Turn}
use Rattle.interp_values.specs.Made.{IsMadeChannel, IsPlace}
use Rattle.plan_mean.specs.Channels.{with_sched}
use Rattle.plan_mean.specs.Operands.{look_at_all, with_one, with_bound, with_integer, on_integer}
use Rattle.plan_mean.specs.State.{World, Next, goes, with_value}
use Rattle.plan_mean.specs.Step.{gives, gives_channel, changes, look_up, update, held_as}
use Rattle.plan_mean.specs.Step.{make_closure}
use Rattle.plan_mean.specs.Step.{cut_of, length_of_cut, with_integers}
use Rattle.plan_mean.specs.Unwinding.{meets}
use Rattle.ssa_mean.proofs.Decoded.{runes_one}
use Rattle.ssa_mean.specs.Comes.{Comes, to, of_result, of_option, then_to, where_some}
use Rattle.ssa_mean.specs.Conversions.{Stores, kept, slice_of_ints, slice_of_text, text_of_items, spelling}
use Rattle.ssa_mean.specs.Making.{Channels, value_or, pointers_of, made_where, made_slice}
use Rattle.ssa_mean.specs.Places.{part_between}
use Rattle.ssa_mean.specs.Operands.{with_value as with_first}
use Rattle.go_text.specs.Naming.{Naming}

-- ---- the types of the world

-- the types of a world are those of the code of its machines
pub types_are : (w : World) (m : Machine) → IsIn w m → m.code.now.types ≡ w.naming.types
types_are w m within = ap (λ (naming : Naming). naming.types) within.naming

pub comparable_in : (w : World) (m : Machine) → IsIn w m → TellsComparable m.code.now.types w.answers.comparable
comparable_in w m within =
    subst (λ (types : Table). TellsComparable types w.answers.comparable) (sym (types_are w m within))
    within.answers.comparable

-- ---- maps

pub looked_up : (w : World) (m : Machine) (it key : Arg) (id : Option MapId) (k zero value : Val) (comma_ok : Bool)
    (found : Option Val) → looked m it ≡ Some (map_number id) → looked m key ≡ Some k
    → unhashable w.answers.comparable k ≡ None → found ≡ value_of_key k (map_in (stored m.store).maps id)
    → value ≡ value_or comma_ok found zero
    → where_some (λ it. where_some (λ key. look_up w (stored m.store) zero comma_ok it key) (looked m key))
    (looked m it)
    ≡ to value
looked_up w m it key id k zero value comma_ok found map_is key_is fine found_is value_is =
    let store = stored m.store in
    ap (where_some (λ it. where_some (λ key. look_up w store zero comma_ok it key) (looked m key))) map_is
    ∙ ap (where_some (λ key. look_up w store zero comma_ok (map_number id) key)) key_is
    ∙ rw fine (ap (λ (f : Option Val). to (value_or comma_ok f zero)) (sym found_is) ∙ ap (λ (v : Val). to v)
    (sym value_is))

pub no_lookup : (w : World) (m : Machine) (it key : Arg) (id : Option MapId) (k zero : Val) (comma_ok : Bool)
    (e : ValueError)
    → looked m it ≡ Some (map_number id) → looked m key ≡ Some k
    → TellsFault {A = Option Value} (Err e) (unhashable w.answers.comparable k)
    → IsGiven (Err (met_of e))
    (where_some (λ it. where_some (λ key. look_up w (stored m.store) zero comma_ok it key) (looked m key))
    (looked m it))
no_lookup w m it key id k zero comma_ok (errors.Fault f) map_is key_is is =
    let store = stored m.store in
    ap (where_some (λ it. where_some (λ key. look_up w store zero comma_ok it key) (looked m key))) map_is
    ∙ ap (where_some (λ key. look_up w store zero comma_ok (map_number id) key)) key_is
    ∙ rw is refl
no_lookup w m it key id k zero comma_ok errors.OutOfMemory map_is key_is is = tt

-- the steps of an update: of its map, of its key, and of its value
update_of : (w : World) (m : Machine) (it key new : Arg) → Comes Stored
update_of w m it key new =
    where_some (λ it. where_some (λ key. where_some (update w (stored m.store) it key) (looked m new)) (looked m key))
    (looked m it)

updates : (w : World) (m : Machine) (it key new : Arg) (id : Option MapId) (k v : Val)
    → looked m it ≡ Some (map_number id) → looked m key ≡ Some k → looked m new ≡ Some v
    → update_of w m it key new ≡ update w (stored m.store) (map_number id) k v
unfolding update_of
updates w m it key new id k v map_is key_is value_is =
    ap (where_some (λ it. where_some (λ key. where_some (update w (stored m.store) it key) (looked m new))
    (looked m key))) map_is
    ∙ ap (where_some (λ key. where_some (update w (stored m.store) (map_number id) key) (looked m new))) key_is
    ∙ ap (where_some (update w (stored m.store) (map_number id) k)) value_is

pub update_done : (w : World) (old new : Machine) (it key arg : Arg) (id : Option MapId) (k v : Val) (u : Unit {0})
    → looked old it ≡ Some (map_number id) → looked old key ≡ Some k → looked old arg ≡ Some v
    → put_fault w.answers.comparable id k ≡ None
    → stored new.store ≡ map_changed (with_pair k v) (stored old.store) id → new ≡ record old { store = new.store }
    → IsChanged (Ok u) old new
    (where_some (λ it. where_some (λ key. where_some (update w (stored old.store) it key) (looked old arg))
    (looked old key)) (looked old it))
unfolding update_of
update_done w old new it key arg id k v u map_is key_is value_is fine is others =
    (updates w old it key arg id k v map_is key_is value_is ∙ rw fine (ap (λ (s : Stored). to s) (sym is)), others)

pub no_update : (w : World) (old new : Machine) (it key arg : Arg) (id : Option MapId) (k v : Val) (e : ValueError)
    → looked old it ≡ Some (map_number id) → looked old key ≡ Some k → looked old arg ≡ Some v
    → TellsFault {A = Unit {0}} (Err e) (put_fault w.answers.comparable id k)
    → stored new.store ≡ stored old.store → new ≡ record old { store = new.store }
    → IsChanged (Err (met_of e)) old new
    (where_some (λ it. where_some (λ key. where_some (update w (stored old.store) it key) (looked old arg))
    (looked old key)) (looked old it))
unfolding update_of
no_update w old new it key arg id k v (errors.Fault f) map_is key_is value_is fault same others =
    (updates w old it key arg id k v map_is key_is value_is ∙ rw fault refl, (same, others))
no_update w old new it key arg id k v errors.OutOfMemory map_is key_is value_is fault same others = tt

pub changed_in : (outcome : Result (Unit {0}) Met) (comes : World → Comes Stored) (result : Turn)
    (old mid new : Machine)
    → Does outcome result mid new → ((w : World) → IsIn w old → IsChanged outcome old mid (comes w))
    → Steps result old new (λ w. changes w (machine_of old) (comes w))
changed_in outcome comes result old mid new done is =
    record {
      comes = λ w within. (changed outcome (comes w) result old mid new done (is w within)).comes w within;
    }

-- ---- channels

pub one_is : {A : Type 0} (m : Machine) (it : Arg) (v : Val) (next : Val → Comes A) → looked m it ≡ Some v
    → with_one (machine_of m) it next ≡ next v
one_is m it v next is = ap (where_some next) is

pub integer_is : {A : Type 0} (m : Machine) (it : Arg) (n : ℤ) (next : ℤ → Comes A) → looked m it ≡ Some (number n)
    → with_integer (machine_of m) it next ≡ next n
integer_is m it n next is = ap (where_some (on_integer next)) is

pub sized : {A : Type 0} (none : Bool) (n s : ℕ) (fails made : A) → Some s ≡ (if none then None else Some n)
    → (s ≡ n) × ((if none then fails else made) ≡ made)
sized true n s fails made is = let no : ⊥ = cc in absurd no
sized false n s fails made is = let e : s ≡ n = cc in (e, refl)

pub unsized : {A : Type 0} (none : Bool) (n : ℕ) (fails made : A) → None ≡ (if none then None else Some n)
    → (if none then fails else made) ≡ fails
unsized true n fails made is = refl
unsized false n fails made is = let no : ⊥ = cc in absurd no

pub channel_made : (slot : ℕ) (outcome : Result Value Met) (comes : Comes Channels) (result : Turn)
    (old mid new : Machine)
    → GivesTo slot outcome result mid new → IsMadeChannel outcome old mid comes
    → Steps result old new (λ w. gives_channel w (machine_of old) slot comes)
channel_made slot (Ok it) comes result old mid new given is =
    let one : machine_of new ≡ with_value slot (value_of it) (with_sched (state_of mid.sched) (machine_of old)) =
    wrote_is slot (value_of it) mid new given.1 ∙ ap (with_value slot (value_of it)) (ap machine_of is.1) in
    record {
      comes = λ w within. goes_to w result new (gives_channel w (machine_of old) slot comes) given.0
          (wrote_in w slot (value_of it) mid new given.1 (scheduled_in w old mid is.1 within))
          (ap (gives_channel w (machine_of old) slot) is.0 ∙ ap goes (sym one));
    }
  where
    scheduled_in : (w : World) (old new : Machine) → new ≡ record old { sched = new.sched } → IsIn w old → IsIn w new
    scheduled_in w old new is within =
        subst (λ (m : Machine). IsIn w m) (sym is)
        (record { plan = within.plan; naming = within.naming; answers = within.answers; asked = within.asked })
channel_made slot (Err (met.Fault it)) comes result old mid new given is =
    record {
      comes = λ w within. subst (λ (n : Next). ComesTo w result new n)
          (ap (λ (m : Machine). meets w it (machine_of m)) is.1 ∙ sym (ap (gives_channel w (machine_of old) slot) is.0))
          (given.comes w (subst (λ (m : Machine). IsIn w m) (sym is.1) within));
    }
channel_made slot (Err met.Memory) comes result old mid new given is =
    wants result old new (λ w. gives_channel w (machine_of old) slot comes) given

-- ---- slices

pub slice_made : (old new : Machine) (fault : Option Fault) (it : SliceValue) (value : Value) (made : Stores)
    → fault ≡ None → value_of value ≡ slice it → made ≡ record { value = slice it; store = stored new.store }
    → new ≡ record old { store = new.store } → IsMade (Ok value) old new (made_where fault made)
slice_made old new fault it value made fine value_is made_is others = (
  ap (λ f. made_where f made) fine ∙ ap (λ (m : Stores). to m) made_is
      ∙ ap (λ (v : Val). to (record { value = v; store = stored new.store })) (sym value_is),
  others,
)

pub no_slice : (old new : Machine) (fault : Option Fault) (e : ValueError) (made : Stores)
    → FaultIs {A = SliceValue} (Err e) fault → stored new.store ≡ stored old.store → new ≡ record old
    { store = new.store }
    → IsMade (Err (met_of e)) old new (made_where fault made)
no_slice old new fault (errors.Fault f) made is same others = (ap (λ f. made_where f made) is, (same, others))
no_slice old new fault errors.OutOfMemory made is same others = tt

-- ---- parts of slices and texts

pub place_is : {A : Type 0} (m : Machine) (bound : Option Arg) (it : Option ℤ) (next : Option ℤ → Comes A) → IsPlace m
    bound it
    → with_bound (machine_of m) bound next ≡ next it
place_is m None it next is = ap next (sym is)
place_is m (Some arg) it next is =
    integer_is m arg is.0 (λ n. next (Some n)) is.1.1 ∙ ap next (sym is.1.0)

where_same : {A : Type 0} (next other : Val → Comes A) (found : Option Val) → ((it : Val) → next it ≡ other it)
    → where_some next found ≡ where_some other found
where_same next other None same = refl
where_same next other (Some it) same = same it

pub cut_is : (m : Machine) (form : CutForm) (it : Arg) (bounds : Bounds) (low high max : Option ℤ) → IsPlace m
    bounds.low low
    → IsPlace m bounds.high high → IsPlace m bounds.max max
    → cut_of (machine_of m) form it bounds
    ≡ with_one (machine_of m) it (λ whole. part_between (length_of_cut form) whole
    (record { low = low; high = high; max = max }))
cut_is m form it bounds low high max low_is high_is max_is =
    where_same _ (λ whole. part_between (length_of_cut form) whole (record { low = low; high = high; max = max }))
    (looked m it)
    (λ whole. place_is m bounds.low low _ low_is ∙ place_is m bounds.high high _ high_is ∙ place_is m bounds.max max _
    max_is)

-- what a call gives is given
pub given_by : (e : ValueError) (wanted : Result Val Fault) → Gives {A = Value} {B = Val} value_of (Err e) wanted
    → IsGiven (Err (met_of e)) (of_result wanted)
given_by (errors.Fault f) wanted is = ap of_result is
given_by errors.OutOfMemory wanted is = tt

pub given_as : {A : Type 0} (seen : A → Val) (e : ValueError) (wanted : Result A Fault) → Gives {A = A} {B = A}
    (λ it. it) (Err e) wanted
    → IsGiven (Err (met_of e)) (then_to seen (of_result wanted))
given_as seen (errors.Fault f) wanted is = ap (λ r. then_to seen (of_result r)) is
given_as seen errors.OutOfMemory wanted is = tt

-- ---- conversions

pub text_made : (m : Machine) (bytes_are : Bool) (items : Option (List Val)) (it : List ℕ) (value : Value) → IsSome
    items
    → within_limit (flat_map (spelling bytes_are) (unwrap_or items [])) ≡ Ok it → value_of value ≡ text it
    → where_some (text_of_items bytes_are) items ≡ to (value_of value)
text_made m bytes_are None it value there is value_is = absurd (false≢true there)
text_made m bytes_are (Some them) it value there is value_is =
    ap (λ w. then_to text (of_result w)) is ∙ ap (λ (v : Val). to v) (sym value_is)

pub no_text : (bytes_are : Bool) (items : Option (List Val)) (e : ValueError)
    → Gives {A = List ℕ} {B = List ℕ} (λ bytes. bytes) (Err e)
    (within_limit (flat_map (spelling bytes_are) (unwrap_or items [])))
    → IsGiven (Err (met_of e)) (where_some (text_of_items bytes_are) items)
no_text bytes_are None (errors.Fault f) is = cc
no_text bytes_are (Some them) (errors.Fault f) is = ap (λ w. then_to text (of_result w)) is
no_text bytes_are None errors.OutOfMemory is = tt
no_text bytes_are (Some them) errors.OutOfMemory is = tt

-- what is given is made, where the store stays
pub made_of_given : (m : Machine) (outcome : Result Value Met) (comes : Comes Val) → IsGiven outcome comes
    → IsMade outcome m m (then_to (kept (stored m.store)) comes)
made_of_given m (Ok it) comes is = (ap (then_to (kept (stored m.store))) is, refl)
made_of_given m (Err (met.Fault f)) comes is = (ap (then_to (kept (stored m.store))) is, (refl, refl))
made_of_given m (Err met.Memory) comes is = tt

pub ints_made : (old new : Machine) (ints : List ℤ) (it : SliceValue) (value : Value)
    → MakesSlice (stored old.store) ints (Ok it) (stored new.store) → value_of value ≡ slice it
    → new ≡ record old { store = new.store } → IsMade (Ok value) old new (slice_of_ints (stored old.store) ints)
ints_made old new ints it value makes value_is others = (
  ap (λ w. then_to (λ it. record { value = slice it; store = made (stored old.store) (array_of (map number ints)) })
      (of_result w))
      makes.value
      ∙ ap (λ store. to (record { value = slice it; store = store })) (sym makes.ok)
      ∙ ap (λ (v : Val). to (record { value = v; store = stored new.store })) (sym value_is),
  others,
)

pub no_ints : (old new : Machine) (ints : List ℤ) (e : ValueError)
    → MakesSlice (stored old.store) ints (Err e) (stored new.store)
    → new ≡ record old { store = new.store } → IsMade (Err (met_of e)) old new (slice_of_ints (stored old.store) ints)
no_ints old new ints (errors.Fault f) makes others = (
  ap (λ w. then_to (λ it. record { value = slice it; store = made (stored old.store) (array_of (map number ints)) })
      (of_result w))
      makes.value,
  (makes.err, others),
)
no_ints old new ints errors.OutOfMemory makes others = tt

pub runes_made : (old new : Machine) (bytes : List ℕ) (it : SliceValue) (value : Value)
    → MakesRunes (stored old.store) bytes (Ok it) (stored new.store) → value_of value ≡ slice it
    → new ≡ record old { store = new.store } → IsMade (Ok value) old new (slice_of_text (stored old.store) false bytes)
runes_made old new bytes it value makes value_is others =
    subst (λ ints. IsMade (Ok value) old new (slice_of_ints (stored old.store) ints))
    ((runes_one bytes makes.0).0 makes.1)
    (ints_made old new makes.0 it value makes.2 value_is others)

pub no_runes : (old new : Machine) (bytes : List ℕ) (e : ValueError)
    → MakesRunes (stored old.store) bytes (Err e) (stored new.store)
    → new ≡ record old { store = new.store } → IsMade (Err (met_of e)) old new
    (slice_of_text (stored old.store) false bytes)
no_runes old new bytes e makes others =
    subst (λ ints. IsMade (Err (met_of e)) old new (slice_of_ints (stored old.store) ints))
    ((runes_one bytes makes.0).0 makes.1)
    (no_ints old new makes.0 e makes.2 others)

-- ---- closures

pub pointers_are : (them : List Pointer) → pointers_of (map pointer them) ≡ Some them
pointers_are [] = refl
pointers_are (at ∷ others) = ap (option_map (λ rest. at ∷ rest)) (pointers_are others)

pub closure_made : (m : Machine) (id : FuncId) (args : List Arg) (them : List Pointer)
    → look_at_all (machine_of m) args ≡ Some (map pointer them)
    → make_closure (machine_of m) id args ≡ to (closure id them)
closure_made m id args them is =
    ap (where_some (λ it. then_to (closure id) (of_option (pointers_of it)))) is
    ∙ ap (λ o. then_to (closure id) (of_option o)) (pointers_are them)

joined : (one : Option Val) (rest more : Option (List Val)) (them : List Val) (it : Val)
    → with_first one rest ≡ Some them → ((ys : List Val) → rest ≡ Some ys → more ≡ Some (ys ++ it ∷ []))
    → with_first one more ≡ Some (them ++ it ∷ [])
joined None rest more them it is h = cc
joined (Some x) None more them it is h = cc
joined (Some x) (Some ys) more them it is h =
    let e : x ∷ ys ≡ them = cc in
    ap (with_first (Some x)) (h ys refl) ∙ ap (λ (all : List Val). Some (all ++ it ∷ [])) e

pub one_looked : (m : Machine) (front : List Arg) (arg : Arg) (them : List Val) (it : Val)
    → look_at_all (machine_of m) front ≡ Some them → looked m arg ≡ Some it
    → look_at_all (machine_of m) (front ++ arg ∷ []) ≡ Some (them ++ it ∷ [])
one_looked m [] arg them it front_is is =
    let e : [] ≡ them = cc in
    ap (λ o. with_first o (Some [])) is ∙ ap (λ (all : List Val). Some (all ++ it ∷ [])) e
one_looked m (first ∷ front) arg them it front_is is =
    joined (looked m first) (look_at_all (machine_of m) front) (look_at_all (machine_of m) (front ++ arg ∷ [])) them it
    front_is (λ ys e. one_looked m front arg ys it e is)

-- ---- interfaces

pub not_held : (w : World) (it : Val) (wanted : TypeId) → dynamic_type it ≡ None → held_as w it wanted ≡ None
not_held w (dynamic of it) wanted is = cc
not_held w (truth _) wanted is = refl
not_held w (number _) wanted is = refl
not_held w (text _) wanted is = refl
not_held w (pointer _) wanted is = refl
not_held w (slice _) wanted is = refl
not_held w (map_number _) wanted is = refl
not_held w (chan_number _) wanted is = refl
not_held w nil_function wanted is = refl
not_held w (closure _ _) wanted is = refl
not_held w (bound _ _) wanted is = refl
not_held w (expression _ _ _) wanted is = refl
not_held w nil_interface wanted is = refl
not_held w (parts _) wanted is = refl
not_held w (text_range _ _) wanted is = refl
not_held w (map_range _ _) wanted is = refl

-- one of another type than the dynamic one
pub held_other : (w : World) (v inner : Val) (of wanted : TypeId) → v ≡ dynamic of inner →
    (of.number == wanted.number) ≡ false
    → held_as w v wanted
    ≡ (if is_interface_type w.naming.types wanted then (if w.answers.implements of wanted then Some v else None) else
    None)
held_other w v inner of wanted is other =
    ap (λ (v : Val). held_as w v wanted) is
    ∙ ap (λ (same : Bool). if same then Some inner
    else (if is_interface_type w.naming.types wanted then
    (if w.answers.implements of wanted then Some (dynamic of inner) else None) else None)) other
    ∙ ap (λ (v : Val). if is_interface_type w.naming.types wanted then
    (if w.answers.implements of wanted then Some v else None) else None) (sym is)

-- what is given by a machine that is as another
pub given_unseen : (slot : ℕ) (outcome : Result Value Met) (comes : World → Comes Val) (result : Turn)
    (old mid new : Machine)
    → GivesTo slot outcome result mid new → IsUnseen old mid
    → ((w : World) → IsIn w old → IsGiven outcome (comes w))
    → Steps result old new (λ w. gives w (machine_of old) slot (comes w))
given_unseen slot (Ok it) comes result old mid new given same is =
    record {
      comes = λ w within. subst (λ (n : Next). ComesTo w result new n)
          (ap (λ m. gives w m slot (to (value_of it))) same.machine ∙ ap (gives w (machine_of old) slot)
          (sym (is w within)))
          ((sets result slot (value_of it) mid new given.0 given.1).comes w (same.world w within));
    }
given_unseen slot (Err (met.Fault it)) comes result old mid new given same is =
    record {
      comes = λ w within. subst (λ (n : Next). ComesTo w result new n)
          (ap (λ m. meets w it m) same.machine ∙ ap (gives w (machine_of old) slot) (sym (is w within)))
          (given.comes w (same.world w within));
    }
given_unseen slot (Err met.Memory) comes result old mid new given same is =
    wants result old new (λ w. gives w (machine_of old) slot (comes w)) given

pub asked_unseen : (old new : Machine) → new ≡ record old { implemented = new.implemented }
    → ((w : World) → IsIn w old → AreAsked w.answers.implements new.implemented) → IsUnseen old new
asked_unseen old new is asked =
    record {
      machine = ap machine_of is;
      world = λ w within. subst (λ (m : Machine). IsIn w m) (sym is)
          (record { plan = within.plan; naming = within.naming; answers = within.answers; asked = asked w within });
    }

-- ---- what is met goes on to the caller

pub err_is : {A : Type 0} (P : Result A Met → Type 0) (outcome : Result A Met) (e : ValueError)
    → IsErrAnd outcome (λ it. it ≡ met_of e) → P (Err (met_of e)) → P outcome
err_is P (Ok value) e is given = absurd is
err_is P (Err it) e is given = subst (λ (it : Met). P (Err it)) (sym is) given

pub fault_is : {A : Type 0} (P : Result A Met → Type 0) (outcome : Result A Met) (it : Fault)
    → IsErrAnd outcome (λ e. e ≡ met_of_fault it) → P (Err (met.Fault it)) → P outcome
fault_is P (Ok value) it is given = absurd is
fault_is P (Err e) it is given = subst (λ (e : Met). P (Err e)) (sym is) given

pub integers_are : {A : Type 0} (m : Machine) (first second : Arg) (a b : ℤ) (next : ℤ → ℤ → Comes A)
    → looked m first ≡ Some (number a) → looked m second ≡ Some (number b)
    → with_integers (machine_of m) first second next ≡ next a b
integers_are m first second a b next one two =
    integer_is m first a (λ a. with_integer (machine_of m) second (λ b. next a b)) one
    ∙ integer_is m second b (λ b. next a b) two

pub no_slice_of : (old new : Machine) (len cap : Arg) (leaves : ℕ) (zero : Val) (n m n' m' : ℤ) (e : ValueError)
    → n' ≡ n → m' ≡ m → looked old len ≡ Some (number n) → looked old cap ≡ Some (number m)
    → FaultIs {A = SliceValue} (Err e) (make_fault leaves n' m') → stored new.store ≡ stored old.store
    → new ≡ record old { store = new.store }
    → IsMade (Err (met_of e)) old new (with_integers (machine_of old) len cap
    (made_slice leaves (stored old.store) zero))
no_slice_of old new len cap leaves zero n m n' m' e n_is m_is one two is same others =
    subst (IsMade (Err (met_of e)) old new)
    (sym (integers_are old len cap n m (made_slice leaves (stored old.store) zero) one two))
    (no_slice old new (make_fault leaves n m) e _
    (subst (λ f. FaultIs {A = SliceValue} (Err e) f)
    (ap (λ n. make_fault leaves n m') n_is ∙ ap (make_fault leaves n) m_is) is)
    same others)

pub slice_made_of : (old new : Machine) (len cap : Arg) (leaves : ℕ) (zero : Val) (n m n' m' : ℤ) (it : SliceValue)
    (value : Value)
    → n' ≡ n → m' ≡ m → looked old len ≡ Some (number n) → looked old cap ≡ Some (number m)
    → make_fault leaves n' m' ≡ None → it ≡ slice_of_new (stored old.store) (unsigned_abs n') (unsigned_abs m')
    → stored new.store ≡ with_zeros (stored old.store) zero m' → value_of value ≡ slice it
    → new ≡ record old { store = new.store }
    → IsMade (Ok value) old new (with_integers (machine_of old) len cap (made_slice leaves (stored old.store) zero))
slice_made_of old new len cap leaves zero n m n' m' it value n_is m_is one two fine made_is after value_is others =
    subst (IsMade (Ok value) old new)
    (sym (integers_are old len cap n m (made_slice leaves (stored old.store) zero) one two))
    (slice_made old new (make_fault leaves n m) it value
    (record {
      value = slice (slice_of_new (stored old.store) (unsigned_abs n) (unsigned_abs m));
      store = with_zeros (stored old.store) zero m;
    })
    (sym (ap (λ n. make_fault leaves n m') n_is ∙ ap (make_fault leaves n) m_is) ∙ fine) value_is
    (ap (λ it. record { value = slice it; store = with_zeros (stored old.store) zero m })
    (sym (ap (λ n. slice_of_new (stored old.store) (unsigned_abs n) (unsigned_abs m')) n_is
    ∙ ap (λ m. slice_of_new (stored old.store) (unsigned_abs n) (unsigned_abs m)) m_is) ∙ sym made_is)
    ∙ ap (λ s. record { value = slice it; store = s }) (ap (with_zeros (stored old.store) zero) (sym m_is) ∙ sym after))
    others)

-- ---- places that are told otherwise

pub sliced_as : (it : SliceValue) (low' high' max' low high max : ℤ) → low' ≡ low → high' ≡ high → max' ≡ max
    → sliced it low high max ≡ sliced it low' high' max'
sliced_as it low' high' max' low high max l h m =
    sym (ap (λ n. sliced it n high' max') l ∙ ap (λ n. sliced it low n max') h ∙ ap (λ n. sliced it low high n) m)

pub text_as : (it it' : List ℕ) (low' high' low high : ℤ) → it' ≡ it → low' ≡ low → high' ≡ high
    → text_between it low high ≡ text_between it' low' high'
text_as it it' low' high' low high same l h =
    sym (ap (λ (t : List ℕ). text_between t low' high') same ∙ ap (λ n. text_between it n high') l
    ∙ ap (λ n. text_between it low n) h)
