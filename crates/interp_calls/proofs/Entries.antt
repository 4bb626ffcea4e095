-- Entries of functions, and the turns that they come to.
use Rattle.std.proofs.Common.{◌≡◌, ◌∙◌, ◌≤◌, ◌<◌, ℕ, zero, suc, Some, Bool, true, false, refl, sym, ap, subst}
use Rattle.std.proofs.Common.{arith}
use Rattle.std.proofs.lemmas.Bool.Decides.{nat_tests}
use mathlib.Core.Bool.{true≢false}
use Rattle.std.specs.Prelude.{Result, Ok, Err, IfOk, IfErr, if◌then◌else◌, nat_le, nat_lt, slice_get}
use Rattle.code_plan.specs.declared.steps.Plan.{Plan}
use Rattle.code_plan.specs.declared.steps.PlannedFunction.{PlannedFunction}
use Rattle.go_base.specs.declared.ending.Ending.{Ending}
use Rattle.go_base.specs.declared.ending.Ending.TheVariants as ending
use Rattle.interp_calls.specs.Ways.{IsAdmitted}
use Rattle.interp_state.specs.Machines.{machine_of}
use Rattle.interp_state.specs.States.{Spent}
use Rattle.interp_state.specs.Turns.{IsIn, ComesTo, Steps}
use Rattle.interp_state.specs.declared.machine.Machine.{Machine}
use Rattle.interp_state.specs.declared.machine.Turn.{Turn}
use Rattle.interp_state.specs.declared.machine.Turn.TheVariants as turn
use Rattle.interp_calls.proofs.Calls.{as_said}
use Rattle.plan_mean.specs.Calls.{Entry, enters, enters_role, enters_source, pushed}
use Rattle.plan_mean.specs.State as meant
use Rattle.plan_mean.specs.State.{World, Next, ends, where_there}
use Rattle.plan_mean.specs.Unwinding.{is_source, spends, with_tick}

-- the run ends
pub ends_by : (result : Turn) (old new : Machine) (it : Ending) → result ≡ turn.Ends
    → new ≡ record old { ending = Some it } → Steps result old new (λ w. ends it (machine_of old).output)
ends_by result old new it is same =
    record {
      comes = λ w within. subst (λ (r : Turn). ComesTo w r new (ends it (machine_of old).output)) (sym is)
          (it, (ap (λ (m : Machine). m.ending) same, ap (λ (m : Machine). ends it m.output.items) (sym same)));
    }

-- ---- ticks

unspent : {P : Type 0} (result : Turn) → result ≡ turn.Goes → result ≡ turn.Ends → P
unspent result went ended = let no : ⊥ = cc in absurd no

pub spent_if_goes : (result : Turn) (old new : Machine) → result ≡ turn.Goes
    → (old.ticks ≡ 0 → (result ≡ turn.Ends) × (new ≡ record old { ending = Some ending.Bound }))
    → (0 < old.ticks → (result ≡ turn.Goes) × Spent old new) → Spent old new
spent_if_goes result old new went none spent = by old.ticks refl
  where
    by : (n : ℕ) → old.ticks ≡ n → Spent old new
    by zero is = unspent result went (none is).0
    by (suc n) is = (spent (omega arith)).1

pub with_spent : (old new : Machine) → Spent old new → machine_of new ≡ record (machine_of old) { ticks = new.ticks }
with_spent old new spent = ap machine_of spent.others

pub spent_in : (w : World) (old new : Machine) → Spent old new → IsIn w old → IsIn w new
spent_in w old new spent within =
    subst (λ (m : Machine). IsIn w m) (sym spent.others)
    (record { plan = within.plan; naming = within.naming; answers = within.answers; asked = within.asked })

pub spends_to : (old new : Machine) (next : meant.Machine → Next) → Spent old new
    → spends (machine_of old) next ≡ next (machine_of new)
spends_to old new next spent =
    ap (λ n. with_tick n (machine_of old) next) spent.ticks ∙ ap next (sym (with_spent old new spent))

pub stops : (result : Turn) (old new : Machine) (next : meant.Machine → Next) → (result ≡ turn.Goes → ⊥)
    → (old.ticks ≡ 0 → (result ≡ turn.Ends) × (new ≡ record old { ending = Some ending.Bound }))
    → (0 < old.ticks → (result ≡ turn.Goes) × Spent old new)
    → Steps result old new (λ w. spends (machine_of old) next)
stops result old new next other none spent = by old.ticks refl
  where
    by : (n : ℕ) → old.ticks ≡ n → Steps result old new (λ w. spends (machine_of old) next)
    by zero is =
        subst (λ n. Steps result old new (λ w. with_tick n (machine_of old) next)) (sym is)
        (ends_by result old new ending.Bound (none is).0 (none is).1)
    by (suc n) is = absurd (other (spent (omega arith)).0)

-- ---- source functions

pub overflows : (function : PlannedFunction) (entry : Entry) (result : Turn) (old new : Machine)
    → 100000 ≤ old.current.sources → result ≡ turn.Ends → new ≡ record old { ending = Some ending.StackOverflow }
    → Steps result old new (λ w. enters_source function entry (machine_of old))
overflows function entry result old new many is same =
    let full : nat_le 100000 old.current.sources ≡ true = grind (arith, nat_tests) in
    subst (λ (b : Bool). Steps result old new (λ w. if b then ends ending.StackOverflow (machine_of old).output
    else spends (machine_of old) (pushed function entry))) (sym full)
    (ends_by result old new ending.StackOverflow is same)

pub not_full : (function : PlannedFunction) (entry : Entry) (m : Machine) → m.current.sources < 100000
    → enters_source function entry (machine_of m) ≡ spends (machine_of m) (pushed function entry)
not_full function entry m few =
    let room : nat_le 100000 m.current.sources ≡ false = grind (arith, nat_tests) in
    ap (λ (b : Bool). if b then ends ending.StackOverflow (machine_of m).output
    else spends (machine_of m) (pushed function entry)) room

pub source_admitted : (function : PlannedFunction) (entry : Entry) (old new : Machine) → old.current.sources < 100000
    → Spent old new → IsAdmitted function entry old new (λ w. enters_source function entry (machine_of old))
source_admitted function entry old new few spent =
    let same : new.current.sources ≡ old.current.sources = ap (λ (m : Machine). m.current.sources) spent.others in
    record {
      leads = λ w within. not_full function entry old few ∙ spends_to old new (pushed function entry) spent;
      world = λ w within. spent_in w old new spent within;
      room = λ source. omega arith;
      waiting = ap (λ (m : Machine). m.waiting) spent.others;
    }

pub source_stops : (function : PlannedFunction) (entry : Entry) (result : Turn) (old new : Machine)
    → old.current.sources < 100000 → (result ≡ turn.Goes → ⊥)
    → (old.ticks ≡ 0 → (result ≡ turn.Ends) × (new ≡ record old { ending = Some ending.Bound }))
    → (0 < old.ticks → (result ≡ turn.Goes) × Spent old new)
    → Steps result old new (λ w. enters_source function entry (machine_of old))
source_stops function entry result old new few other none spent =
    subst (λ (n : Next). Steps result old new (λ w. n)) (sym (not_full function entry old few))
    (stops result old new (pushed function entry) other none spent)

-- ---- functions of other kinds

pub plain_admitted : (function : PlannedFunction) (entry : Entry) (m : Machine) → is_source function.role ≡ false
    → ((w : World) → enters_role w function function.role entry (machine_of m) ≡ pushed function entry (machine_of m))
    → IsAdmitted function entry m m (λ w. enters_role w function function.role entry (machine_of m))
plain_admitted function entry m other leads =
    record {
      leads = λ w within. leads w;
      world = λ w within. within;
      room = λ source. let no : ⊥ = true≢false (sym source ∙ other) in absurd no;
      waiting = refl;
    }

-- ---- the limit of embedded interfaces

entered_is : (w : World) (m : Machine) (entry : Entry) (function : PlannedFunction) → IsIn w m
    → slice_get m.plan.now.functions.items entry.function ≡ Some function
    → enters w entry (machine_of m)
    ≡ (if nat_lt 100000 entry.chain then ends ending.StackOverflow (machine_of m).output
    else enters_role w function function.role entry (machine_of m))
entered_is w m entry function within found =
    ap (where_there (λ (function : PlannedFunction). if nat_lt 100000 entry.chain
    then ends ending.StackOverflow (machine_of m).output
    else enters_role w function function.role entry (machine_of m)))
    (ap (λ (plan : Plan). slice_get plan.functions.items entry.function) (sym within.plan) ∙ found)

found_at : (m : Machine) (entry : Entry) (number : ℕ) (function : PlannedFunction) → entry.function ≡ number
    → slice_get m.plan.now.functions.items number ≡ Some function
    → slice_get m.plan.now.functions.items entry.function ≡ Some function
found_at m entry number function is found = ap (slice_get m.plan.now.functions.items) is ∙ found

pub too_far : (result : Turn) (old new : Machine) (entry : Entry) (number chain : ℕ) (function : PlannedFunction)
    → entry.function ≡ number → entry.chain ≡ chain → slice_get old.plan.now.functions.items number ≡ Some function
    → 100000 < chain → result ≡ turn.Ends → new ≡ record old { ending = Some ending.StackOverflow }
    → Steps result old new (λ w. enters w entry (machine_of old))
too_far result old new entry number chain function of_it chained found far is same =
    let far : nat_lt 100000 entry.chain ≡ true = grind (arith, nat_tests) in
    as_said result old new (λ w. enters w entry (machine_of old))
    (λ w. ends ending.StackOverflow (machine_of old).output)
    (λ w within. entered_is w old entry function within (found_at old entry number function of_it found)
    ∙ ap (λ (b : Bool). if b then ends ending.StackOverflow (machine_of old).output
    else enters_role w function function.role entry (machine_of old)) far)
    (ends_by result old new ending.StackOverflow is same)

pub near : (w : World) (m : Machine) (entry : Entry) (number chain : ℕ) (function : PlannedFunction)
    → entry.function ≡ number → entry.chain ≡ chain → slice_get m.plan.now.functions.items number ≡ Some function
    → chain ≤ 100000 → IsIn w m
    → enters w entry (machine_of m) ≡ enters_role w function function.role entry (machine_of m)
near w m entry number chain function of_it chained found few within =
    let few : nat_lt 100000 entry.chain ≡ false = grind (arith, nat_tests) in
    entered_is w m entry function within (found_at m entry number function of_it found)
    ∙ ap (λ (b : Bool). if b then ends ending.StackOverflow (machine_of m).output
    else enters_role w function function.role entry (machine_of m)) few

pub admitted_as : (function : PlannedFunction) (entry : Entry) (old new : Machine) (one other : World → Next)
    → ((w : World) → IsIn w old → one w ≡ other w) → IsAdmitted function entry old new other
    → IsAdmitted function entry old new one
admitted_as function entry old new one other same it =
    record {
      leads = λ w within. same w within ∙ it.leads w within;
      world = it.world;
      room = it.room;
      waiting = it.waiting;
    }

pub if_ok : {A E : Type 0} {P Q : A → Type 0} (r : Result A E) → ((it : A) → P it → Q it) → IfOk r P → IfOk r Q
if_ok (Ok it) next h = next it h
if_ok (Err e) next h = tt

pub if_err : {A E : Type 0} {P Q : E → Type 0} (r : Result A E) → ((it : E) → P it → Q it) → IfErr r P → IfErr r Q
if_err (Ok it) next h = tt
if_err (Err e) next h = next e h
