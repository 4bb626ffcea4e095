-- Switch points in both machines: another goroutine changes its place with the one that runs.
use Rattle.std.proofs.Common.{refl, ap, sym, ◌∙◌, subst, subst₂, length-set, ◌⊎◌, inl, inr}
use Rattle.std.proofs.lemmas.Bool.{cases_eq, eq-eqb, ne_eqb}
use Rattle.std.proofs.lemmas.Option.{none-some, same_Some}
use Rattle.std.specs.Option.{option_map_or}
use Rattle.std.specs.Prelude.{ℕ, zero, suc, ◌≡◌, Bool, List, [], ◌∷◌, Option, Some, None, slice_get, slice_set}
use Rattle.std.specs.Prelude.{if◌then◌else◌}
use Rattle.code_plan.specs.Registers.{Pending}
use Rattle.go_base.specs.declared.ids.GoId.{GoId}
use Rattle.go_sched.specs.Choices.{candidates, at_point, next_among, switched_among, next_at, switched}
use Rattle.go_sched.specs.Goroutines.{State}
use Rattle.go_sched.specs.declared.scheduling.Point.{Point}
use Rattle.go_store.specs.Stores.{Stored}
use Rattle.go_value.specs.declared.faults.Fault.{Fault}
use Rattle.plan_laws.proofs.Alike.{Known, IsKnown, IsMachine, IsAround, IsGoroutine, IsOther, IsPlaceholder}
use Rattle.plan_laws.proofs.Alike.{ArePendingIn, Follows}
use Rattle.plan_laws.proofs.Around.{around_with, there_with}
use Rattle.plan_laws.proofs.Lists.{get_set, get_set_other}
use Rattle.plan_laws.proofs.Throwing.{meets_alike}
use Rattle.plan_mean.specs.State as plans
use Rattle.plan_mean.specs.Unwinding as planned_unwinding
use Rattle.ssa_mean.specs.State as codes
use Rattle.ssa_mean.specs.Unwinding as unwinding

-- ---- what both machines have in common

-- the machine of a plan with what it has in common with that of the code
abbrev pub with_shared : codes.Machine → plans.Machine → plans.Machine
with_shared m q = record q { store = m.store; sched = m.sched; ticks = m.ticks; output = m.output }

pub shared_is : (k : Known) (m : codes.Machine) (q : plans.Machine) → IsAround k m q → with_shared m q ≡ q
shared_is k m q around =
    ap (λ store. record q { store = store; sched = m.sched; ticks = m.ticks; output = m.output }) (sym around.store)
    ∙ ap (λ sched. record q { sched = sched; ticks = m.ticks; output = m.output }) (sym around.sched)
    ∙ ap (λ ticks. record q { ticks = ticks; output = m.output }) (sym around.ticks)
    ∙ ap (λ output. record q { output = output }) (sym around.output)

pub shared_around : (k : Known) (m : codes.Machine) (q : plans.Machine) → IsAround k m q → IsAround k m (with_shared m q)
shared_around k m q it =
    record {
      others = it.others;
      holder = it.holder;
      count = it.count;
      starts = it.starts;
      store = refl;
      sched = refl;
      ticks = refl;
      output = refl;
    }

pub shared_machine : (k : Known) (pending : Pending) (m : codes.Machine) (q : plans.Machine) → IsMachine k pending m q
    → IsMachine k pending m (with_shared m q)
shared_machine k pending m q it =
    record { around = shared_around k m q it.around; g = it.g; there = it.there; is = it.is; held = it.held }

-- ---- nothing is pending

pub none_pending : (k : Known) (store : Stored) (frames : List codes.Frame) → ArePendingIn k store [] frames
none_pending k store [] = tt
none_pending k store (frame ∷ below) = (λ register cell e. absurd (none-some cell e), tt)

-- ---- the goroutine that runs is changed

pub current_machine : (k : Known) (pending : Pending) (m : codes.Machine) (q : plans.Machine) (old g : codes.Goroutine)
    (planned : plans.Goroutine) → IsAround k m q → slice_get m.goroutines m.sched.current.number ≡ Some old
    → IsGoroutine k pending g planned → ArePendingIn k m.store pending g.frames
    → IsMachine k pending (codes.with_current g m) (plans.with_current planned q)
current_machine k pending m q old g planned around there is held =
    record {
      around = around_with k m q around g planned;
      g = g;
      there = there_with m g old there;
      is = is;
      held = held;
    }

-- ---- which goroutine runs next

next_among_is : (all : List ℕ) (state : State) (it : GoId) → next_among all state ≡ Some it
    → (switched_among all state).current ≡ it
next_among_is [] state it is = absurd (none-some it is)
next_among_is (x ∷ xs) state it is = same_Some _ it is

pub next_is : (at : Point) (state : State) (it : GoId) → next_at at state ≡ Some it → (switched at state).current ≡ it
next_is at state it is = next_among_is (candidates at (at_point at state)) (at_point at state) it is

-- ---- where the same goroutine goes on

pub around_sched : (k : Known) (m : codes.Machine) (q : plans.Machine) (sched : State) → IsAround k m q
    → sched.current ≡ m.sched.current → IsAround k (record m { sched = sched }) (record q { sched = sched })
around_sched k m q sched it same =
    record {
      others = λ n other. it.others n (λ e. other (e ∙ ap (λ (id : GoId). id.number) (sym same)));
      holder = subst (λ (id : GoId). IsPlaceholder (slice_get q.others id.number)) (sym same) it.holder;
      count = it.count;
      starts = it.starts;
      store = it.store;
      sched = refl;
      ticks = it.ticks;
      output = it.output;
    }

pub sched_machine : (k : Known) (pending : Pending) (m : codes.Machine) (q : plans.Machine) (sched : State)
    → IsMachine k pending m q → sched.current ≡ m.sched.current
    → IsMachine k pending (record m { sched = sched }) (record q { sched = sched })
sched_machine k pending m q sched it same =
    record {
      around = around_sched k m q sched it.around same;
      g = it.g;
      there = ap (λ (id : GoId). slice_get m.goroutines id.number) same ∙ it.there;
      is = it.is;
      held = it.held;
    }

pub ticks_machine : (k : Known) (pending : Pending) (m : codes.Machine) (q : plans.Machine) (n : ℕ)
    → IsMachine k pending m q → IsMachine k pending (record m { ticks = n }) (record q { ticks = n })
ticks_machine k pending m q n it =
    record {
      around = record {
        others = it.around.others;
        holder = it.around.holder;
        count = it.around.count;
        starts = it.around.starts;
        store = it.around.store;
        sched = it.around.sched;
        ticks = refl;
        output = it.around.output;
      };
      g = it.g;
      there = it.there;
      is = it.is;
      held = it.held;
    }

-- ---- where another goes on

pub holder_there : (it : Option plans.Goroutine) → IsPlaceholder it
    → (planned : plans.Goroutine) × (it ≡ Some planned) × (planned.frames ≡ [])
holder_there None is = absurd is
holder_there (Some planned) is = (planned, refl, is)

pub other_there : (k : Known) (g : codes.Goroutine) (it : Option plans.Goroutine) → IsOther k (Some g) it
    → (planned : plans.Goroutine) × (it ≡ Some planned) × IsGoroutine k [] g planned
other_there k g None is = absurd is
other_there k g (Some planned) is = (planned, refl, is)

swapped_is : (n : ℕ) (q : plans.Machine) (planned : plans.Goroutine) → slice_get q.others n ≡ Some planned
    → plans.swapped n q ≡ record q { others = slice_set q.others n q.current; current = planned }
swapped_is n q planned is =
    ap (λ it. option_map_or (λ g. record q { others = slice_set q.others n q.current; current = g }) it q) is

-- the machine where two have changed their places
abbrev pub exchanged : ℕ → ℕ → plans.Goroutine → plans.Goroutine → plans.Machine → plans.Machine
exchanged before now holder planned q =
    record q { others = slice_set (slice_set q.others before q.current) now holder; current = planned }

changed_is : (before now : ℕ) (q : plans.Machine) (holder planned : plans.Goroutine) → (before ≡ now → ⊥)
    → slice_get q.others before ≡ Some holder → slice_get q.others now ≡ Some planned
    → planned_unwinding.changed before now q ≡ exchanged before now holder planned q
changed_is before now q holder planned other is_holder is =
    ap (λ (same : Bool). if same then q else plans.swapped now (plans.swapped before q)) (ne_eqb before now other)
    ∙ ap (plans.swapped now) (swapped_is before q holder is_holder)
    ∙ swapped_is now (record q { others = slice_set q.others before q.current; current = holder }) planned
    (get_set_other q.others before now q.current (λ e. other (sym e)) ∙ is)

-- the one that ran is among the others now
exchanged_others : (k : Known) (m : codes.Machine) (q : plans.Machine) (now : ℕ) (holder before : plans.Goroutine)
    → IsMachine k [] m q → slice_get q.others m.sched.current.number ≡ Some before → (n : ℕ) → (n ≡ now → ⊥)
    → (n ≡ m.sched.current.number) ⊎ (n ≡ m.sched.current.number → ⊥) → IsOther k (slice_get m.goroutines n)
    (slice_get (slice_set (slice_set q.others m.sched.current.number q.current) now holder) n)
exchanged_others k m q now holder before it there n other (inl same) =
    subst₂ (IsOther k) (sym (ap (slice_get m.goroutines) same ∙ it.there))
    (sym (get_set_other (slice_set q.others m.sched.current.number q.current) now n holder other
    ∙ ap (slice_get (slice_set q.others m.sched.current.number q.current)) same
    ∙ get_set q.others m.sched.current.number q.current before there)) it.is
exchanged_others k m q now holder before it there n other (inr not_same) =
    subst (IsOther k (slice_get m.goroutines n))
    (sym (get_set_other (slice_set q.others m.sched.current.number q.current) now n holder other
    ∙ get_set_other q.others m.sched.current.number n q.current not_same)) (it.around.others n not_same)

exchanged_machine : (k : Known) (m : codes.Machine) (q : plans.Machine) (sched : State) (g : codes.Goroutine)
    (holder planned : plans.Goroutine) → IsMachine k [] m q
    → slice_get q.others m.sched.current.number ≡ Some holder → holder.frames ≡ []
    → (m.sched.current.number ≡ sched.current.number → ⊥) → slice_get m.goroutines sched.current.number ≡ Some g
    → slice_get q.others sched.current.number ≡ Some planned → IsGoroutine k [] g planned
    → IsMachine k [] (record m { sched = sched })
    (exchanged m.sched.current.number sched.current.number holder planned (record q { sched = sched }))
exchanged_machine k m q sched g holder planned it is_holder empty other there planned_there is =
    record {
      around = record {
        others = λ n not_now. exchanged_others k m q sched.current.number holder holder it is_holder n not_now
            (cases_eq n m.sched.current.number);
        holder = subst IsPlaceholder (sym (get_set (slice_set q.others m.sched.current.number q.current)
            sched.current.number holder planned
            (get_set_other q.others m.sched.current.number sched.current.number q.current (λ e. other (sym e))
            ∙ planned_there))) empty;
        count = length-set (slice_set q.others m.sched.current.number q.current) sched.current.number holder
            ∙ length-set q.others m.sched.current.number q.current ∙ it.around.count;
        starts = it.around.starts;
        store = it.around.store;
        sched = refl;
        ticks = it.around.ticks;
        output = it.around.output;
      };
      g = g;
      there = there;
      is = is;
      held = none_pending k m.store g.frames;
    }

another_machine : (k : Known) (m : codes.Machine) (q : plans.Machine) (sched : State) (g : codes.Goroutine)
    → IsMachine k [] m q → (m.sched.current.number ≡ sched.current.number → ⊥)
    → slice_get m.goroutines sched.current.number ≡ Some g
    → IsMachine k [] (record m { sched = sched })
    (planned_unwinding.changed m.sched.current.number sched.current.number (record q { sched = sched }))
another_machine k m q sched g it other there =
    let holder = holder_there (slice_get q.others m.sched.current.number) it.around.holder in
    let next = other_there k g (slice_get q.others sched.current.number)
    (subst (λ one. IsOther k one (slice_get q.others sched.current.number)) there
    (it.around.others sched.current.number (λ e. other (sym e)))) in
    subst (IsMachine k [] (record m { sched = sched }))
    (sym (changed_is m.sched.current.number sched.current.number (record q { sched = sched }) holder.0 next.0 other
    holder.1 next.1))
    (exchanged_machine k m q sched g holder.0 next.0 it holder.1 holder.2 other there next.1 next.2)

changed_machine : (k : Known) (m : codes.Machine) (q : plans.Machine) (sched : State) (g : codes.Goroutine)
    → IsMachine k [] m q → slice_get m.goroutines sched.current.number ≡ Some g
    → (m.sched.current.number ≡ sched.current.number) ⊎ (m.sched.current.number ≡ sched.current.number → ⊥)
    → IsMachine k [] (record m { sched = sched })
    (planned_unwinding.changed m.sched.current.number sched.current.number (record q { sched = sched }))
changed_machine k m q sched g it there (inl same) =
    subst (λ (b : Bool). IsMachine k [] (record m { sched = sched })
    (if b then record q { sched = sched } else plans.swapped sched.current.number
    (plans.swapped m.sched.current.number (record q { sched = sched }))))
    (sym (eq-eqb m.sched.current.number sched.current.number same))
    (sched_machine k [] m q sched it (ap (λ (n : ℕ). record { number = n }) (sym same)))
changed_machine k m q sched g it there (inr other) = another_machine k m q sched g it other there

-- ---- a goroutine goes on, and meets the fault that waits for it

met_alike : (k : Known) → IsKnown k → (m : codes.Machine) (q : plans.Machine) → (it : IsMachine k [] m q)
    → (fault : Option Fault) → it.g.fault ≡ fault
    → Follows k (unwinding.goes_with k.code m it.g fault) (planned_unwinding.goes_with k.w q fault)
met_alike k known m q it None is = ([], it)
met_alike k known m q it (Some fault) is =
    meets_alike k known (codes.with_current (record (it.g) { fault = None }) m)
    (plans.with_current (record (q.current) { fault = None }) q)
    (current_machine k [] m q it.g (record (it.g) { fault = None }) (record (q.current) { fault = None }) it.around
    it.there (record { frames = it.is.frames; begin = it.is.begin; fault = refl; sources = it.is.sources }) it.held)
    fault

pub goes_on_alike : (k : Known) → IsKnown k → (m : codes.Machine) (q : plans.Machine) → IsMachine k [] m q
    → Follows k (unwinding.goes_on k.code m) (planned_unwinding.goes_with k.w q q.current.fault)
goes_on_alike k known m q it =
    subst₂ (λ (there : Option codes.Goroutine) (fault : Option Fault).
    Follows k (codes.where_there (λ g. unwinding.goes_with k.code m g g.fault) there)
    (planned_unwinding.goes_with k.w q fault)) (sym it.there) (sym it.is.fault)
    (met_alike k known m q it it.g.fault refl)

-- ---- switch points

runs_alike : (k : Known) → IsKnown k → (m : codes.Machine) (q : plans.Machine) → IsMachine k [] m q → (sched : State)
    → (there : Option codes.Goroutine) → slice_get m.goroutines sched.current.number ≡ there
    → Follows k (codes.where_there (λ g. unwinding.goes_with k.code (record m { sched = sched }) g g.fault) there)
    (planned_unwinding.runs_on k.w m.sched.current.number (Some sched.current) (record q { sched = sched }))
runs_alike k known m q it sched None is = tt
runs_alike k known m q it sched (Some g) is =
    let after : plans.Machine =
    planned_unwinding.changed m.sched.current.number sched.current.number (record q { sched = sched }) in
    subst (λ (there : Option codes.Goroutine). Follows k
    (codes.where_there (λ g. unwinding.goes_with k.code (record m { sched = sched }) g g.fault) there)
    (planned_unwinding.goes_with k.w after after.current.fault)) is
    (goes_on_alike k known (record m { sched = sched }) after
    (changed_machine k m q sched g it is (cases_eq m.sched.current.number sched.current.number)))

chosen_alike : (k : Known) → IsKnown k → (m : codes.Machine) (q : plans.Machine) → IsMachine k [] m q → (sched : State)
    → q.output ≡ m.output → (next : Option GoId) → ((it : GoId) → next ≡ Some it → sched.current ≡ it)
    → Follows k (unwinding.chosen k.code next (record m { sched = sched }))
    (planned_unwinding.runs_on k.w m.sched.current.number next (record q { sched = sched }))
chosen_alike k known m q it sched output None is = (refl, output)
chosen_alike k known m q it sched output (Some next) is =
    subst (λ (one : GoId). Follows k (unwinding.goes_on k.code (record m { sched = sched }))
    (planned_unwinding.runs_on k.w m.sched.current.number (Some one) (record q { sched = sched })))
    (is next refl) (runs_alike k known m q it sched (slice_get m.goroutines sched.current.number) refl)

ticks_alike : (k : Known) → IsKnown k → (m : codes.Machine) (q : plans.Machine) → IsMachine k [] m q → (at : Point)
    → (n : ℕ)
    → Follows k (unwinding.with_tick n m (λ m. unwinding.chosen k.code (next_at at m.sched)
    (record m { sched = switched at m.sched })))
    (planned_unwinding.with_tick n (with_shared m q) (λ q. planned_unwinding.runs_on k.w q.sched.current.number
    (next_at at q.sched) (record q { sched = switched at q.sched })))
ticks_alike k known m q it at zero = (refl, refl)
ticks_alike k known m q it at (suc n) =
    chosen_alike k known (record m { ticks = n }) (record (with_shared m q) { ticks = n })
    (ticks_machine k [] m (with_shared m q) n (shared_machine k [] m q it)) (switched at m.sched) refl
    (next_at at m.sched) (next_is at m.sched)

pub switches_alike : (k : Known) → IsKnown k → (at : Point) (m : codes.Machine) (q : plans.Machine) → IsMachine k [] m q
    → Follows k (unwinding.switches k.code at m) (planned_unwinding.switches k.w at q)
switches_alike k known at m q it =
    subst (λ (q : plans.Machine). Follows k (unwinding.switches k.code at m) (planned_unwinding.switches k.w at q))
    (shared_is k m q it.around) (ticks_alike k known m q it at m.ticks)
