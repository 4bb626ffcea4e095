-- What operations come to is given in both machines, where they agree: to a register, to the store, or to neither.
use Rattle.std.proofs.Common.{ℕ, ◌≡◌, Bool, true, false, [], ◌++◌, Option, Some, None, refl, sym, ap, subst}
use Rattle.std.proofs.Common.{not, ◌&&◌, true≢false, if◌then◌else◌}
use Rattle.code_plan.specs.Forms.{IsStep}
use Rattle.code_plan.specs.Registers.{Marks, Pending, may_give, behind, may_write}
use Rattle.code_plan.specs.declared.steps.Step.{Step}
use Rattle.go_store.specs.Stores.{Stored}
use Rattle.go_value.specs.Values.{Val}
use Rattle.go_value.specs.declared.faults.Fault.{Fault}
use Rattle.plan_laws.proofs.Acting.{Acting, IsActing, Agree, Change, IsSlot, MayHold, MayPoint, site_of, plan_site}
use Rattle.plan_laws.proofs.Acting.{acting_on, plan_with}
use Rattle.plan_laws.proofs.Alike.{Known, IsKnown, Follows, ArePending}
use Rattle.plan_laws.proofs.Going.{goes_alike, unchanged}
use Rattle.plan_laws.proofs.Slots.{none_pending}
use Rattle.plan_laws.proofs.Throwing.{faults_alike}
use Rattle.plan_laws.proofs.Values.{IsAlike}
use Rattle.plan_mean.specs.Channels as channels
use Rattle.plan_mean.specs.State as plans
use Rattle.plan_mean.specs.Step as planned
use Rattle.plan_mean.specs.Unwinding as unwinding
use Rattle.ssa_ir.specs.declared.ops.Op.{Op}
use Rattle.ssa_ir.specs.declared.ops.Op.TheVariants as op
use Rattle.ssa_mean.specs.BuiltIns.{Done}
use Rattle.ssa_mean.specs.Comes.{Comes, to, faults, nowhere, then_to}
use Rattle.ssa_mean.specs.Conversions.{Stores, kept}
use Rattle.ssa_mean.specs.Making.{Channels}
use Rattle.ssa_mean.specs.State as codes
use Rattle.ssa_mean.specs.Step as steps
use Rattle.ssa_mean.specs.Unwinding as code_unwinding

-- ---- the plan's machine with the very store, channels, ticks and output of the code's

abbrev pub plan_at : Acting → plans.Machine
plan_at a = plan_with (unchanged a.m) (acting_on a)

pub settled : (k : Known) (a : Acting) (step : Step) → IsActing k a step → acting_on a ≡ plan_at a
settled k a step acting =
    λ i. record (acting_on a) {
      store = acting.top.around.store i;
      sched = acting.top.around.sched i;
      ticks = acting.top.around.ticks i;
      output = acting.top.around.output i;
    }

-- an instruction and its step do the same there
abbrev pub IsAlikeSettled : Op → Type 0
IsAlikeSettled it =
    (k : Known) → IsKnown k → (a : Acting) (register : Option ℕ) (step : Step) →
    may_give (k.marks a.frame.function.number) it register ≡ true → IsStep (plan_site k a) register it step →
    IsActing k a step → Follows k (steps.acts (site_of k a) register it) (planned.acts k.w (plan_at a) step)

pub alike_from : (it : Op) → IsAlikeSettled it → IsAlike it
alike_from it alike k known a register step may is acting =
    subst (λ m. Follows k (steps.acts (site_of k a) register it) (planned.acts k.w m step))
    (sym (settled k a step acting)) (alike k known a register step may is acting)

-- ---- what a register may get

neither : (late cell : Bool) → not late && not cell ≡ true → (late ≡ false) × (cell ≡ false)
neither false false h = (refl, refl)
neither true cell h = absurd (true≢false (sym h))
neither false true h = absurd (true≢false (sym h))

pub may_hold : (marks : Marks) (pending : Pending) (register : Option ℕ) (it : Val)
    → may_give marks op.Tick register ≡ true → MayHold marks pending register (Some it)
may_hold marks pending None it h = tt
may_hold marks pending (Some register) it h =
    let both = neither (marks.late register) (marks.cell register) h in
    (both.0, subst (λ is_cell. MayPoint is_cell pending it) (sym both.1) tt)

-- what is pending stays so where the store stays
kept_where : (marks : Marks) (store : Stored) (frame : codes.Frame) (pending : Pending) (writes : Bool)
    → ArePending marks store pending frame → ArePending marks store (if writes then [] else pending) frame
kept_where marks store frame pending true are = none_pending marks store frame
kept_where marks store frame pending false are = are

pub kept_behind : (k : Known) (a : Acting) (step : Step) → IsActing k a step
    → ArePending (k.marks a.frame.function.number) a.m.store (behind step a.pending) a.frame
kept_behind k a step acting =
    kept_where (k.marks a.frame.function.number) a.m.store a.frame a.pending (may_write step) acting.held

-- ---- where the plan's machine is stuck nothing is said

pub follows_stuck : (k : Known) (next : codes.Next) → Follows k next plans.stuck
follows_stuck k (codes.goes m) = tt
follows_stuck k (codes.ends ending output) = tt
follows_stuck k codes.stuck = tt

-- ---- a fault

pub faults_settled : (k : Known) → IsKnown k → (a : Acting) (step : Step) → IsActing k a step → (it : Fault)
    → Follows k (code_unwinding.meets k.code a.m it) (unwinding.meets k.w it (plan_at a))
faults_settled k known a step acting it =
    subst (λ m. Follows k (code_unwinding.meets k.code a.m it) (unwinding.meets k.w it m)) (settled k a step acting)
    (faults_alike k known a step acting it)

-- ---- a value, and the store after it

pub record GivesWell (k : Known) (a : Acting) (step : Step) (register : Option ℕ) (it : Option Val) (store : Stored) :
    Type 0 where
  pub kept : ArePending (k.marks a.frame.function.number) store (behind step a.pending) a.frame
  pub may : MayHold (k.marks a.frame.function.number) (behind step a.pending) register it

abbrev pub StoresWell : Known → Acting → Step → Option ℕ → Comes Stores → Type 0
StoresWell k a step register (to it) = GivesWell k a step register (Some it.value) it.store
StoresWell k a step register _ = Unit {0}

abbrev pub with_store : Stored → codes.Machine → Change
with_store store m = record { store = store; sched = m.sched; ticks = m.ticks; output = m.output }

stores_one : (k : Known) (a : Acting) (step : Step) → IsActing k a step → (register : Option ℕ) (slot : ℕ)
    → IsSlot a.function register (Some slot) → (it it' : Stores) → it' ≡ it
    → GivesWell k a step register (Some it'.value) it'.store
    → Follows k (steps.goes_behind (site_of k a) register (Some it.value) (record (a.m) { store = it.store }))
    (plans.goes (plans.with_value slot it'.value (record (plan_at a) { store = it'.store })))
stores_one k a step acting register slot same it it' e well =
    subst (λ (given : Stores).
    Follows k (steps.goes_behind (site_of k a) register (Some given.value) (record (a.m) { store = given.store }))
    (plans.goes (plans.with_value slot it'.value (record (plan_at a) { store = it'.store })))) e
    (goes_alike k a step acting (with_store it'.store a.m)
    (record { current = refl; kept = well.kept }) register (Some slot) same (Some it'.value) well.may)

pub gives_stored_alike : (k : Known) → IsKnown k → (a : Acting) (step : Step) → IsActing k a step
    → (register : Option ℕ) (slot : ℕ) → IsSlot a.function register (Some slot) → (x y : Comes Stores) → Agree x y
    → StoresWell k a step register y
    → Follows k (steps.gives_stored (site_of k a) register x) (planned.gives_stored k.w (plan_at a) slot y)
gives_stored_alike k known a step acting register slot same (to it) (to it') e well =
    stores_one k a step acting register slot same it it' e well
gives_stored_alike k known a step acting register slot same (faults it) (faults it') e well =
    subst (λ fault. Follows k (code_unwinding.meets k.code a.m it) (unwinding.meets k.w fault (plan_at a))) (sym e)
    (faults_settled k known a step acting it)
gives_stored_alike k known a step acting register slot same (to it) (faults it') e well = absurd e
gives_stored_alike k known a step acting register slot same (faults it) (to it') e well = absurd e
gives_stored_alike k known a step acting register slot same (to it) nowhere e well = tt
gives_stored_alike k known a step acting register slot same (faults it) nowhere e well =
    follows_stuck k (code_unwinding.meets k.code a.m it)
gives_stored_alike k known a step acting register slot same nowhere y e well = tt

-- ---- a value alone

agree_then : {A B : Type 0} (f : A → B) (x y : Comes A) → Agree x y → Agree (then_to f x) (then_to f y)
agree_then f (to a) (to b) e = ap f e
agree_then f (faults a) (faults b) e = e
agree_then f (to a) (faults b) e = absurd e
agree_then f (faults a) (to b) e = absurd e
agree_then f (to a) nowhere e = tt
agree_then f (faults a) nowhere e = tt
agree_then f nowhere (to b) e = tt
agree_then f nowhere (faults b) e = tt
agree_then f nowhere nowhere e = tt

value_well : (k : Known) (a : Acting) (step : Step) → IsActing k a step → (register : Option ℕ)
    → ((it : Val) → MayHold (k.marks a.frame.function.number) (behind step a.pending) register (Some it))
    → (x : Comes Val) → StoresWell k a step register (then_to (kept a.m.store) x)
value_well k a step acting register may (to it) =
    record { kept = kept_behind k a step acting; may = may it }
value_well k a step acting register may (faults it) = tt
value_well k a step acting register may nowhere = tt

pub gives_alike : (k : Known) → IsKnown k → (a : Acting) (step : Step) → IsActing k a step
    → (register : Option ℕ) (slot : ℕ) → IsSlot a.function register (Some slot)
    → may_give (k.marks a.frame.function.number) op.Tick register ≡ true → (x y : Comes Val) → Agree x y
    → Follows k (steps.gives_value (site_of k a) register x) (planned.gives k.w (plan_at a) slot y)
gives_alike k known a step acting register slot same may x y e =
    gives_stored_alike k known a step acting register slot same (then_to (kept a.m.store) x)
    (then_to (kept a.m.store) y) (agree_then (kept a.m.store) x y e)
    (value_well k a step acting register
    (λ it. may_hold (k.marks a.frame.function.number) (behind step a.pending) register it may) y)

-- ---- the store alone

abbrev pub ChangesWell : Known → Acting → Step → Comes Stored → Type 0
ChangesWell k a step (to store) = GivesWell k a step None None store
ChangesWell k a step _ = Unit {0}

store_one : (k : Known) (a : Acting) (step : Step) → IsActing k a step → (store store' : Stored) → store' ≡ store
    → GivesWell k a step None None store
    → Follows k (steps.goes_behind (site_of k a) None None (record (a.m) { store = store }))
    (plans.goes (record (plan_at a) { store = store' }))
store_one k a step acting store store' e well =
    subst (λ (given : Stored).
    Follows k (steps.goes_behind (site_of k a) None None (record (a.m) { store = store }))
    (plans.goes (record (plan_at a) { store = given }))) (sym e)
    (goes_alike k a step acting (with_store store a.m)
    (record { current = refl; kept = well.kept }) None None refl None tt)

pub changes_alike : (k : Known) → IsKnown k → (a : Acting) (step : Step) → IsActing k a step
    → (x y : Comes Stored) → Agree x y → ChangesWell k a step x
    → Follows k (steps.changes_store (site_of k a) x) (planned.changes k.w (plan_at a) y)
changes_alike k known a step acting (to it) (to it') e well = store_one k a step acting it it' e well
changes_alike k known a step acting (faults it) (faults it') e well =
    subst (λ fault. Follows k (code_unwinding.meets k.code a.m it) (unwinding.meets k.w fault (plan_at a))) (sym e)
    (faults_settled k known a step acting it)
changes_alike k known a step acting (to it) (faults it') e well = absurd e
changes_alike k known a step acting (faults it) (to it') e well = absurd e
changes_alike k known a step acting (to it) nowhere e well = tt
changes_alike k known a step acting (faults it) nowhere e well =
    follows_stuck k (code_unwinding.meets k.code a.m it)
changes_alike k known a step acting nowhere y e well = tt

-- ---- a channel

abbrev pub ChannelWell : Acting → Comes Channels → Type 0
ChannelWell a (to it) = it.sched.current ≡ a.m.sched.current
ChannelWell a _ = Unit {0}

channel_one : (k : Known) (a : Acting) (step : Step) → IsActing k a step → (register : Option ℕ) (slot : ℕ)
    → IsSlot a.function register (Some slot) → may_give (k.marks a.frame.function.number) op.Tick register ≡ true
    → (it it' : Channels) → it' ≡ it → it'.sched.current ≡ a.m.sched.current
    → Follows k (steps.goes_behind (site_of k a) register (Some it.value) (record (a.m) { sched = it.sched }))
    (plans.goes (plans.with_value slot it'.value (channels.with_sched it'.sched (plan_at a))))
channel_one k a step acting register slot same may it it' e current =
    subst (λ (given : Channels).
    Follows k (steps.goes_behind (site_of k a) register (Some given.value) (record (a.m) { sched = given.sched }))
    (plans.goes (plans.with_value slot it'.value (channels.with_sched it'.sched (plan_at a))))) e
    (goes_alike k a step acting
    (record { store = a.m.store; sched = it'.sched; ticks = a.m.ticks; output = a.m.output })
    (record { current = current; kept = kept_behind k a step acting })
    register (Some slot) same (Some it'.value)
    (may_hold (k.marks a.frame.function.number) (behind step a.pending) register it'.value may))

pub gives_channel_alike : (k : Known) → IsKnown k → (a : Acting) (step : Step) → IsActing k a step
    → (register : Option ℕ) (slot : ℕ) → IsSlot a.function register (Some slot)
    → may_give (k.marks a.frame.function.number) op.Tick register ≡ true → (x y : Comes Channels) → Agree x y
    → ChannelWell a y
    → Follows k (steps.gives_channel (site_of k a) register x) (planned.gives_channel k.w (plan_at a) slot y)
gives_channel_alike k known a step acting register slot same may (to it) (to it') e well =
    channel_one k a step acting register slot same may it it' e well
gives_channel_alike k known a step acting register slot same may (faults it) (faults it') e well =
    subst (λ fault. Follows k (code_unwinding.meets k.code a.m it) (unwinding.meets k.w fault (plan_at a))) (sym e)
    (faults_settled k known a step acting it)
gives_channel_alike k known a step acting register slot same may (to it) (faults it') e well = absurd e
gives_channel_alike k known a step acting register slot same may (faults it) (to it') e well = absurd e
gives_channel_alike k known a step acting register slot same may (to it) nowhere e well = tt
gives_channel_alike k known a step acting register slot same may (faults it) nowhere e well =
    follows_stuck k (code_unwinding.meets k.code a.m it)
gives_channel_alike k known a step acting register slot same may nowhere y e well = tt

-- ---- what a built-in function gives

abbrev pub FinishesWell : Known → Acting → Step → Option ℕ → Comes Done → Type 0
FinishesWell k a step register (to it) = GivesWell k a step register it.value it.store
FinishesWell k a step register _ = Unit {0}

done_one : (k : Known) (a : Acting) (step : Step) → IsActing k a step → (register slot : Option ℕ)
    → IsSlot a.function register slot → (it it' : Done) → it' ≡ it → GivesWell k a step register it.value it.store
    → Follows k (steps.goes_behind (site_of k a) register it.value
    (record (a.m) { store = it.store; output = a.m.output ++ it.written }))
    (plans.goes (plans.with_result slot it'.value
    (record (plan_at a) { store = it'.store; output = a.m.output ++ it'.written })))
done_one k a step acting register slot same it it' e well =
    subst (λ (given : Done).
    Follows k (steps.goes_behind (site_of k a) register it.value
    (record (a.m) { store = it.store; output = a.m.output ++ it.written }))
    (plans.goes (plans.with_result slot given.value
    (record (plan_at a) { store = given.store; output = a.m.output ++ given.written })))) (sym e)
    (goes_alike k a step acting
    (record { store = it.store; sched = a.m.sched; ticks = a.m.ticks; output = a.m.output ++ it.written })
    (record { current = refl; kept = well.kept }) register slot same it.value well.may)

pub finishes_settled : (k : Known) → IsKnown k → (a : Acting) (step : Step) → IsActing k a step
    → (register slot : Option ℕ) → IsSlot a.function register slot → (x y : Comes Done) → Agree x y
    → FinishesWell k a step register x
    → Follows k (steps.finishes (site_of k a) register x) (planned.finishes k.w (plan_at a) slot y)
finishes_settled k known a step acting register slot same (to it) (to it') e well =
    done_one k a step acting register slot same it it' e well
finishes_settled k known a step acting register slot same (faults it) (faults it') e well =
    subst (λ fault. Follows k (code_unwinding.meets k.code a.m it) (unwinding.meets k.w fault (plan_at a))) (sym e)
    (faults_settled k known a step acting it)
finishes_settled k known a step acting register slot same (to it) (faults it') e well = absurd e
finishes_settled k known a step acting register slot same (faults it) (to it') e well = absurd e
finishes_settled k known a step acting register slot same (to it) nowhere e well = tt
finishes_settled k known a step acting register slot same (faults it) nowhere e well =
    follows_stuck k (code_unwinding.meets k.code a.m it)
finishes_settled k known a step acting register slot same nowhere y e well = tt

pub finishes_alike : (k : Known) → IsKnown k → (a : Acting) (step : Step) → IsActing k a step
    → (register slot : Option ℕ) → IsSlot a.function register slot → (x y : Comes Done) → Agree x y
    → FinishesWell k a step register x
    → Follows k (steps.finishes (site_of k a) register x) (planned.finishes k.w (acting_on a) slot y)
finishes_alike k known a step acting register slot same x y e well =
    subst (λ m. Follows k (steps.finishes (site_of k a) register x) (planned.finishes k.w m slot y))
    (sym (settled k a step acting)) (finishes_settled k known a step acting register slot same x y e well)
