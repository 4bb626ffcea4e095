-- Switch points, by what their parts do.
use Rattle.std.proofs.Common.{◌≡◌, ◌∙◌, ap, sym, refl, subst, ℕ, zero, suc, ◌<◌, ◌==◌, Option, Some, None, Bool, true}
use Rattle.std.proofs.Common.{false, arith}
use Rattle.std.specs.Prelude.{if◌then◌else◌}
use Rattle.go_base.specs.declared.ending.Ending.{Ending}
use Rattle.go_base.specs.declared.ending.Ending.TheVariants as ending
use Rattle.go_base.specs.declared.ids.GoId.{GoId}
use Rattle.go_sched.specs.Choices.{next_at, switched}
use Rattle.go_sched.specs.Goroutines.{state_of}
use Rattle.go_sched.specs.declared.scheduling.Point.{Point}
use Rattle.go_value.specs.declared.faults.Fault.{Fault}
use Rattle.interp_builtins.proofs.Worlds.{from_alike, in_alike}
use Rattle.interp_builtins.specs.Operations.{chooses}
use Rattle.interp_state.proofs.Turns.{goes_to}
use Rattle.interp_state.specs.Machines.{machine_of}
use Rattle.interp_state.specs.States.{Spent}
use Rattle.interp_state.specs.Turns.{ComesTo, Steps}
use Rattle.interp_state.specs.declared.machine.Machine.{Machine}
use Rattle.interp_state.specs.declared.machine.Turn.{Turn}
use Rattle.interp_state.specs.declared.machine.Turn.TheVariants as turn
use Rattle.plan_mean.specs.State as meant
use Rattle.plan_mean.specs.State.{World, Next, ends, goes, with_current}
use Rattle.plan_mean.specs.Unwinding.{changed, goes_with, meets, runs_on, switches, with_tick}

-- a run that ends
pub ended : (w : World) (result : Turn) (new : Machine) (it : Ending) (next : Next) → result ≡ turn.Ends
    → new.ending ≡ Some it → next ≡ ends it new.output.items → ComesTo w result new next
ended w result new it next is stands leads =
    subst (λ (r : Turn). ComesTo w r new next) (sym is) (it, (stands, leads))

-- ---- a tick is spent

-- what `spend` does
abbrev pub Spends : Turn → Machine → Machine → Type 0
Spends result old new =
    (old.ticks ≡ 0 → (result ≡ turn.Ends) × (new ≡ record old { ending = Some ending.Bound }))
    × (0 < old.ticks → (result ≡ turn.Goes) × Spent old new)

some_ticks : (ticks : ℕ) (result : Turn) (P : Type 0) → (ticks ≡ 0 → result ≡ turn.Ends) → (0 < ticks → P)
    → result ≡ turn.Goes → P
some_ticks zero result P none some is = let clash : turn.Ends ≡ turn.Goes = sym (none refl) ∙ is in cc
some_ticks (suc n) result P none some is = some (omega arith)

pub spent_first : (point : Point) (spent result : Turn) (old mid new : Machine) → Spends spent old mid
    → spent ≡ turn.Goes → Steps result mid new (λ w. chooses w point (machine_of mid))
    → Steps result old new (λ w. switches w point (machine_of old))
spent_first point spent result old mid new does is step =
    let it : Spent old mid =
    some_ticks old.ticks spent (Spent old mid) (λ none. (does.0 none).0) (λ some. (does.1 some).1) is in
    from_alike result old mid new (λ w. chooses w point (machine_of mid)) (λ w. switches w point (machine_of old))
    (record {
      plan = ap (λ (m : Machine). m.plan) it.others;
      code = ap (λ (m : Machine). m.code) it.others;
      asked = ap (λ (m : Machine). m.implemented) it.others;
    })
    (λ w. ap (λ ticks. with_tick ticks (machine_of old) (chooses w point)) it.ticks
    ∙ ap (chooses w point) (sym (ap machine_of it.others))) step

no_ticks : (ticks : ℕ) (result : Turn) (P : Type 0) → (ticks ≡ 0 → P) → (0 < ticks → result ≡ turn.Goes)
    → (result ≡ turn.Goes → ⊥) → P
no_ticks zero result P none some stops = none refl
no_ticks (suc n) result P none some stops = absurd (stops (some (omega arith)))

zero_ticks : (ticks : ℕ) (result : Turn) → (0 < ticks → result ≡ turn.Goes) → (result ≡ turn.Goes → ⊥) → ticks ≡ 0
zero_ticks zero result some stops = refl
zero_ticks (suc n) result some stops = absurd (stops (some (omega arith)))

pub spent_none : (point : Point) (spent : Turn) (old new : Machine) → Spends spent old new
    → (spent ≡ turn.Goes → ⊥) → Steps spent old new (λ w. switches w point (machine_of old))
spent_none point spent old new does stops =
    let none : old.ticks ≡ 0 = zero_ticks old.ticks spent (λ some. (does.1 some).0) stops in
    let is = does.0 none in
    record {
      comes = λ w within. ended w spent new ending.Bound (switches w point (machine_of old)) is.0
          (ap (λ (m : Machine). m.ending) is.1)
          (ap (λ ticks. with_tick ticks (machine_of old) (chooses w point)) none
          ∙ ap (λ (m : Machine). ends ending.Bound m.output.items) (sym is.1));
    }

-- ---- a goroutine is chosen

pub none_chosen : (point : Point) (result : Turn) (old mid new : Machine) (next : Option GoId)
    → next ≡ next_at point (state_of old.sched) → next ≡ None → mid ≡ record old { sched = mid.sched }
    → result ≡ turn.Ends → new ≡ record mid { ending = Some ending.Deadlock }
    → Steps result old new (λ w. chooses w point (machine_of old))
none_chosen point result old mid new next is none kept stops ends_so =
    record {
      comes = λ w within. ended w result new ending.Deadlock (chooses w point (machine_of old)) stops
          (ap (λ (m : Machine). m.ending) ends_so)
          (ap (λ next. runs_on w (machine_of old).sched.current.number next
          (record (machine_of old) { sched = switched point (machine_of old).sched })) (sym is ∙ none)
          ∙ ap (λ (m : Machine). ends ending.Deadlock m.output.items) (sym kept)
          ∙ ap (λ (m : Machine). ends ending.Deadlock m.output.items) (sym ends_so));
    }

pub one_chosen : (point : Point) (result : Turn) (old mid late new : Machine) (before : GoId) (next : Option GoId)
    (it : GoId) → before ≡ (state_of old.sched).current → next ≡ next_at point (state_of old.sched) → next ≡ Some it
    → mid ≡ record old { sched = mid.sched } → state_of mid.sched ≡ switched point (state_of old.sched)
    → machine_of late ≡ changed before.number it.number (machine_of mid)
    → late ≡ record mid { goroutines = late.goroutines; current = late.current }
    → Steps result late new (λ w. goes_with w (machine_of late) late.current.fault)
    → Steps result old new (λ w. chooses w point (machine_of old))
one_chosen point result old mid late new before next it first is some kept after changes others step =
    from_alike result old late new (λ w. goes_with w (machine_of late) late.current.fault)
    (λ w. chooses w point (machine_of old))
    (record {
      plan = ap (λ (m : Machine). m.plan) others ∙ ap (λ (m : Machine). m.plan) kept;
      code = ap (λ (m : Machine). m.code) others ∙ ap (λ (m : Machine). m.code) kept;
      asked = ap (λ (m : Machine). m.implemented) others ∙ ap (λ (m : Machine). m.implemented) kept;
    })
    (λ w. ap (λ next. runs_on w (machine_of old).sched.current.number next
    (record (machine_of old) { sched = switched point (machine_of old).sched })) (sym is ∙ some)
    ∙ ap (λ (m : meant.Machine). goes_with w m m.current.fault)
    (ap (λ (id : GoId). changed id.number it.number (record (machine_of old) {
      sched = switched point
          (machine_of old).sched;
    })) (sym first)
    ∙ ap (λ sched. changed before.number it.number (record (machine_of old) { sched = sched })) (sym after)
    ∙ ap (λ (m : meant.Machine). changed before.number it.number m) (sym (ap machine_of kept)) ∙ sym changes)) step

-- another goroutine than before
pub change_is : (one two : ℕ) (m after : meant.Machine) → (one == two) ≡ false
    → after ≡ meant.swapped two (meant.swapped one m) → after ≡ changed one two m
change_is one two m after other is =
    is ∙ sym (ap (λ (b : Bool). if b then m else meant.swapped two (meant.swapped one m)) other)

pub same_is : (one two : ℕ) (m : meant.Machine) → (one == two) ≡ true → m ≡ changed one two m
same_is one two m same = sym (ap (λ (b : Bool). if b then m else meant.swapped two (meant.swapped one m)) same)

-- ---- the goroutine goes on

pub meets_fault : (result : Turn) (old : Machine) (left : Option Fault) (new : Machine) (it : Fault)
    → old.current.fault ≡ Some it → left ≡ None
    → Steps result (record old { current = record (old.current) { fault = left } }) new
    (λ w. meets w it (machine_of (record old { current = record (old.current) { fault = left } })))
    → Steps result old new (λ w. goes_with w (machine_of old) old.current.fault)
meets_fault result old left new it is gone step =
    let mid : Machine = record old { current = record (old.current) { fault = left } } in
    from_alike result old mid new (λ w. meets w it (machine_of mid)) (λ w. goes_with w
    (machine_of old) old.current.fault)
    (record { plan = refl; code = refl; asked = refl })
    (λ w. ap (goes_with w (machine_of old)) is
    ∙ ap (λ fault. meets w it (with_current (record ((machine_of old).current) { fault = fault }) (machine_of old)))
    (sym gone))
    step

pub goes_unharmed : (result : Turn) (old new : Machine) → old.current.fault ≡ None → result ≡ turn.Goes
    → new ≡ record old { current = record (old.current) { fault = None } }
    → Steps result old new (λ w. goes_with w (machine_of old) old.current.fault)
goes_unharmed result old new none is kept =
    record {
      comes = λ w within. goes_to w result new (goes_with w (machine_of old) old.current.fault) is
          (in_alike w old new (record {
            plan = ap (λ (m : Machine). m.plan) kept;
            code = ap (λ (m : Machine). m.code) kept;
            asked = ap (λ (m : Machine). m.implemented) kept;
          }) within)
          (ap (goes_with w (machine_of old)) none
          ∙ ap (λ fault. goes (with_current (record ((machine_of old).current) { fault = fault })
          (machine_of old))) none
          ∙ ap goes (sym (ap machine_of kept)));
    }
