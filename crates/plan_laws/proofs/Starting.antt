-- New goroutines in both machines.
use Rattle.std.proofs.Common.{[], Some, None, refl, sym, ap, subst}
use Rattle.std.specs.Prelude.{slice_get}
use Rattle.code_plan.specs.declared.steps.PlannedCall.{PlannedCall}
use Rattle.code_plan.specs.declared.steps.Step.TheVariants as act
use Rattle.go_sched.specs.Goroutines.{spawned}
use Rattle.go_sched.specs.declared.scheduling.Point.TheVariants as point
use Rattle.plan_laws.proofs.Acting.{Acting, IsActing, acting_on, site_of}
use Rattle.plan_laws.proofs.Alike.{Known, IsAround, IsGoroutine, IsLater, IsMachine, IsOther, IsPlaceholder}
use Rattle.plan_laws.proofs.Giving.{kept_behind, settled}
use Rattle.plan_laws.proofs.Going.{behind_machine, unchanged}
use Rattle.plan_laws.proofs.Items.{count_more, get_more, more}
use Rattle.plan_laws.proofs.Readying.{readied_alike, with_later_alike}
use Rattle.plan_laws.proofs.Switching.{holder_there, switches_alike}
use Rattle.plan_laws.proofs.Values.{IsAlike}
use Rattle.plan_mean.specs.Calls as planned_calls
use Rattle.plan_mean.specs.State as plans
use Rattle.plan_mean.specs.Step as planned
use Rattle.ssa_ir.specs.declared.ops.Call.{Call}
use Rattle.ssa_ir.specs.declared.ops.Op.TheVariants as op
use Rattle.ssa_mean.specs.Calls as calls
use Rattle.ssa_mean.specs.State as codes
use Rattle.ssa_mean.specs.Step as steps

-- ---- one more goroutine

-- the goroutine that begins with a call
abbrev pub new_goroutine : codes.Later → codes.Goroutine
new_goroutine it = record { frames = []; begin = Some it; fault = None }

new_alike : (k : Known) (later : codes.Later) (it : plans.Later) → IsLater later it
    → IsGoroutine k [] (new_goroutine later) (planned_calls.new_goroutine (Some it))
new_alike k later it alike = record { frames = tt; begin = alike; fault = refl; sources = refl }

new_around : (k : Known) (m : codes.Machine) (q : plans.Machine) → IsAround k m q → (later : codes.Later)
    (it : plans.Later) → IsLater later it → IsAround k (calls.with_new later m) (planned_calls.with_new it q)
new_around k m q around later it alike =
    record {
      others = λ n other. more (IsOther k) m.goroutines q.others (new_goroutine later)
          (planned_calls.new_goroutine (Some it)) n around.count (around.others n other) (new_alike k later it alike);
      holder =
          let holder = holder_there (slice_get q.others m.sched.current.number) around.holder in
          subst IsPlaceholder (sym (get_more q.others (planned_calls.new_goroutine (Some it)) holder.0
          m.sched.current.number holder.1)) holder.2;
      count = count_more m.goroutines q.others (new_goroutine later) (planned_calls.new_goroutine (Some it)) around.count;
      starts = around.starts;
      store = around.store;
      sched = ap spawned around.sched;
      ticks = around.ticks;
      output = around.output;
    }

new_machine : (k : Known) (m : codes.Machine) (q : plans.Machine) → IsMachine k [] m q → (later : codes.Later)
    (it : plans.Later) → IsLater later it → IsMachine k [] (calls.with_new later m) (planned_calls.with_new it q)
new_machine k m q is later it alike =
    record {
      around = new_around k m q is.around later it alike;
      g = is.g;
      there = get_more m.goroutines (new_goroutine later) is.g m.sched.current.number is.there;
      is = is.is;
      held = is.held;
    }

-- ---- "Go statements"

-- the frame that runs stands behind its instruction
behind_call : (k : Known) (a : Acting) (call : PlannedCall) → IsActing k a (act.Go call)
    → IsMachine k [] (steps.behind_call (site_of k a)) (acting_on a)
behind_call k a call acting =
    subst (IsMachine k [] (steps.behind_call (site_of k a))) (sym (settled k a (act.Go call) acting))
    (behind_machine k a (act.Go call) acting (unchanged a.m)
    (record { current = refl; kept = kept_behind k a (act.Go call) acting })
    None None refl None tt)

pub go_alike : (call : Call) → IsAlike (op.Go call)
unfolding steps.acts planned.acts
go_alike call k known a register (act.Go it) may is acting =
    with_later_alike k known a (act.Go it) acting (calls.readied k.code a.function a.frame call)
    (planned_calls.readied k.w (acting_on a) it.callee it.arguments.items)
    (readied_alike k known a (act.Go it) acting call it is) (steps.starts_call (site_of k a))
    (planned.starts_call k.w (acting_on a))
    (λ later one alike. switches_alike k known point.After (calls.with_new later (steps.behind_call (site_of k a)))
    (planned_calls.with_new one (acting_on a))
    (new_machine k (steps.behind_call (site_of k a)) (acting_on a) (behind_call k a it acting) later one alike))
go_alike call k known a register _ may is acting = absurd is
