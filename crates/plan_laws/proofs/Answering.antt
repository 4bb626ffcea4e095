-- What operations on channels answer, in both machines: those that waited go on, or the goroutine waits, or a fault is met.
use Rattle.std.proofs.Common.{ℕ, ◌≡◌, List, [], ◌∷◌, Option, Some, None, Result, Ok, Err, refl, sym, ap, subst, ◌∙◌}
use Rattle.std.specs.Prelude.{slice_get}
use Rattle.code_plan.specs.Registers.{Pending, behind}
use Rattle.code_plan.specs.declared.steps.Step.{Step}
use Rattle.go_base.specs.declared.ids.GoId.{GoId}
use Rattle.go_sched.specs.Goroutines.{State}
use Rattle.go_sched.specs.Operations.{Woken, Answer, done, default, blocks}
use Rattle.go_sched.specs.declared.scheduling.Point.TheVariants as point
use Rattle.go_value.specs.Values.{Val}
use Rattle.go_value.specs.declared.faults.Fault.{Fault}
use Rattle.plan_laws.proofs.Acting.{Acting, Change, FollowsWhere, IsActing, IsChange, IsSlot, MayHold, site_of}
use Rattle.plan_laws.proofs.Acting.{code_with, plan_with}
use Rattle.plan_laws.proofs.Alike.{Known, IsKnown, IsMachine, IsPlaced, AreFrames, Follows, placed, sources_in}
use Rattle.plan_laws.proofs.Around.{around_current}
use Rattle.plan_laws.proofs.Giving.{plan_at, kept_behind, follows_stuck}
use Rattle.plan_laws.proofs.Going.{around_changed, behind_machine}
use Rattle.plan_laws.proofs.Switching.{none_pending, switches_alike}
use Rattle.plan_laws.proofs.Throwing.{faults_alike}
use Rattle.plan_laws.proofs.Waking.{woken_alike}
use Rattle.plan_mean.specs.Channels as planned_channels
use Rattle.plan_mean.specs.State as plans
use Rattle.plan_mean.specs.Unwinding as planned_unwinding
use Rattle.ssa_mean.specs.Channels as channels
use Rattle.ssa_mean.specs.State as codes
use Rattle.ssa_mean.specs.Step as steps
use Rattle.ssa_mean.specs.Unwinding as unwinding

-- ---- an operation is done

switches_where : (k : Known) → IsKnown k → (m : Option codes.Machine) (q : Option plans.Machine) → FollowsWhere k m q
    → Follows k (codes.where_there (unwinding.switches k.code point.After) m)
    (plans.where_there (planned_unwinding.switches k.w point.After) q)
switches_where k known None q is = tt
switches_where k known (Some m) None is = follows_stuck k (unwinding.switches k.code point.After m)
switches_where k known (Some m) (Some q) is = switches_alike k known point.After m q is

pub completed_alike : (k : Known) → IsKnown k → (others : List Woken) (m : Option codes.Machine) (q : plans.Machine)
    → FollowsWhere k m (Some q)
    → Follows k (codes.where_there (channels.completed k.code others) m) (planned_channels.completed k.w others q)
completed_alike k known others None q is = tt
completed_alike k known others (Some m) q is =
    switches_where k known (channels.all_woken k.code others m) (planned_channels.all_woken others q)
    (woken_alike k known others m q is)

-- ---- what an operation answers

-- what is alike in both machines as they go on
pub record AreOutcomes (k : Known) (m : codes.Machine) (q : plans.Machine) (next : ℕ → Option Val → Option codes.Machine)
    (planned_next : ℕ → Option Val → plans.Machine) (otherwise : Option codes.Machine) (planned_otherwise : plans.Machine)
    (answer : Result Answer Fault) : Type 0 where
  pub done : (index : ℕ) (it : Option Val) → FollowsWhere k (next index it) (Some (planned_next index it))
  pub default : FollowsWhere k otherwise (Some planned_otherwise)
  pub blocks : answer ≡ Ok blocks → IsMachine k [] m (planned_channels.stays q)
  pub faults : (it : Fault) → Follows k (unwinding.meets k.code m it) (planned_unwinding.meets k.w it q)

pub came_alike : (k : Known) → IsKnown k → (m : codes.Machine) (q : plans.Machine)
    → (next : ℕ → Option Val → Option codes.Machine) (planned_next : ℕ → Option Val → plans.Machine)
    → (otherwise : Option codes.Machine) (planned_otherwise : plans.Machine) (answer : Result Answer Fault)
    → AreOutcomes k m q next planned_next otherwise planned_otherwise answer
    → Follows k (channels.came_to k.code m next otherwise answer)
    (planned_channels.came_to k.w q planned_next planned_otherwise answer)
came_alike k known m q next planned_next otherwise planned_otherwise (Ok (done index it others)) are =
    completed_alike k known others (next index it) (planned_next index it) (are.done index it)
came_alike k known m q next planned_next otherwise planned_otherwise (Ok default) are =
    switches_where k known otherwise (Some planned_otherwise) are.default
came_alike k known m q next planned_next otherwise planned_otherwise (Ok blocks) are =
    switches_alike k known point.Blocked m (planned_channels.stays q) (are.blocks refl)
came_alike k known m q next planned_next otherwise planned_otherwise (Err it) are = are.faults it

-- ---- in the midst of an instruction, where other goroutines may run

-- a change of the channels alone
abbrev pub with_sched : State → codes.Machine → Change
with_sched sched m = record { store = m.store; sched = sched; ticks = m.ticks; output = m.output }

module _ (k : Known) (known : IsKnown k) (a : Acting) (step : Step) (acting : IsActing k a step) (sched : State)
    (kept : sched.current ≡ a.m.sched.current) where
  change : IsChange k a step (with_sched sched a.m)
  change = record { current = kept; kept = kept_behind k a step acting }

  there : slice_get a.m.goroutines sched.current.number ≡ Some a.g
  there = ap (λ (id : GoId). slice_get a.m.goroutines id.number) kept ∙ acting.top.there

  -- the frame behind the instruction, with what that gives
  pub behind_at : behind step a.pending ≡ [] → (register slot : Option ℕ) → IsSlot a.function register slot
      → (it : Option Val) → MayHold (k.marks a.frame.function.number) (behind step a.pending) register it
      → IsMachine k [] (steps.behind_with (site_of k a) register sched it)
      (plans.with_result slot it (planned_channels.with_sched sched (plan_at a)))
  behind_at none register slot same it may =
      subst (λ (pending : Pending). IsMachine k pending (steps.behind_with (site_of k a) register sched it)
      (plans.with_result slot it (planned_channels.with_sched sched (plan_at a)))) none
      (behind_machine k a step acting (with_sched sched a.m) change register slot same it may)

  -- the frame at the instruction again
  pub stays_at : IsPlaced k a.function [] a.frame a.planned
      → IsMachine k [] (channels.with_sched sched a.m)
      (planned_channels.stays (planned_channels.with_sched sched (plan_at a)))
  stays_at is_placed =
      record {
        around = around_current k (code_with (with_sched sched a.m) a.m) (plan_with (with_sched sched a.m) a.q)
            (around_changed k a.m a.q acting.top.around (with_sched sched a.m) kept)
            (record (a.q.current) { frames = a.planned ∷ a.others });
        g = a.g;
        there = there;
        is = record {
          frames = subst (λ (frames : List codes.Frame). AreFrames k [] frames a.q.current.slots (a.planned ∷ a.others))
              (sym acting.top.frames) (
                record {
                  function = a.function;
                  is = acting.top.is;
                  top = placed is_placed;
                  result = acting.top.result;
                },
                acting.top.below,
              );
          begin = acting.top.begin;
          fault = acting.top.fault;
          sources = acting.top.sources ∙ ap (sources_in k) (sym acting.top.frames);
        };
        held = none_pending k a.m.store a.g.frames;
      }

  -- a fault
  pub faults_at : (it : Fault)
      → Follows k (unwinding.meets k.code (channels.with_sched sched a.m) it)
      (planned_unwinding.meets k.w it (planned_channels.with_sched sched (plan_at a)))
  faults_at it =
      faults_alike k known
      (record a { m = channels.with_sched sched a.m; q = plan_with (with_sched sched a.m) a.q }) step
      (record {
        top = record {
          is = acting.top.is;
          result = acting.top.result;
          below = acting.top.below;
          around =
              around_changed k a.m a.q acting.top.around (with_sched sched a.m) kept;
          there = there;
          frames = acting.top.frames;
          begin = acting.top.begin;
          fault = acting.top.fault;
          sources = acting.top.sources;
        };
        runs = acting.runs;
        held = acting.held;
        place = acting.place;
      }) it
