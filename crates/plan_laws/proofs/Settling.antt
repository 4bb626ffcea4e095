-- Machines in which all frames stand where both go on: behind a call, with other frames, and with what was written.
use Rattle.std.proofs.Common.{◌≡◌, ℕ, false, List, [], ◌∷◌, ◌++◌, Option, Some, None, ap, refl, sym, subst, ◌∙◌}
use Rattle.std.specs.Prelude.{◌&&◌, slice_get}
use Rattle.std.specs.Option.{option_and_then, option_map, option_map_or}
use Rattle.code_plan.specs.Registers.{behind, register_slot}
use Rattle.code_plan.specs.declared.steps.Step.{Step}
use Rattle.go_store.specs.Stores.{Stored}
use Rattle.go_value.specs.Values.{Val}
use Rattle.plan_laws.proofs.Acting.{Acting, IsActing, IsSettled, site_of, acting_on}
use Rattle.plan_laws.proofs.Alike.{Known, IsKnown, IsAround, IsBelow, IsFrame, IsLaterWhere, IsPlaced, AreBelow}
use Rattle.plan_laws.proofs.Alike.{GetsResult, sources_in}
use Rattle.plan_laws.proofs.Around.{around_with, there_with}
use Rattle.plan_laws.proofs.Blocks.{function_of}
use Rattle.plan_laws.proofs.Going.{frame_advanced}
use Rattle.plan_laws.proofs.Lists.{same_count}
use Rattle.plan_laws.proofs.Readying.{same_source, same_wrapper}
use Rattle.plan_mean.specs.Calls as planned_calls
use Rattle.plan_mean.specs.Slots.{top_of}
use Rattle.plan_mean.specs.State as plans
use Rattle.plan_mean.specs.Unwinding as planned_unwinding
use Rattle.ssa_ir.specs.declared.code.Function.{Function}
use Rattle.ssa_mean.specs.Calls as calls
use Rattle.ssa_mean.specs.Operands.{function_at}
use Rattle.ssa_mean.specs.State as codes
use Rattle.ssa_mean.specs.Step as steps
use Rattle.ssa_mean.specs.Unwinding.{is_source, is_wrapper, is_source_kind, is_wrapper_kind}

-- ---- kinds of functions of frames

pub frame_source : (k : Known) → IsKnown k → (function : Function) (frame : codes.Frame) (row : List (Option Val))
    (planned : plans.Frame) → IsFrame k function frame row planned
    → planned_unwinding.is_source planned.function.role ≡ is_source k.code frame
frame_source k known function frame row planned is =
    ap planned_unwinding.is_source (function_of k known function frame row planned is).role
    ∙ (same_source function function.kind
    ∙ sym (ap (λ (x : Option Function). option_map_or (λ (it : Function). is_source_kind it.kind) x false) is.there))

pub frame_wrapper : (k : Known) → IsKnown k → (function : Function) (frame : codes.Frame) (row : List (Option Val))
    (planned : plans.Frame) → IsFrame k function frame row planned
    → planned_unwinding.is_wrapper_frame planned ≡ is_wrapper k.code frame
frame_wrapper k known function frame row planned is =
    ap planned_unwinding.is_wrapper (function_of k known function frame row planned is).role
    ∙ (same_wrapper function function.kind
    ∙ sym (ap (λ (x : Option Function). option_map_or (λ (it : Function). is_wrapper_kind it.kind) x false) is.there))

-- ---- whether a wrapper passes on that it was put off

pub top_deferral : (k : Known) → IsKnown k → (function : Function) (frame : codes.Frame) (row : List (Option Val))
    (planned : plans.Frame) → IsFrame k function frame row planned → (below : List codes.Frame) (others : List plans.Frame)
    → planned_calls.passes_deferral (planned ∷ others) ≡ calls.passes_deferral k.code (frame ∷ below)
top_deferral k known function frame row planned is below others =
    λ i. is.deferred i && frame_wrapper k known function frame row planned is i

pub same_deferral : (k : Known) → IsKnown k → (frames : List codes.Frame) (rows : List (List (Option Val)))
    (others : List plans.Frame) → AreBelow k frames rows others
    → planned_calls.passes_deferral others ≡ calls.passes_deferral k.code frames
same_deferral k known [] rows [] are = refl
same_deferral k known (frame ∷ below) rows (planned ∷ others) are =
    top_deferral k known are.0.function frame (top_of rows) planned are.0.is below others
same_deferral k known [] rows (planned ∷ others) are = absurd are
same_deferral k known (frame ∷ below) rows [] are = absurd are

-- ---- results that go nowhere

no_slot : (found : Option Function) → option_and_then (λ function. option_map (register_slot function) None) found ≡ None
no_slot None = refl
no_slot (Some function) = refl

pub no_result : (k : Known) (frames : List codes.Frame) → GetsResult k None None frames
no_result k [] = (refl, refl)
no_result k (caller ∷ below) = record { goes_to = no_slot (function_at k.code caller.function); may = tt }

-- ---- machines with other frames

abbrev pub settled_frames : (k : Known) (m : codes.Machine) (q : plans.Machine) → IsAround k m q → (g : codes.Goroutine)
    → slice_get m.goroutines m.sched.current.number ≡ Some g → (frames : List codes.Frame) (current : plans.Goroutine)
    → AreBelow k frames current.slots current.frames → IsLaterWhere g.begin current.begin → current.fault ≡ g.fault
    → current.sources ≡ sources_in k frames
    → IsSettled k (codes.with_frames g frames m) (record q { current = current })
settled_frames k m q around g there frames current are begin fault sources =
    record {
      around = around_with k m q around (record g { frames = frames }) current;
      g = record g { frames = frames };
      there = there_with m (record g { frames = frames }) g there;
      frames = are;
      begin = begin;
      fault = fault;
      sources = sources;
    }

-- behind a call nothing is pending
pub below_behind : (k : Known) (a : Acting) (step : Step) → IsActing k a step → behind step a.pending ≡ []
    → IsBelow k (codes.advanced a.frame) (top_of a.q.current.slots) (plans.advanced a.planned) a.below
below_behind k a step acting none =
    record {
      function = a.function;
      is = frame_advanced k a.function a.frame (top_of a.q.current.slots) a.planned acting.top.is;
      placed = subst (λ pending. IsPlaced k a.function pending (codes.advanced a.frame) (plans.advanced a.planned)) none acting.place;
      result = acting.top.result;
    }

abbrev pub settled_behind : (k : Known) (a : Acting) (step : Step) → IsActing k a step → behind step a.pending ≡ []
    → IsSettled k (steps.behind_call (site_of k a)) (acting_on a)
settled_behind k a step acting none =
    settled_frames k a.m a.q acting.top.around a.g acting.top.there (codes.advanced a.frame ∷ a.below)
    (record (a.q.current) { frames = plans.advanced a.planned ∷ a.others })
    (below_behind k a step acting none, acting.top.below) acting.top.begin acting.top.fault
    (acting.top.sources ∙ same_count (is_source k.code) a.frame (codes.advanced a.frame) a.below refl)

-- ---- what was written

pub settled_written : (k : Known) (m : codes.Machine) (q : plans.Machine) → IsSettled k m q → (store : Stored)
    → (written : List ℕ)
    → IsSettled k (record m { store = store; output = m.output ++ written })
    (record q { store = store; output = q.output ++ written })
settled_written k m q settled store written =
    record {
      around = record {
        others = settled.around.others;
        holder = settled.around.holder;
        count = settled.around.count;
        starts = settled.around.starts;
        store = refl;
        sched = settled.around.sched;
        ticks = settled.around.ticks;
        output = ap (λ its. its ++ written) settled.around.output;
      };
      g = settled.g;
      there = settled.there;
      frames = settled.frames;
      begin = settled.begin;
      fault = settled.fault;
      sources = settled.sources;
    }
