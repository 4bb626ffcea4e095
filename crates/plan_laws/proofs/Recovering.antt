-- `recover` in both machines: it acts in a source function that was put off, on the first frame below that is no wrapper.
use Rattle.std.proofs.Common.{◌≡◌, ℕ, suc, Bool, true, false, List, [], ◌∷◌, Option, Some, ap, refl, sym, subst, ◌∙◌}
use Rattle.std.proofs.Common.{cond}
use Rattle.std.proofs.lemmas.List.{set-set}
use Rattle.std.specs.Prelude.{◌&&◌, filter, if◌then◌else◌, length}
use Rattle.code_plan.specs.Registers.{behind}
use Rattle.code_plan.specs.declared.steps.Step.{Step}
use Rattle.go_value.specs.Values.{Val, nil_interface}
use Rattle.plan_laws.proofs.Acting.{Acting, IsActing, IsSlot, MayHold, site_of, acting_on}
use Rattle.plan_laws.proofs.Alike.{Known, IsKnown, IsBelow, IsResult, AreBelow, GetsResult, Follows, shown_state}
use Rattle.plan_laws.proofs.Alike.{sources_in}
use Rattle.plan_laws.proofs.Around.{around_with, there_with}
use Rattle.plan_laws.proofs.Entering.{follows_either}
use Rattle.plan_laws.proofs.Frames.{frame_moved, placed_as}
use Rattle.plan_laws.proofs.Giving.{kept_behind, settled}
use Rattle.plan_laws.proofs.Going.{goes_alike, unchanged}
use Rattle.plan_laws.proofs.Lists.{same_count}
use Rattle.plan_laws.proofs.Settling.{frame_source, frame_wrapper}
use Rattle.plan_mean.specs.Slots.{top_of, below_top}
use Rattle.plan_mean.specs.State as plans
use Rattle.plan_mean.specs.Step as planned
use Rattle.plan_mean.specs.Unwinding as planned_unwinding
use Rattle.ssa_mean.specs.State as codes
use Rattle.ssa_mean.specs.State.{FrameState, running, returning, panicking, of_value, of_text}
use Rattle.ssa_mean.specs.Step as steps
use Rattle.ssa_mean.specs.Unwinding as unwinding
use Rattle.ssa_mean.specs.Unwinding.{is_source, is_wrapper, recovered_state, recovered_value}

-- ---- states

state_recovered : (state : FrameState) → recovered_state (shown_state state) ≡ shown_state (recovered_state state)
state_recovered running = refl
state_recovered returning = refl
state_recovered (panicking (of_value it)) = refl
state_recovered (panicking (of_text words)) = refl

value_recovered : (state : FrameState) → recovered_value (shown_state state) ≡ recovered_value state
value_recovered running = refl
value_recovered returning = refl
value_recovered (panicking (of_value it)) = refl
value_recovered (panicking (of_text words)) = refl

-- ---- frames

recovered_frame : codes.Frame → codes.Frame
recovered_frame frame = record frame { state = recovered_state frame.state }

result_as : (k : Known) (register slot : Option ℕ) (caller : codes.Frame) → IsResult k register slot caller
    → IsResult k register slot (recovered_frame caller)
unfolding recovered_frame
result_as k register slot caller is = record { goes_to = is.goes_to; may = is.may }

gets_either : (k : Known) (register slot : Option ℕ) (b : Bool) (caller : codes.Frame) (one other : List codes.Frame)
    → IsResult k register slot caller
    → GetsResult k register slot (if b then caller ∷ one else recovered_frame caller ∷ other)
gets_either k register slot true caller one other is = is
gets_either k register slot false caller one other is = result_as k register slot caller is

gets_recovering : (k : Known) (register slot : Option ℕ) (frames : List codes.Frame) → GetsResult k register slot frames
    → GetsResult k register slot (unwinding.recovering k.code frames)
unfolding recovered_frame
gets_recovering k register slot [] is = is
gets_recovering k register slot (caller ∷ below) is =
    gets_either k register slot (is_wrapper k.code caller) caller (unwinding.recovering k.code below) below is

is_recovered : (k : Known) (frame : codes.Frame) (row : List (Option Val)) (it : plans.Frame) (below : List codes.Frame)
    → IsBelow k frame row it below
    → IsBelow k (recovered_frame frame) row (record it { state = recovered_state it.state }) below
unfolding recovered_frame
is_recovered k frame row it below is =
    record {
      function = is.function;
      is = frame_moved k is.function frame row it is.is frame.block frame.place (recovered_state frame.state) frame.defers it.block
          it.steps it.step (recovered_state it.state) it.defers (ap recovered_state is.is.state ∙ state_recovered frame.state)
          is.is.defers is.is.recovers;
      placed = placed_as k is.function frame it is.placed (recovered_state frame.state) frame.defers (recovered_state it.state)
          it.defers;
      result = is.result;
    }

below_either : (k : Known) (b b' : Bool) → b' ≡ b → (frame : codes.Frame) (below one : List codes.Frame)
    → (rows : List (List (Option Val))) (it : plans.Frame) (others other : List plans.Frame)
    → IsBelow k frame (top_of rows) it below → AreBelow k below (below_top rows) others
    → GetsResult k frame.result it.result one → AreBelow k one (below_top rows) other
    → AreBelow k (if b then frame ∷ one else recovered_frame frame ∷ below) rows
    (if b' then it ∷ other else record it { state = recovered_state it.state } ∷ others)
below_either k true true same frame below one rows it others other is are gets recovering =
    (record { function = is.function; is = is.is; placed = is.placed; result = gets }, recovering)
below_either k false false same frame below one rows it others other is are gets recovering =
    (is_recovered k frame (top_of rows) it below is, are)
below_either k _ _ same frame below one rows it others other is are gets recovering = cc

pub recovering_below : (k : Known) → IsKnown k → (frames : List codes.Frame) (rows : List (List (Option Val)))
    → (others : List plans.Frame) → AreBelow k frames rows others
    → AreBelow k (unwinding.recovering k.code frames) rows (planned_unwinding.recovering others)
unfolding recovered_frame
recovering_below k known [] rows [] are = tt
recovering_below k known (frame ∷ below) rows (it ∷ others) are =
    below_either k (is_wrapper k.code frame) (planned_unwinding.is_wrapper_frame it)
    (frame_wrapper k known are.0.function frame (top_of rows) it are.0.is) frame below (unwinding.recovering k.code below) rows it
    others (planned_unwinding.recovering others) are.0 are.1
    (gets_recovering k frame.result it.result below are.0.result) (recovering_below k known below (below_top rows) others are.1)
recovering_below k known [] rows (it ∷ others) are = absurd are
recovering_below k known (frame ∷ below) rows [] are = absurd are

-- what is recovered
value_either : (b b' : Bool) → b' ≡ b → (one one' two two' : Val) → one' ≡ one → two' ≡ two
    → (if b' then one' else two') ≡ (if b then one else two)
value_either b b' same one one' two two' p q = λ i. if same i then p i else q i

pub same_recovered : (k : Known) → IsKnown k → (frames : List codes.Frame) (rows : List (List (Option Val)))
    → (others : List plans.Frame) → AreBelow k frames rows others
    → planned_unwinding.recovered others ≡ unwinding.recovered k.code frames
same_recovered k known [] rows [] are = refl
same_recovered k known (frame ∷ below) rows (it ∷ others) are =
    value_either (is_wrapper k.code frame) (planned_unwinding.is_wrapper_frame it)
    (frame_wrapper k known are.0.function frame (top_of rows) it are.0.is) _ _ _ _
    (same_recovered k known below (below_top rows) others are.1)
    (ap recovered_value are.0.is.state ∙ value_recovered frame.state)
same_recovered k known [] rows (it ∷ others) are = absurd are
same_recovered k known (frame ∷ below) rows [] are = absurd are

-- ---- how many frames of source functions there are

counted_more : {A : Type 0} (b : Bool) (x : A) (xs ys : List A) → length xs ≡ length ys
    → length (cond b (x ∷ xs) xs) ≡ length (cond b (x ∷ ys) ys)
counted_more true x xs ys same = ap suc same
counted_more false x xs ys same = same

sources_either : (k : Known) (b : Bool) (frame : codes.Frame) (below one : List codes.Frame)
    → sources_in k one ≡ sources_in k below
    → sources_in k (if b then frame ∷ one else recovered_frame frame ∷ below) ≡ sources_in k (frame ∷ below)
unfolding recovered_frame
sources_either k true frame below one same =
    counted_more (is_source k.code frame) frame (filter (is_source k.code) one) (filter (is_source k.code) below) same
sources_either k false frame below one same =
    same_count (is_source k.code) (recovered_frame frame) frame below refl

pub sources_recovering : (k : Known) (frames : List codes.Frame)
    → sources_in k (unwinding.recovering k.code frames) ≡ sources_in k frames
unfolding recovered_frame
sources_recovering k [] = refl
sources_recovering k (frame ∷ below) =
    sources_either k (is_wrapper k.code frame) frame below (unwinding.recovering k.code below) (sources_recovering k below)

sources_above : (k : Known) (frame : codes.Frame) (one below : List codes.Frame) → sources_in k one ≡ sources_in k below
    → sources_in k (frame ∷ one) ≡ sources_in k (frame ∷ below)
sources_above k frame one below same =
    counted_more (is_source k.code frame) frame (filter (is_source k.code) one) (filter (is_source k.code) below) same

-- ---- where it acts

abbrev goroutine_of : Known → Acting → codes.Goroutine
goroutine_of k a = record (a.g) { frames = a.frame ∷ unwinding.recovering k.code a.below }

abbrev recovering_at : Known → Acting → Acting
recovering_at k a =
    record a {
      m = codes.with_current (goroutine_of k a) a.m;
      g = goroutine_of k a;
      below = unwinding.recovering k.code a.below;
      others = planned_unwinding.recovering a.others;
    }

is_recovering : (k : Known) → IsKnown k → (a : Acting) (step : Step) → IsActing k a step → IsActing k (recovering_at k a) step
is_recovering k known a step acting =
    record {
      top = record {
        is = acting.top.is;
        result = gets_recovering k a.frame.result a.planned.result a.below acting.top.result;
        below = recovering_below k known a.below (below_top a.q.current.slots) a.others acting.top.below;
        around = around_with k a.m a.q acting.top.around (goroutine_of k a) a.q.current;
        there = there_with a.m (goroutine_of k a) a.g acting.top.there;
        frames = refl;
        begin = acting.top.begin;
        fault = acting.top.fault;
        sources = acting.top.sources
            ∙ sym (sources_above k a.frame (unwinding.recovering k.code a.below) a.below (sources_recovering k a.below));
      };
      runs = acting.runs;
      held = acting.held;
      place = acting.place;
    }

given_alike : (k : Known) (a : Acting) (step : Step) → IsActing k a step → (register slot : Option ℕ)
    → IsSlot a.function register slot → (it : Val)
    → MayHold (k.marks a.frame.function.number) (behind step a.pending) register (Some it)
    → Follows k (steps.goes_behind (site_of k a) register (Some it) a.m)
    (plans.goes (plans.with_result slot (Some it) (acting_on a)))
given_alike k a step acting register slot same it may =
    subst (λ (q : plans.Machine). Follows k (steps.goes_behind (site_of k a) register (Some it) a.m)
    (plans.goes (plans.with_result slot (Some it) q))) (sym (settled k a step acting))
    (goes_alike k a step acting (unchanged a.m)
    (record { current = refl; kept = kept_behind k a step acting }) register slot same (Some it)
    may)

recovers_true : (k : Known) → IsKnown k → (a : Acting) (step : Step) → IsActing k a step → (register slot : Option ℕ)
    → IsSlot a.function register slot
    → ((it : Val) → MayHold (k.marks a.frame.function.number) (behind step a.pending) register (Some it))
    → Follows k (codes.goes (codes.with_frames a.g
    (codes.advanced (codes.with_result register (Some (unwinding.recovered k.code a.below)) a.frame)
    ∷ unwinding.recovering k.code a.below) a.m))
    (plans.goes (plans.with_result slot (Some (planned_unwinding.recovered a.others))
    (plans.with_frames (plans.advanced a.planned ∷ planned_unwinding.recovering a.others) (acting_on a))))
recovers_true k known a step acting register slot same may =
    let it = unwinding.recovered k.code a.below in
    let now = acting_on (recovering_at k a) in
    let alike = given_alike k (recovering_at k a) step (is_recovering k known a step acting) register slot same it (may it) in
    subst (λ (x : Val). Follows k (codes.goes (codes.with_frames a.g
    (codes.advanced (codes.with_result register (Some it) a.frame) ∷ unwinding.recovering k.code a.below) a.m))
    (plans.goes (plans.with_result slot (Some x) now)))
    (sym (same_recovered k known a.below (below_top a.q.current.slots) a.others acting.top.below))
    (subst (λ (x : List codes.Goroutine). Follows k (codes.goes (record (a.m) { goroutines = x }))
    (plans.goes (plans.with_result slot (Some it) now)))
    (set-set a.m.goroutines a.m.sched.current.number (goroutine_of k a) _) alike)

pub recovers_alike : (k : Known) → IsKnown k → (a : Acting) (step : Step) → IsActing k a step → (register slot : Option ℕ)
    → IsSlot a.function register slot
    → ((it : Val) → MayHold (k.marks a.frame.function.number) (behind step a.pending) register (Some it))
    → Follows k (steps.recovers (site_of k a) register)
    (planned.recovers_in (acting_on a) slot (plans.advanced a.planned ∷ a.others))
recovers_alike k known a step acting register slot same may =
    follows_either k (unwinding.may_recover k.code a.frame) (planned_unwinding.may_recover (plans.advanced a.planned))
    (λ i. acting.top.is.deferred i
    && frame_source k known a.function a.frame (top_of a.q.current.slots) a.planned acting.top.is i) _ _ _ _
    (λ yes. recovers_true k known a step acting register slot same may)
    (λ no. given_alike k a step acting register slot same nil_interface (may nil_interface))
