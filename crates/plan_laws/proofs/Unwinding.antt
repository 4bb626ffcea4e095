-- Frames that return or panic.
use Rattle.std.proofs.Common.{◌≡◌, suc, Bool, true, false, List, [], ◌∷◌, ◌++◌, Option, Some, None, ap, refl, sym, subst, ◌∙◌}
use Rattle.std.proofs.lemmas.List.{reverse-append}
use Rattle.std.specs.Prelude.{if◌then◌else◌, reverse, slice_get, codes}
use Rattle.std.specs.List.{AllZip}
use Rattle.std.specs.Option.{option_map_or}
use Rattle.std.specs.Str.{bytes_eq}
use Rattle.code_plan.specs.Operands.{AreArgs}
use Rattle.code_plan.specs.Plans.{role_of}
use Rattle.code_plan.specs.Registers.{behind}
use Rattle.code_plan.specs.declared.steps.Role.TheVariants as role
use Rattle.code_plan.specs.declared.steps.Step.{Step}
use Rattle.code_plan.specs.declared.steps.Step.TheVariants as act
use Rattle.go_value.specs.Values.{Val}
use Rattle.go_value.specs.declared.faults.Fault.{Fault}
use Rattle.plan_laws.proofs.Acting.{Acting, IsActing, IsSettled, site_of, plan_site, acting_on}
use Rattle.plan_laws.proofs.Alike.{Known, IsKnown, IsMachine, Follows, IsAround, AreFrames, AreBelow, IsTopFrame, IsFrame, IsTop, placed, lost}
use Rattle.plan_laws.proofs.Alike.{IsPlaced, IsLater, IsLaterWhere, Recovers, sources_in, shown_state, is_panicking}
use Rattle.plan_laws.proofs.Around.{around_current, around_with, there_with}
use Rattle.plan_laws.proofs.Blocks.{function_of}
use Rattle.plan_laws.proofs.Calling.{makes_alike}
use Rattle.plan_laws.proofs.Frames.{frame_moved, placed_as}
use Rattle.plan_laws.proofs.Lists.{same_count}
use Rattle.plan_laws.proofs.Given.{slots_after, result_slots, frames_given, below_given, sources_given, sources_below}
use Rattle.plan_laws.proofs.Reading.{all_values}
use Rattle.plan_laws.proofs.Settled.{as_frames, held_nothing}
use Rattle.plan_laws.proofs.Throwing.{throws_here}
use Rattle.plan_laws.proofs.Values.{IsAlike}
use Rattle.plan_mean.specs.Calls as planned_calls
use Rattle.plan_mean.specs.Operands.{look_at_all}
use Rattle.plan_mean.specs.Slots.{top_of, below_top}
use Rattle.plan_mean.specs.State as plans
use Rattle.plan_mean.specs.Step as planned
use Rattle.plan_mean.specs.Unwinding as planned_unwinding
use Rattle.plan_mean.specs.Unwinding.{shown}
use Rattle.ssa_ir.specs.declared.code.Function.{Function}
use Rattle.ssa_ir.specs.declared.code.FunctionKind.{FunctionKind}
use Rattle.ssa_ir.specs.declared.code.FunctionKind.TheVariants as kind
use Rattle.ssa_ir.specs.declared.operands.Operand.{Operand}
use Rattle.ssa_ir.specs.declared.ops.Op.TheVariants as op
use Rattle.ssa_mean.specs.Calls as calls
use Rattle.ssa_mean.specs.Calls.{results_of}
use Rattle.ssa_mean.specs.Operands.{values_of}
use Rattle.ssa_mean.specs.State as codes
use Rattle.ssa_mean.specs.State.{FrameState, Thrown, running, returning, panicking}
use Rattle.ssa_mean.specs.Step as steps
use Rattle.ssa_mean.specs.Unwinding as unwinding

-- ---- kinds of functions, and roles

source_role : (function : Function) (it : FunctionKind)
    → planned_unwinding.is_source (role_of function it) ≡ unwinding.is_source_kind it
source_role function kind.Source = refl
source_role function kind.Init = refl
source_role function kind.Wrapper = refl
source_role function kind.External = external (bytes_eq function.name (codes "os.Exit"))
  where
    external : (b : Bool) → planned_unwinding.is_source (if b then role.Exit else role.Gosched) ≡ false
    external true = refl
    external false = refl

wrapper_role : (function : Function) (it : FunctionKind)
    → planned_unwinding.is_wrapper (role_of function it) ≡ unwinding.is_wrapper_kind it
wrapper_role function kind.Source = refl
wrapper_role function kind.Init = refl
wrapper_role function kind.Wrapper = refl
wrapper_role function kind.External = external (bytes_eq function.name (codes "os.Exit"))
  where
    external : (b : Bool) → planned_unwinding.is_wrapper (if b then role.Exit else role.Gosched) ≡ false
    external true = refl
    external false = refl

pub same_source : (k : Known) → IsKnown k → (function : Function) (frame : codes.Frame) (row : List (Option Val)) (it : plans.Frame)
    → IsFrame k function frame row it → planned_unwinding.is_source it.function.role ≡ unwinding.is_source k.code frame
same_source k known function frame row it is =
    ap planned_unwinding.is_source (function_of k known function frame row it is).role
    ∙ source_role function function.kind
    ∙ sym (ap (λ (found : Option Function). option_map_or (λ f. unwinding.is_source_kind f.kind) found false) is.there)

pub same_wrapper : (k : Known) → IsKnown k → (function : Function) (frame : codes.Frame) (row : List (Option Val)) (it : plans.Frame)
    → IsFrame k function frame row it → planned_unwinding.is_wrapper_frame it ≡ unwinding.is_wrapper k.code frame
same_wrapper k known function frame row it is =
    ap planned_unwinding.is_wrapper (function_of k known function frame row it is).role
    ∙ wrapper_role function function.kind
    ∙ sym (ap (λ (found : Option Function). option_map_or (λ f. unwinding.is_wrapper_kind f.kind) found false) is.there)

-- a machine with the frames of the goroutine that runs, nothing pending in the top one
pub machine_with : (k : Known) (m : codes.Machine) (q : plans.Machine) → IsAround k m q → (g : codes.Goroutine)
    → slice_get m.goroutines m.sched.current.number ≡ Some g → (frames : List codes.Frame) (current : plans.Goroutine)
    → AreFrames k [] frames current.slots current.frames → IsLaterWhere g.begin current.begin → current.fault ≡ g.fault
    → current.sources ≡ sources_in k frames
    → IsMachine k [] (codes.with_frames g frames m) (record q { current = current })
machine_with k m q around g there frames current alike begin fault sources =
    record {
      around = around_with k m q around (record g { frames = frames }) current;
      g = record g { frames = frames };
      there = there_with m (record g { frames = frames }) g there;
      is = record { frames = alike; begin = begin; fault = fault; sources = sources };
      held = held_nothing k frames m.store;
    }

-- ---- `return`: the top frame goes, and the frame below gets the results

gone : (k : Known) → IsKnown k → (a : Acting) (step : Step) → IsActing k a step → (results : List Val)
    → Follows k (steps.returns (site_of k a) results)
    (planned_calls.returned results (plans.advanced a.planned ∷ a.others) (acting_on a))
gone k known a step acting results =
    subst (λ (q : plans.Machine). Follows k (steps.returns (site_of k a) results) (plans.goes q))
    (sym (result_slots a.planned.result (results_of results)
    (plans.with_current (planned_unwinding.popped (acting_on a).current) (acting_on a)))) (
      [],
      machine_with k a.m a.q acting.top.around a.g acting.top.there (calls.given a.frame results a.below)
          (record (planned_unwinding.popped (acting_on a).current) {
            slots = slots_after a.planned.result (results_of results) (below_top a.q.current.slots);
          })
          (as_frames k (calls.given a.frame results a.below) _ a.others
          (subst (λ frames. AreBelow k frames (slots_after a.planned.result (results_of results) (below_top a.q.current.slots)) a.others)
          (sym (given_is a.below))
          (below_given k a.below (below_top a.q.current.slots) a.others acting.top.below a.frame.result a.planned.result acting.top.result
          (results_of results))))
          acting.top.begin acting.top.fault
          (sources_below k a.frame a.below a.q.current.sources (planned_unwinding.is_source a.planned.function.role)
          (same_source k known a.function a.frame (top_of a.q.current.slots) a.planned acting.top.is) acting.top.sources
          ∙ sym (ap (sources_in k) (given_is a.below) ∙ sources_given k a.frame.result (results_of results) a.below)),
    )
  where
    given_is : (below : List codes.Frame)
        → calls.given a.frame results below ≡ frames_given a.frame.result (results_of results) below
    given_is [] = refl
    given_is (frame ∷ below) = refl

gone_where : (k : Known) → IsKnown k → (a : Acting) (step : Step) → IsActing k a step → (results : Option (List Val))
    → Follows k (codes.where_there (steps.returns (site_of k a)) results)
    (plans.where_there (λ results. planned_calls.returned results (plans.advanced a.planned ∷ a.others) (acting_on a)) results)
gone_where k known a step acting None = tt
gone_where k known a step acting (Some results) = gone k known a step acting results

return_step : (k : Known) → IsKnown k → (a : Acting) (step : Step) → IsActing k a step → (results : List Operand) (args : _)
    → AreArgs (plan_site k a) results args
    → Follows k (codes.where_there (steps.returns (site_of k a)) (values_of k.code a.frame results))
    (plans.where_there (λ results. planned_calls.returned results (plans.advanced a.planned ∷ a.others) (acting_on a))
    (look_at_all (acting_on a) args))
return_step k known a step acting results args are =
    subst (λ found. Follows k (codes.where_there (steps.returns (site_of k a)) (values_of k.code a.frame results))
    (plans.where_there (λ results. planned_calls.returned results (plans.advanced a.planned ∷ a.others) (acting_on a)) found))
    (sym (all_values k a step acting results args are))
    (gone_where k known a step acting (values_of k.code a.frame results))

pub return_alike : (results : List Operand) → IsAlike (op.Return results)
unfolding steps.acts planned.acts
return_alike results k known a register (act.Return values) may is acting =
    return_step k known a (act.Return values) acting results values.items is
return_alike results k known a register _ may is acting = absurd is

-- ---- the last of the calls that were put off

reverse_cons : {A : Type 0} (x : A) (xs : List A) → reverse (x ∷ xs) ≡ reverse xs ++ x ∷ []
reverse_cons x xs = reverse-append (x ∷ []) xs

pub reverse_last : (first : plans.Later) (others : List plans.Later)
    → reverse (first ∷ others) ≡ planned.last_of first others ∷ reverse (planned.front_of first others)
reverse_last first [] = refl
reverse_last first (second ∷ others) =
    reverse_cons first (second ∷ others)
    ∙ ap (λ its. its ++ first ∷ []) (reverse_last second others)
    ∙ ap (λ its. planned.last_of second others ∷ its) (sym (reverse_cons first (planned.front_of second others)))

last_alike : (defers : List codes.Later) (first : plans.Later) (others : List plans.Later)
    → AllZip IsLater defers (reverse (first ∷ others))
    → AllZip IsLater defers (planned.last_of first others ∷ reverse (planned.front_of first others))
last_alike defers first others alike = subst (λ its. AllZip IsLater defers its) (reverse_last first others) alike

-- ---- a frame that put calls off makes them now

-- behind its instruction, with a state
defers_machine : (k : Known) (a : Acting) (step : Step) → IsActing k a step → behind step a.pending ≡ [] → (state : FrameState)
    → (defers' : List plans.Later) → AllZip IsLater a.frame.defers (reverse defers')
    → Follows k (codes.goes (codes.with_frames a.g (codes.advanced (record (a.frame) { state = state }) ∷ a.below) a.m))
    (plans.goes (plans.with_frames (record (plans.advanced a.planned) { state = shown_state state; defers = defers' } ∷ a.others)
    (acting_on a)))
defers_machine k a step acting none state defers' alike = (
  [],
  machine_with k a.m a.q acting.top.around a.g acting.top.there
      (codes.advanced (record (a.frame) { state = state }) ∷ a.below)
      (record (a.q.current) {
        frames = record (plans.advanced a.planned) { state = shown_state state; defers = defers' } ∷ a.others;
      }) (
        record {
          function = a.function;
          is = frame_moved k a.function a.frame (top_of a.q.current.slots) a.planned acting.top.is a.frame.block (suc a.frame.place)
              state a.frame.defers a.planned.block a.planned.steps (suc a.planned.step) (shown_state state) defers' refl alike
              acting.top.is.recovers;
          top = placed (placed_as k a.function (codes.advanced a.frame) (plans.advanced a.planned)
              (subst (λ pending. IsPlaced k a.function pending (codes.advanced a.frame) (plans.advanced a.planned)) none acting.place)
              state a.frame.defers (shown_state state) defers');
          result = acting.top.result;
        },
        acting.top.below,
      )
      acting.top.begin acting.top.fault
      (acting.top.sources
      ∙ same_count (unwinding.is_source k.code) a.frame (codes.advanced (record (a.frame) { state = state })) a.below refl),
)

run_defers_by : (k : Known) (a : Acting) → IsActing k a act.RunDefers → (defers : List codes.Later) (defers' : List plans.Later)
    → a.frame.defers ≡ defers → AllZip IsLater defers (reverse defers')
    → Follows k
    (codes.goes (codes.with_frames a.g (codes.advanced (steps.returning_where a.frame defers) ∷ a.below) a.m))
    (planned.runs_defers (record (plans.advanced a.planned) { defers = defers' } ∷ a.others) (acting_on a))
run_defers_by k a acting [] [] same alike =
    subst (λ state. Follows k (codes.goes (codes.with_frames a.g (codes.advanced a.frame ∷ a.below) a.m))
    (plans.goes (plans.with_frames (record (plans.advanced a.planned) { state = state; defers = [] } ∷ a.others) (acting_on a))))
    (sym acting.top.is.state)
    (defers_machine k a act.RunDefers acting refl a.frame.state []
    (subst (λ (its : List codes.Later). AllZip IsLater its []) (sym same) alike))
run_defers_by k a acting [] (first ∷ others) same alike = absurd (last_alike [] first others alike)
run_defers_by k a acting (it ∷ defers) [] same alike = absurd alike
run_defers_by k a acting (it ∷ defers) (first ∷ others) same alike =
    defers_machine k a act.RunDefers acting refl returning (first ∷ others)
    (subst (λ (its : List codes.Later). AllZip IsLater its (reverse (first ∷ others))) (sym same) alike)

pub run_defers_alike : IsAlike op.RunDefers
unfolding steps.acts planned.acts
run_defers_alike k known a register act.RunDefers may is acting =
    run_defers_by k a acting a.frame.defers a.planned.defers refl acting.top.is.defers
run_defers_alike k known a register _ may is acting = absurd is

-- ---- a frame that has no calls any more: one that panics goes, with the wrappers below it

-- settled frames, and the planned goroutine with theirs
pub record IsLower (k : Known) (begin : Option plans.Later) (fault : Option Fault) (frames : List codes.Frame)
    (g : plans.Goroutine) : Type 0 where
  pub alike : AreBelow k frames g.slots g.frames
  pub sources : g.sources ≡ sources_in k frames
  pub same_begin : g.begin ≡ begin
  pub same_fault : g.fault ≡ fault

-- without its top frame
popped_lower : (k : Known) → IsKnown k → (frame : codes.Frame) (frames : List codes.Frame) (it : plans.Frame)
    (others : List plans.Frame) (g : plans.Goroutine) → (function : Function) → IsFrame k function frame (top_of g.slots) it
    → AreBelow k frames (below_top g.slots) others → g.sources ≡ sources_in k (frame ∷ frames)
    → IsLower k g.begin g.fault frames (planned_unwinding.popped (record g { frames = it ∷ others }))
popped_lower k known frame frames it others g function is alike sources =
    record {
      alike = alike;
      sources = sources_below k frame frames g.sources (planned_unwinding.is_source it.function.role)
          (same_source k known function frame (top_of g.slots) it is) sources;
      same_begin = refl;
      same_fault = refl;
    }

wrappers_by : (k : Known) (begin : Option plans.Later) (fault : Option Fault) (upper lower : List codes.Frame)
    (one other : plans.Goroutine) → IsLower k begin fault lower one → IsLower k begin fault upper other → (b : Bool)
    → IsLower k begin fault (if b then lower else upper) (if b then one else other)
wrappers_by k begin fault upper lower one other p q true = p
wrappers_by k begin fault upper lower one other p q false = q

-- the wrappers on top go
lower_wrappers : (k : Known) → IsKnown k → (frames : List codes.Frame) (others : List plans.Frame) (g : plans.Goroutine)
    → IsLower k g.begin g.fault frames (record g { frames = others })
    → IsLower k g.begin g.fault (unwinding.below_wrappers k.code frames)
    (planned_unwinding.without_wrappers others (record g { frames = others }))
lower_wrappers k known [] [] g lower = lower
lower_wrappers k known [] (it ∷ others) g lower = absurd lower.alike
lower_wrappers k known (frame ∷ frames) [] g lower = absurd lower.alike
lower_wrappers k known (frame ∷ frames) (it ∷ others) g lower =
    subst (λ (b : Bool). IsLower k g.begin g.fault (unwinding.below_wrappers k.code (frame ∷ frames))
    (if b then planned_unwinding.without_wrappers others (planned_unwinding.popped (record g { frames = it ∷ others }))
    else record g { frames = it ∷ others }))
    (sym (same_wrapper k known lower.alike.0.function frame (top_of g.slots) it lower.alike.0.is))
    (wrappers_by k g.begin g.fault (frame ∷ frames) (unwinding.below_wrappers k.code frames)
    (planned_unwinding.without_wrappers others (planned_unwinding.popped (record g { frames = it ∷ others })))
    (record g { frames = it ∷ others })
    (lower_wrappers k known frames others (planned_unwinding.popped (record g { frames = it ∷ others }))
    (popped_lower k known frame frames it others g lower.alike.0.function lower.alike.0.is lower.alike.1 lower.sources))
    lower (unwinding.is_wrapper k.code frame))

-- ---- the top frame that returns or panics

pub record IsUnwinding (k : Known) (m : codes.Machine) (q : plans.Machine) (g : codes.Goroutine) (frame : codes.Frame)
    (below : List codes.Frame) (it : plans.Frame) (others : List plans.Frame) : Type 0 where
  pub around : IsAround k m q
  pub there : slice_get m.goroutines m.sched.current.number ≡ Some g
  pub top : IsTopFrame k [] frame (top_of q.current.slots) it below
  pub lower : AreBelow k below (below_top q.current.slots) others
  pub begin : IsLaterWhere g.begin q.current.begin
  pub fault : q.current.fault ≡ g.fault
  pub sources : q.current.sources ≡ sources_in k (frame ∷ below)

-- one that returns goes on
goes_on : (k : Known) (m : codes.Machine) (q : plans.Machine) (g : codes.Goroutine) (frame : codes.Frame)
    (below : List codes.Frame) (it : plans.Frame) (others : List plans.Frame)
    → IsUnwinding k m q g frame below it others → is_panicking frame.state ≡ false
    → Follows k (codes.goes (codes.with_frames g (record frame { state = running } ∷ below) m))
    (plans.goes (plans.with_frames (record it { state = running } ∷ others) q))
goes_on k m q g frame below it others is calm = (
  [],
  machine_with k m q is.around g is.there (record frame { state = running } ∷ below)
      (record (q.current) { frames = record it { state = running } ∷ others }) (
        record {
          function = is.top.function;
          is = frame_moved k is.top.function frame (top_of q.current.slots) it is.top.is frame.block frame.place running
              frame.defers it.block it.steps it.step running it.defers refl is.top.is.defers is.top.is.recovers;
          top = calm_top is.top.top;
          result = is.top.result;
        },
        is.lower,
      )
      is.begin is.fault
      (is.sources ∙ same_count (unwinding.is_source k.code) frame (record frame { state = running }) below refl),
)
  where
    calm_top : IsTop k is.top.function [] frame it
        → IsTop k is.top.function [] (record frame { state = running }) (record it { state = running })
    calm_top (placed p) = placed (placed_as k is.top.function frame it p running frame.defers running it.defers)
    calm_top (lost l) = let clash : false ≡ true = sym calm ∙ l.panics in absurd cc

calm_running : (state : FrameState) → state ≡ running → is_panicking state ≡ false
calm_running state same = ap is_panicking same

calm_returning : (state : FrameState) → state ≡ returning → is_panicking state ≡ false
calm_returning state same = ap is_panicking same

-- without calls that were put off
unwound_alike : (k : Known) → IsKnown k → (m : codes.Machine) (q : plans.Machine) (g : codes.Goroutine) (frame : codes.Frame)
    (below : List codes.Frame) (it : plans.Frame) (others : List plans.Frame)
    → IsUnwinding k m q g frame below it others → (state : FrameState) → frame.state ≡ state
    → Follows k (unwinding.unwound k.code m g frame below state)
    (planned_unwinding.unwound k.w (record q { current = record (q.current) { frames = it ∷ others } }) it others (shown_state state))
unwound_alike k known m q g frame below it others is (panicking thrown) same =
    let lower = lower_wrappers k known below others
    (planned_unwinding.popped (record (q.current) { frames = it ∷ others }))
    (popped_lower k known frame below it others q.current is.top.function is.top.is is.lower is.sources) in
    let now = planned_unwinding.removed (record (q.current) { frames = it ∷ others }) in
    throws_here k known m (record q { current = now }) (around_current k m q is.around now) g is.there
    (subst (λ (b : Option plans.Later). IsLaterWhere g.begin b) (sym lower.same_begin) is.begin)
    (lower.same_fault ∙ is.fault) (unwinding.below_wrappers k.code below) now.frames lower.sources
    (as_frames k (unwinding.below_wrappers k.code below) now.slots now.frames lower.alike) thrown
unwound_alike k known m q g frame below it others is running same =
    goes_on k m q g frame below it others is (calm_running frame.state same)
unwound_alike k known m q g frame below it others is returning same =
    goes_on k m q g frame below it others is (calm_returning frame.state same)

-- ---- the last call that was put off is made

pub settled_with : (k : Known) (m : codes.Machine) (q : plans.Machine) → IsAround k m q → (g : codes.Goroutine)
    → slice_get m.goroutines m.sched.current.number ≡ Some g → (frames : List codes.Frame) (current : plans.Goroutine)
    → AreBelow k frames current.slots current.frames → IsLaterWhere g.begin current.begin → current.fault ≡ g.fault
    → current.sources ≡ sources_in k frames
    → IsSettled k (codes.with_frames g frames m) (record q { current = current })
settled_with k m q around g there frames current alike begin fault sources =
    record {
      around = around_with k m q around (record g { frames = frames }) current;
      g = record g { frames = frames };
      there = there_with m (record g { frames = frames }) g there;
      frames = alike;
      begin = begin;
      fault = fault;
      sources = sources;
    }

-- a frame that has put calls off stands where both go on
some_placed : (k : Known) (function : Function) (frame : codes.Frame) (it : plans.Frame) → IsTop k function [] frame it
    → (later : codes.Later) (defers : List codes.Later) → frame.defers ≡ later ∷ defers → IsPlaced k function [] frame it
some_placed k function frame it (placed p) later defers same = p
some_placed k function frame it (lost l) later defers same =
    let clash : later ∷ defers ≡ [] = sym same ∙ l.no_defers in absurd (some_items later defers clash)
  where
    some_items : {A : Type 0} (x : A) (xs : List A) → x ∷ xs ≡ [] → ⊥
    some_items x xs clash = cc

fewer_recovers : (defers : List codes.Later) (later : codes.Later) (function : Function)
    → Recovers (later ∷ defers) function → Recovers defers function
fewer_recovers [] later function recovers = tt
fewer_recovers (it ∷ defers) later function recovers = recovers

unwinds_by : (k : Known) → IsKnown k → (m : codes.Machine) (q : plans.Machine) (g : codes.Goroutine) (frame : codes.Frame)
    (below : List codes.Frame) (it : plans.Frame) (others : List plans.Frame)
    → IsUnwinding k m q g frame below it others → (defers : List codes.Later) (defers' : List plans.Later)
    → frame.defers ≡ defers → AllZip IsLater defers (reverse defers')
    → Follows k (steps.unwinds k.w.answers k.code m g frame below defers)
    (planned.unwinds k.w (record q { current = record (q.current) { frames = it ∷ others } }) it others defers')
unwinds_by k known m q g frame below it others is [] [] same alike =
    subst (λ (state : FrameState). Follows k (unwinding.unwound k.code m g frame below frame.state)
    (planned_unwinding.unwound k.w (record q { current = record (q.current) { frames = it ∷ others } }) it others state))
    (sym is.top.is.state)
    (unwound_alike k known m q g frame below it others is frame.state refl)
unwinds_by k known m q g frame below it others is [] (first ∷ rest) same alike = absurd (last_alike [] first rest alike)
unwinds_by k known m q g frame below it others is (later ∷ defers) [] same alike = absurd alike
unwinds_by k known m q g frame below it others is (later ∷ defers) (first ∷ rest) same alike =
    let both = last_alike (later ∷ defers) first rest alike in
    makes_alike k known (codes.with_frames g (record frame { defers = defers } ∷ below) m)
    (record q { current = record (q.current) { frames = record it { defers = planned.front_of first rest } ∷ others } })
    (settled_with k m q is.around g is.there (record frame { defers = defers } ∷ below)
    (record (q.current) { frames = record it { defers = planned.front_of first rest } ∷ others }) (
      record {
        function = is.top.function;
        is = frame_moved k is.top.function frame (top_of q.current.slots) it is.top.is frame.block frame.place frame.state
            defers it.block it.steps it.step it.state (planned.front_of first rest) is.top.is.state both.1
            (fewer_recovers defers later is.top.function
            (subst (λ (its : List codes.Later). Recovers its is.top.function) same is.top.is.recovers));
        placed = placed_as k is.top.function frame it
            (some_placed k is.top.function frame it is.top.top later defers same)
            frame.state defers it.state (planned.front_of first rest);
        result = is.top.result;
      },
      is.lower,
    )
    is.begin is.fault
    (is.sources ∙ same_count (unwinding.is_source k.code) frame (record frame { defers = defers }) below refl))
    later (planned.last_of first rest) both.0 true

pub unwinds_alike : (k : Known) → IsKnown k → (m : codes.Machine) (q : plans.Machine) (g : codes.Goroutine) (frame : codes.Frame)
    (below : List codes.Frame) (it : plans.Frame) (others : List plans.Frame)
    → IsUnwinding k m q g frame below it others
    → Follows k (steps.unwinds k.w.answers k.code m g frame below frame.defers)
    (planned.unwinds k.w (record q { current = record (q.current) { frames = it ∷ others } }) it others it.defers)
unwinds_alike k known m q g frame below it others is =
    unwinds_by k known m q g frame below it others is frame.defers it.defers refl is.top.is.defers
