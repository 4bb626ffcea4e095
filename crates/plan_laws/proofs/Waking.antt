-- Goroutines that waited go on in both machines, behind the instruction and the step at which they waited.
use Rattle.std.proofs.Common.{refl, ap, sym, ◌∙◌, subst, subst₂, length-set, ◌⊎◌, inl, inr, true≢false}
use Rattle.std.proofs.lemmas.Bool.{cases_eq, and_parts, not-true}
use Rattle.std.proofs.lemmas.Option.{none-some, same_Some}
use Rattle.std.specs.Option.{option_and_then, option_map, option_map_or}
use Rattle.std.specs.Prelude.{ℕ, ◌≡◌, Bool, true, false, not, ◌&&◌, List, [], ◌∷◌, Option, Some, None, slice_get}
use Rattle.std.specs.Prelude.{slice_set}
use Rattle.code_plan.specs.Registers.{Marks, before, may_give, register_slot}
use Rattle.code_plan.specs.declared.steps.Step.{Step}
use Rattle.go_base.specs.declared.ids.FuncId.{FuncId}
use Rattle.go_sched.specs.Operations.{How, Woken, sent, received, send_on_closed}
use Rattle.go_value.specs.Values.{Val}
use Rattle.plan_laws.proofs.Acting.{FollowsWhere, MayPoint}
use Rattle.plan_laws.proofs.Alike.{Known, IsKnown, IsMachine, IsGoroutine, IsFrame, IsPlaced, IsTop, placed, lost}
use Rattle.plan_laws.proofs.Alike.{AreFrames, AreBelow, IsTopFrame, GetsResult, HasSlots, IsOther, is_panicking}
use Rattle.plan_laws.proofs.Alike.{IsLaterWhere, sources_in, IsAround, IsPlaceholder}
use Rattle.plan_laws.proofs.Going.{frame_with, frame_advanced}
use Rattle.plan_laws.proofs.Lists.{get_set, get_set_other, same_count}
use Rattle.plan_laws.proofs.Receiving.{IsGiven, IsWaiting, given_waits, one_given}
use Rattle.plan_laws.proofs.Slots.{slots_with, cells_with, top_with, below_with, placed_with}
use Rattle.plan_laws.proofs.Standing.{StandsAt, stands_at}
use Rattle.plan_mean.specs.Channels as planned_channels
use Rattle.plan_mean.specs.Channels.{Given}
use Rattle.plan_mean.specs.Slots.{top_of, below_top, with_slot}
use Rattle.plan_mean.specs.State as plans
use Rattle.ssa_ir.specs.declared.code.Function.{Function}
use Rattle.ssa_ir.specs.declared.ops.Instr.{Instr}
use Rattle.ssa_ir.specs.declared.ops.Op.{Op}
use Rattle.ssa_ir.specs.declared.ops.Op.TheVariants as op
use Rattle.ssa_mean.specs.Channels as channels
use Rattle.ssa_mean.specs.Operands.{function_at}
use Rattle.ssa_mean.specs.State as codes
use Rattle.ssa_mean.specs.State.{FrameState, running}
use Rattle.ssa_mean.specs.Unwinding.{is_source, is_source_kind}

-- ---- a register that may get what an operation gives

both_false : (a b : Bool) → (not a && not b) ≡ true → (a ≡ false) × (b ≡ false)
both_false a b h =
    let both : (not a ≡ true) × (not b ≡ true) = and_parts (not a) (not b) h in (not-true a both.0, not-true b both.1)

-- it is neither loaded late, nor does it point to a cell
pub waiting_gives : (marks : Marks) (at : Op) (register : ℕ) → IsWaiting at → may_give marks at (Some register) ≡ true
    → (marks.late register ≡ false) × (marks.cell register ≡ false)
waiting_gives marks (op.Send channel it) register waits may = both_false _ _ may
waiting_gives marks (op.Receive channel comma_ok) register waits may = both_false _ _ may
waiting_gives marks (op.Select blocking cases) register waits may = both_false _ _ may
waiting_gives marks _ register waits may = absurd waits

-- ---- a frame gets what it waited for

-- with its row, over the rows below it
abbrev pub IsWoken : Known → Function → codes.Frame → plans.Frame → List (List (Option Val)) → List (List (Option Val))
    → Type 0
IsWoken k function frame planned old new =
    IsFrame k function frame (top_of new) planned × IsPlaced k function [] frame planned × (below_top new ≡ below_top old)

written_frame : (k : Known) (function : Function) (frame : codes.Frame) (planned : plans.Frame)
    (slots : List (List (Option Val))) → IsFrame k function frame (top_of slots) planned
    → IsPlaced k function [] (codes.advanced frame) (plans.advanced planned) → (register : ℕ) (it : Val)
    → (k.marks frame.function.number).cell register ≡ false
    → IsWoken k function (codes.advanced (codes.with_register register it frame)) (plans.advanced planned) slots
    (with_slot (register_slot function register) it slots)
written_frame k function frame planned slots is is_placed register it no_cell =
    let registers : List (Option Val) = slice_set frame.registers register (Some it) in
    let row : List (Option Val) = top_of (with_slot (register_slot function register) it slots) in (
      frame_advanced k function (codes.with_register register it frame) row planned
          (frame_with k function frame (top_of slots) planned is registers row
          (subst (HasSlots function (k.marks frame.function.number) (codes.with_register register it frame))
          (sym (top_with slots (register_slot function register) it))
          (slots_with function (k.marks frame.function.number) frame (top_of slots) is.slots register it))
          (cells_with (k.marks frame.function.number) [] frame is.cells register it
          (subst (λ (b : Bool). MayPoint b [] it) (sym no_cell) tt))),
      placed_with k function [] (codes.advanced frame) (plans.advanced planned) registers is_placed,
      below_with slots (register_slot function register) it,
    )

same_frame : (k : Known) (function : Function) (frame : codes.Frame) (planned : plans.Frame)
    (slots : List (List (Option Val))) → IsFrame k function frame (top_of slots) planned
    → IsPlaced k function [] (codes.advanced frame) (plans.advanced planned)
    → IsWoken k function (codes.advanced frame) (plans.advanced planned) slots slots
same_frame k function frame planned slots is is_placed =
    (frame_advanced k function frame (top_of slots) planned is, is_placed, refl)

given_frame : (k : Known) (function : Function) (frame : codes.Frame) (planned : plans.Frame)
    (slots : List (List (Option Val))) → IsFrame k function frame (top_of slots) planned
    → IsPlaced k function [] (codes.advanced frame) (plans.advanced planned) → (at : Op) (register : Option ℕ)
    → IsWaiting at → may_give (k.marks frame.function.number) at register ≡ true → (value : Option Val) (given : Given)
    → IsGiven function register value given
    → IsWoken k function (codes.advanced (codes.with_result register value frame)) (plans.advanced planned) slots
    (planned_channels.with_given given slots)
given_frame k function frame planned slots is is_placed at (Some register) waits may (Some it) given gives =
    subst (λ (given : Given). IsWoken k function (codes.advanced (codes.with_register register it frame))
    (plans.advanced planned) slots (planned_channels.with_given given slots)) (sym gives.1)
    (subst (λ (slot : ℕ). IsWoken k function (codes.advanced (codes.with_register register it frame))
    (plans.advanced planned) slots (with_slot slot it slots))
    (same_Some (register_slot function register) gives.0 gives.2)
    (written_frame k function frame planned slots is is_placed register it
    (waiting_gives (k.marks frame.function.number) at register waits may).1))
given_frame k function frame planned slots is is_placed at None waits may (Some it) given gives =
    absurd (none-some gives.0 gives.2)
given_frame k function frame planned slots is is_placed at (Some register) waits may None given gives =
    subst (λ (given : Given). IsWoken k function (codes.advanced frame) (plans.advanced planned) slots
    (planned_channels.with_given given slots)) (sym gives) (same_frame k function frame planned slots is is_placed)
given_frame k function frame planned slots is is_placed at None waits may None given gives =
    subst (λ (given : Given). IsWoken k function (codes.advanced frame) (plans.advanced planned) slots
    (planned_channels.with_given given slots)) (sym gives) (same_frame k function frame planned slots is is_placed)

-- ---- the top frame goes on

-- where the code has a frame that goes on, and the plan a step, the frames are alike
abbrev pub WokenTop : Known → Woken → codes.Frame → List codes.Frame → List (List (Option Val)) → plans.Frame
    → List plans.Frame → Option codes.Frame → Option Step → Type 0
WokenTop k it top below slots planned others None found = Unit {0}
WokenTop k it top below slots planned others (Some frame) None = Unit {0}
WokenTop k it top below slots planned others (Some frame) (Some step) =
    AreFrames k [] (frame ∷ below) (planned_channels.with_given (planned_channels.given_by it step) slots)
    (plans.advanced planned ∷ others) × (frame.function ≡ top.function)

module _ (k : Known) (it : Woken) (top : codes.Frame) (below : List codes.Frame) (slots : List (List (Option Val)))
    (planned : plans.Frame) (others : List plans.Frame) (is : IsTopFrame k [] top (top_of slots) planned below)
    (are : AreBelow k below (below_top slots) others) where
  result_kept : (register : Option ℕ) (value : Option Val)
      → GetsResult k (codes.advanced (codes.with_result register value top)).result (plans.advanced planned).result below
  result_kept (Some register) (Some value) = is.result
  result_kept (Some register) None = is.result
  result_kept None value = is.result

  function_kept : (register : Option ℕ) (value : Option Val)
      → (codes.advanced (codes.with_result register value top)).function ≡ top.function
  function_kept (Some register) (Some value) = refl
  function_kept (Some register) None = refl
  function_kept None value = refl

  woken_by : (instr : Instr) (value : Option Val) (at : StandsAt k is.function top planned instr)
      → IsGiven is.function instr.register value (planned_channels.given_by it at.step) → IsWaiting instr.op
      → WokenTop k it top below slots planned others
      (Some (codes.advanced (codes.with_result instr.register value top))) (slice_get planned.steps planned.step)
  woken_by instr value at gives waits =
      let woken = given_frame k is.function top planned slots is.is at.behind instr.op instr.register waits at.may value
      (planned_channels.given_by it at.step) gives in
      subst (WokenTop k it top below slots planned others
      (Some (codes.advanced (codes.with_result instr.register value top)))) (sym at.is) (
        (
          record {
            function = is.function;
            is = woken.0;
            top = placed woken.1;
            result = result_kept instr.register value;
          },
          subst (λ rows. AreBelow k below rows others) (sym woken.2) are,
        ),
        function_kept instr.register value,
      )

  -- the plan has a step wherever the code has a frame that goes on
  value_given : IsPlaced k is.function [] top planned → (instr : Instr)
      → channels.instr_at is.function top ≡ Some instr → (value : Option (Option Val))
      → channels.given_by k.code is.function it.index it.how instr.op ≡ value
      → WokenTop k it top below slots planned others
      (option_map (λ value. codes.advanced (codes.with_result instr.register value top)) value)
      (slice_get planned.steps planned.step)
  value_given is_placed instr there None gives = tt
  value_given is_placed instr there (Some value) gives =
      let waits : IsWaiting instr.op = given_waits k.code is.function it.index it.how instr.op value gives in
      let at : StandsAt k is.function top planned instr =
      stands_at k is.function top planned is_placed instr there waits in
      woken_by instr value at (one_given (record {
        code = k.code;
        function = is.function;
        marks = k.marks top.function.number;
        pending = before instr.op [];
      }) instr.register instr.op at.step at.made waits it value gives) waits

  instr_given : IsPlaced k is.function [] top planned → (instr : Option Instr)
      → channels.instr_at is.function top ≡ instr
      → WokenTop k it top below slots planned others
      (option_and_then (channels.gone_behind k.code is.function it top) instr) (slice_get planned.steps planned.step)
  instr_given is_placed None there = tt
  instr_given is_placed (Some instr) there =
      value_given is_placed instr there (channels.given_by k.code is.function it.index it.how instr.op) refl

  -- a frame that panics goes on nowhere
  top_given : IsTop k is.function [] top planned → top.state ≡ running
      → WokenTop k it top below slots planned others
      (option_and_then (channels.gone_behind k.code is.function it top) (channels.instr_at is.function top))
      (slice_get planned.steps planned.step)
  top_given (placed is_placed) runs = instr_given is_placed (channels.instr_at is.function top) refl
  top_given (lost is_lost) runs = absurd (true≢false (sym is_lost.panics ∙ ap is_panicking runs))

  state_given : (state : FrameState) → top.state ≡ state
      → WokenTop k it top below slots planned others
      (channels.where_running state (option_and_then (λ function.
      option_and_then (channels.gone_behind k.code function it top) (channels.instr_at function top))
      (function_at k.code top.function))) (slice_get planned.steps planned.step)
  state_given running runs =
      subst (λ (found : Option Function). WokenTop k it top below slots planned others
      (option_and_then (λ function.
      option_and_then (channels.gone_behind k.code function it top) (channels.instr_at function top)) found)
      (slice_get planned.steps planned.step)) (sym is.is.there) (top_given is.top runs)
  state_given _ runs = tt

  pub top_woken : WokenTop k it top below slots planned others (channels.woken_frame k.code it top)
      (slice_get planned.steps planned.step)
  top_woken = state_given top.state refl

-- ---- a goroutine goes on

abbrev pub WokenWhere : Known → Option codes.Goroutine → Option plans.Goroutine → Type 0
WokenWhere k None planned = Unit {0}
WokenWhere k (Some g) None = Unit {0}
WokenWhere k (Some g) (Some planned) = IsGoroutine k [] g planned

module _ (k : Known) (it : Woken) (g : codes.Goroutine) (planned : plans.Goroutine)
    (is : IsLaterWhere g.begin planned.begin) (fault : planned.fault ≡ g.fault) where
  same_fault : (how : How) → planned_channels.fault_after how planned.fault ≡ channels.fault_after how g.fault
  same_fault sent = fault
  same_fault (received got) = fault
  same_fault send_on_closed = refl

  -- by what its top frame does
  frames_woken : (top : codes.Frame) (below : List codes.Frame) (first : plans.Frame) (others : List plans.Frame)
      → planned.sources ≡ sources_in k (top ∷ below) → (frame : Option codes.Frame) (step : Option Step)
      → WokenTop k it top below planned.slots first others frame step
      → WokenWhere k
      (option_map (λ frames. record g { frames = frames; fault = channels.fault_after it.how g.fault })
      (option_map (λ top. top ∷ below) frame))
      (option_map (planned_channels.gone_behind it (record planned { frames = first ∷ others })) step)
  frames_woken top below first others sources None step woken = tt
  frames_woken top below first others sources (Some frame) None woken = tt
  frames_woken top below first others sources (Some frame) (Some step) woken =
      record {
        frames = woken.0;
        begin = is;
        fault = same_fault it.how;
        sources = sources ∙ same_count (is_source k.code) top frame below (ap (λ (id : FuncId). option_map_or
            (λ function. is_source_kind function.kind) (function_at k.code id) false) (sym woken.1));
      }

goroutine_woken : (k : Known) (it : Woken) (g : codes.Goroutine) (planned : plans.Goroutine)
    → (frames : List codes.Frame) (others : List plans.Frame) → AreFrames k [] frames planned.slots others
    → IsLaterWhere g.begin planned.begin → planned.fault ≡ g.fault → planned.sources ≡ sources_in k frames
    → WokenWhere k (channels.woken_goroutine k.code it (record g { frames = frames }))
    (planned_channels.woken_goroutine it (record planned { frames = others }))
goroutine_woken k it g planned [] others are begin fault sources = tt
goroutine_woken k it g planned (top ∷ below) [] are begin fault sources = absurd are
goroutine_woken k it g planned (top ∷ below) (first ∷ others) are begin fault sources =
    frames_woken k it g planned begin fault top below first others sources (channels.woken_frame k.code it top)
    (slice_get first.steps first.step) (top_woken k it top below planned.slots first others are.0 are.1)

-- ---- the machines go on

nothing_follows : (k : Known) (m : Option codes.Machine) → FollowsWhere k m None
nothing_follows k None = tt
nothing_follows k (Some m) = tt

-- the machines where one of the others is changed
abbrev pub with_other : ℕ → plans.Goroutine → plans.Machine → plans.Machine
with_other n planned q = record q { others = slice_set q.others n planned }

changed_others : (k : Known) (m : codes.Machine) (q : plans.Machine) (n : ℕ) (old g : codes.Goroutine)
    (planned_old planned : plans.Goroutine) → IsAround k m q → slice_get m.goroutines n ≡ Some old
    → slice_get q.others n ≡ Some planned_old → IsGoroutine k [] g planned → (i : ℕ)
    → (i ≡ m.sched.current.number → ⊥) → (i ≡ n) ⊎ (i ≡ n → ⊥)
    → IsOther k (slice_get (slice_set m.goroutines n g) i) (slice_get (slice_set q.others n planned) i)
changed_others k m q n old g planned_old planned around there planned_there is i not_current (inl same) =
    subst₂ (IsOther k) (sym (ap (slice_get (slice_set m.goroutines n g)) same ∙ get_set m.goroutines n g old there))
    (sym (ap (slice_get (slice_set q.others n planned)) same
    ∙ get_set q.others n planned planned_old planned_there)) is
changed_others k m q n old g planned_old planned around there planned_there is i not_current (inr other) =
    subst₂ (IsOther k) (sym (get_set_other m.goroutines n i g other)) (sym (get_set_other q.others n i planned other))
    (around.others i not_current)

other_machine : (k : Known) (m : codes.Machine) (q : plans.Machine) → IsMachine k [] m q → (n : ℕ)
    → (n ≡ m.sched.current.number → ⊥) → (old g : codes.Goroutine) (planned_old planned : plans.Goroutine)
    → slice_get m.goroutines n ≡ Some old → slice_get q.others n ≡ Some planned_old → IsGoroutine k [] g planned
    → IsMachine k [] (codes.with_goroutine n g m) (with_other n planned q)
other_machine k m q it n other old g planned_old planned there planned_there is =
    record {
      around = record {
        others = λ i not_current. changed_others k m q n old g planned_old planned it.around there planned_there is i
            not_current (cases_eq i n);
        holder = subst IsPlaceholder (sym (get_set_other q.others n m.sched.current.number planned
            (λ e. other (sym e)))) it.around.holder;
        count = length-set q.others n planned ∙ it.around.count ∙ sym (length-set m.goroutines n g);
        starts = it.around.starts;
        store = it.around.store;
        sched = it.around.sched;
        ticks = it.around.ticks;
        output = it.around.output;
      };
      g = it.g;
      there = get_set_other m.goroutines n m.sched.current.number g (λ e. other (sym e)) ∙ it.there;
      is = it.is;
      held = it.held;
    }

module _ (k : Known) (it : Woken) (m : codes.Machine) (q : plans.Machine) (is : IsMachine k [] m q) where
  -- the machines, where the goroutines are there
  abbrev AreWoken : Option codes.Goroutine → Option plans.Goroutine → Type 0
  AreWoken g planned =
      FollowsWhere k (option_map (λ g. codes.with_goroutine it.goroutine.number g m) g)
      (option_map (λ planned. with_other it.goroutine.number planned q) planned)

  machines_woken : (it.goroutine.number ≡ m.sched.current.number → ⊥) → (old : codes.Goroutine)
      (planned_old : plans.Goroutine) → slice_get m.goroutines it.goroutine.number ≡ Some old
      → slice_get q.others it.goroutine.number ≡ Some planned_old → (g : Option codes.Goroutine)
      (planned : Option plans.Goroutine) → WokenWhere k g planned → AreWoken g planned
  machines_woken other old planned_old there planned_there None planned woken = tt
  machines_woken other old planned_old there planned_there (Some g) None woken = tt
  machines_woken other old planned_old there planned_there (Some g) (Some planned) woken =
      other_machine k m q is it.goroutine.number other old g planned_old planned there planned_there woken

  others_woken : (it.goroutine.number ≡ m.sched.current.number → ⊥) → (g : Option codes.Goroutine)
      (planned : Option plans.Goroutine) → slice_get m.goroutines it.goroutine.number ≡ g
      → slice_get q.others it.goroutine.number ≡ planned → IsOther k g planned
      → AreWoken (option_and_then (channels.woken_goroutine k.code it) g)
      (option_and_then (planned_channels.woken_goroutine it) planned)
  others_woken other None planned there planned_there alike = tt
  others_woken other (Some g) None there planned_there alike = absurd alike
  others_woken other (Some g) (Some planned) there planned_there alike =
      machines_woken other g planned there planned_there (channels.woken_goroutine k.code it g)
      (planned_channels.woken_goroutine it planned)
      (goroutine_woken k it g planned g.frames planned.frames alike.frames alike.begin alike.fault alike.sources)

  -- what stands in the place of the one that runs goes on nowhere
  not_woken : (planned : Option plans.Goroutine) → IsPlaceholder planned
      → option_and_then (planned_channels.woken_goroutine it) planned ≡ None
  not_woken None holder = absurd holder
  not_woken (Some planned) holder =
      ap (λ frames. option_map (planned_channels.gone_behind it planned) (planned_channels.step_at frames)) holder

  woken_at : (it.goroutine.number ≡ m.sched.current.number) ⊎ (it.goroutine.number ≡ m.sched.current.number → ⊥)
      → FollowsWhere k (channels.woken k.code it m) (planned_channels.woken it q)
  woken_at (inl same) =
      subst (λ (planned : Option plans.Goroutine). AreWoken
      (option_and_then (channels.woken_goroutine k.code it) (slice_get m.goroutines it.goroutine.number)) planned)
      (sym (ap (λ (n : ℕ). option_and_then (planned_channels.woken_goroutine it) (slice_get q.others n)) same
      ∙ not_woken (slice_get q.others m.sched.current.number) is.around.holder)) (nothing_follows k _)
  woken_at (inr other) =
      others_woken other (slice_get m.goroutines it.goroutine.number) (slice_get q.others it.goroutine.number) refl refl
      (is.around.others it.goroutine.number other)

one_woken : (k : Known) → IsKnown k → (it : Woken) (m : codes.Machine) (q : plans.Machine) → IsMachine k [] m q
    → FollowsWhere k (channels.woken k.code it m) (planned_channels.woken it q)
one_woken k known it m q is = woken_at k it m q is (cases_eq it.goroutine.number m.sched.current.number)

both_woken : (k : Known) (next : codes.Machine → Option codes.Machine) (planned_next : plans.Machine → Option plans.Machine)
    → ((m : codes.Machine) (q : plans.Machine) → IsMachine k [] m q → FollowsWhere k (next m) (planned_next q))
    → (m : Option codes.Machine) (q : Option plans.Machine) → FollowsWhere k m q
    → FollowsWhere k (option_and_then next m) (option_and_then planned_next q)
both_woken k next planned_next follow None q is = tt
both_woken k next planned_next follow (Some m) None is = nothing_follows k (next m)
both_woken k next planned_next follow (Some m) (Some q) is = follow m q is

pub woken_alike : (k : Known) → IsKnown k → (its : List Woken) (m : codes.Machine) (q : plans.Machine) → IsMachine k [] m q
    → FollowsWhere k (channels.all_woken k.code its m) (planned_channels.all_woken its q)
woken_alike k known [] m q is = is
woken_alike k known (it ∷ others) m q is =
    both_woken k (channels.all_woken k.code others) (planned_channels.all_woken others) (woken_alike k known others)
    (channels.woken k.code it m) (planned_channels.woken it q) (one_woken k known it m q is)
