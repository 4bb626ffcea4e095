-- An instruction is done in both machines: its register gets a value, or nothing; or a fault is met.
use Rattle.std.proofs.Common.{ℕ, ◌≡◌, List, ◌∷◌, Option, Some, None, refl, sym, ap, subst, ◌∙◌}
use Rattle.std.specs.Prelude.{slice_get, slice_set}
use Rattle.code_plan.specs.Registers.{behind, register_slot}
use Rattle.code_plan.specs.declared.steps.Step.{Step}
use Rattle.go_base.specs.declared.ids.GoId.{GoId}
use Rattle.go_value.specs.Values.{Val}
use Rattle.plan_laws.proofs.Acting.{Acting, IsActing, Change, IsChange, IsSlot, MayHold, site_of, acting_on, code_with, plan_with}
use Rattle.plan_laws.proofs.Alike.{runs_where}
use Rattle.plan_laws.proofs.Alike.{Known, Follows, IsFrame, HasSlots, HasCells, ArePending, IsAround, IsMachine, AreBelow}
use Rattle.plan_laws.proofs.Alike.{IsPlaceholder, IsTopFrame, placed}
use Rattle.plan_laws.proofs.Around.{around_with, there_with}
use Rattle.plan_laws.proofs.Lists.{same_count}
use Rattle.plan_laws.proofs.Slots.{slots_as, slots_with, cells_with, pending_as, pending_with, placed_with, top_with, below_with}
use Rattle.plan_mean.specs.Slots.{top_of, below_top, with_slot}
use Rattle.plan_mean.specs.State as plans
use Rattle.ssa_ir.specs.declared.code.Function.{Function}
use Rattle.ssa_mean.specs.State as codes
use Rattle.ssa_mean.specs.Step as steps
use Rattle.ssa_mean.specs.Unwinding.{is_source}

-- ---- what is around, with a change that both machines make

pub around_changed : (k : Known) (m : codes.Machine) (q : plans.Machine) → IsAround k m q → (c : Change)
    → c.sched.current ≡ m.sched.current → IsAround k (code_with c m) (plan_with c q)
around_changed k m q around c same =
    record {
      others = λ n other. around.others n (λ is. other (is ∙ ap (λ (id : GoId). id.number) (sym same)));
      holder =
          subst (λ (id : GoId). IsPlaceholder (slice_get q.others id.number)) (sym same) around.holder;
      count = around.count;
      starts = around.starts;
      store = refl;
      sched = refl;
      ticks = refl;
      output = refl;
    }

-- no change
abbrev pub unchanged : codes.Machine → Change
unchanged m = record { store = m.store; sched = m.sched; ticks = m.ticks; output = m.output }

-- ---- frames that get values

pub frame_with : (k : Known) (function : Function) (frame : codes.Frame) (row : List (Option Val)) (it : plans.Frame)
    → IsFrame k function frame row it → (registers : List (Option Val)) (row' : List (Option Val))
    → HasSlots function (k.marks frame.function.number) (record frame { registers = registers }) row'
    → HasCells (k.marks frame.function.number) (record frame { registers = registers })
    → IsFrame k function (record frame { registers = registers }) row' it
frame_with k function frame row it is registers row' slots cells =
    record {
      there = is.there;
      planned_there = is.planned_there;
      slots = slots;
      cells = cells;
      deferred = is.deferred;
      state = is.state;
      chain = is.chain;
      passed = is.passed;
      defers = is.defers;
      recovers = is.recovers;
    }

-- behind an instruction and its step
pub frame_advanced : (k : Known) (function : Function) (frame : codes.Frame) (row : List (Option Val)) (it : plans.Frame)
    → IsFrame k function frame row it → IsFrame k function (codes.advanced frame) row (plans.advanced it)
frame_advanced k function frame row it is =
    record {
      there = is.there;
      planned_there = is.planned_there;
      slots =
          slots_as function (k.marks frame.function.number) frame (codes.advanced frame) row
          (record { parameters = refl; free = refl; registers = refl }) is.slots;
      cells = is.cells;
      deferred = is.deferred;
      state = is.state;
      chain = is.chain;
      passed = is.passed;
      defers = is.defers;
      recovers = is.recovers;
    }

-- ---- both machines behind the instruction, with other values in the registers and their slots

pub machine_with : (k : Known) (a : Acting) (step : Step) → IsActing k a step → (c : Change) → IsChange k a step c
    → (registers : List (Option Val)) (slots : List (List (Option Val)))
    → HasSlots a.function (k.marks a.frame.function.number) (record (a.frame) { registers = registers }) (top_of slots)
    → HasCells (k.marks a.frame.function.number) (record (a.frame) { registers = registers })
    → ArePending (k.marks a.frame.function.number) c.store (behind step a.pending) (record (a.frame) { registers = registers })
    → below_top slots ≡ below_top a.q.current.slots
    → IsMachine k (behind step a.pending)
    (codes.with_frames a.g (codes.advanced (record (a.frame) { registers = registers }) ∷ a.below) (code_with c a.m))
    (plans.with_slots slots (plan_with c (acting_on a)))
machine_with k a step acting c change registers slots has cells are same =
    record {
      around =
          around_with k (code_with c a.m) (plan_with c a.q)
          (around_changed k a.m a.q acting.top.around c change.current) goroutine current;
      g = goroutine;
      there = there_with (code_with c a.m) goroutine a.g there;
      is = record {
        frames = (top, subst (λ rows. AreBelow k a.below rows a.others) (sym same) acting.top.below);
        begin = acting.top.begin;
        fault = acting.top.fault;
        sources = acting.top.sources ∙ same_count (is_source k.code) a.frame frame a.below refl;
      };
      held = (
        pending_as (k.marks a.frame.function.number) c.store (behind step a.pending) given frame refl are,
        runs_where (behind step a.pending) frame acting.runs,
      );
    }
  where
    given : codes.Frame
    given = record (a.frame) { registers = registers }

    frame : codes.Frame
    frame = codes.advanced given

    goroutine : codes.Goroutine
    goroutine = record (a.g) { frames = frame ∷ a.below }

    current : plans.Goroutine
    current = record (a.q.current) { frames = plans.advanced a.planned ∷ a.others; slots = slots }

    there : slice_get a.m.goroutines c.sched.current.number ≡ Some a.g
    there = ap (λ (id : GoId). slice_get a.m.goroutines id.number) change.current ∙ acting.top.there

    top : IsTopFrame k (behind step a.pending) frame (top_of slots) (plans.advanced a.planned) a.below
    top =
        record {
          function = a.function;
          is =
              frame_advanced k a.function given (top_of slots) a.planned
              (frame_with k a.function a.frame (top_of a.q.current.slots) a.planned acting.top.is registers (top_of slots)
              has cells);
          top =
              placed (placed_with k a.function (behind step a.pending) (codes.advanced a.frame) (plans.advanced a.planned)
              registers acting.place);
          result = acting.top.result;
        }

-- as the values are
machine_same : (k : Known) (a : Acting) (step : Step) → IsActing k a step → (c : Change) → IsChange k a step c
    → IsMachine k (behind step a.pending)
    (codes.with_frames a.g (codes.advanced a.frame ∷ a.below) (code_with c a.m)) (plan_with c (acting_on a))
machine_same k a step acting c change =
    machine_with k a step acting c change a.frame.registers a.q.current.slots acting.top.is.slots acting.top.is.cells
    change.kept refl

machine_written : (k : Known) (a : Acting) (step : Step) → IsActing k a step → (c : Change) → IsChange k a step c
    → (register : ℕ) (it : Val) → MayHold (k.marks a.frame.function.number) (behind step a.pending) (Some register) (Some it)
    → IsMachine k (behind step a.pending)
    (codes.with_frames a.g (codes.advanced (codes.with_register register it a.frame) ∷ a.below) (code_with c a.m))
    (plans.with_value (register_slot a.function register) it (plan_with c (acting_on a)))
machine_written k a step acting c change register it may =
    machine_with k a step acting c change (slice_set a.frame.registers register (Some it))
    (with_slot (register_slot a.function register) it a.q.current.slots)
    (subst (HasSlots a.function (k.marks a.frame.function.number) (codes.with_register register it a.frame))
    (sym (top_with a.q.current.slots (register_slot a.function register) it))
    (slots_with a.function (k.marks a.frame.function.number) a.frame (top_of a.q.current.slots) acting.top.is.slots
    register it))
    (cells_with (k.marks a.frame.function.number) (behind step a.pending) a.frame acting.top.is.cells register it may.1)
    (pending_with (k.marks a.frame.function.number) c.store (behind step a.pending) a.frame change.kept register it
    may.0 may.1)
    (below_with a.q.current.slots (register_slot a.function register) it)

-- a register, where there is one, gets a value, where there is one
pub behind_machine : (k : Known) (a : Acting) (step : Step) → IsActing k a step → (c : Change) → IsChange k a step c
    → (register slot : Option ℕ) → IsSlot a.function register slot → (it : Option Val)
    → MayHold (k.marks a.frame.function.number) (behind step a.pending) register it
    → IsMachine k (behind step a.pending)
    (codes.with_frames a.g (codes.advanced (codes.with_result register it a.frame) ∷ a.below) (code_with c a.m))
    (plans.with_result slot it (plan_with c (acting_on a)))
behind_machine k a step acting c change (Some register) slot same (Some it) may =
    subst (λ to. IsMachine k (behind step a.pending)
    (codes.with_frames a.g (codes.advanced (codes.with_register register it a.frame) ∷ a.below) (code_with c a.m))
    (plans.with_result to (Some it) (plan_with c (acting_on a)))) same
    (machine_written k a step acting c change register it may)
behind_machine k a step acting c change (Some register) slot same None may =
    subst (λ to. IsMachine k (behind step a.pending)
    (codes.with_frames a.g (codes.advanced a.frame ∷ a.below) (code_with c a.m))
    (plans.with_result to None (plan_with c (acting_on a)))) same (machine_same k a step acting c change)
behind_machine k a step acting c change None slot same it may =
    subst (λ to. IsMachine k (behind step a.pending)
    (codes.with_frames a.g (codes.advanced a.frame ∷ a.below) (code_with c a.m))
    (plans.with_result to it (plan_with c (acting_on a)))) same (machine_same k a step acting c change)

-- the central lemma
pub goes_alike : (k : Known) (a : Acting) (step : Step) → IsActing k a step → (c : Change) → IsChange k a step c
    → (register slot : Option ℕ) → IsSlot a.function register slot → (it : Option Val)
    → MayHold (k.marks a.frame.function.number) (behind step a.pending) register it
    → Follows k (steps.goes_behind (site_of k a) register it (code_with c a.m))
    (plans.goes (plans.with_result slot it (plan_with c (acting_on a))))
goes_alike k a step acting c change register slot same it may =
    (behind step a.pending, behind_machine k a step acting c change register slot same it may)
