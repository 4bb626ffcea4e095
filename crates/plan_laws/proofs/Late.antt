-- Loads that are made late: the code makes them, and the plan waits.
use Rattle.std.proofs.Common.{◌≡◌, ℕ, Bool, true, false, List, [], ◌∷◌, ◌++◌, Option, Some, None, ap, refl, sym, subst, ◌∙◌}
use Rattle.std.proofs.lemmas.Bool.{eqb-true, eq-eqb}
use Rattle.std.specs.Prelude.{◌==◌, ◌<◌, if◌then◌else◌, length, slice_get}
use Rattle.code_plan.specs.Registers.{Marks, Pending, late_at, late_from}
use Rattle.go_store.specs.Stores.{Stored, loaded}
use Rattle.go_value.specs.Values.{Val, pointer}
use Rattle.go_value.specs.declared.address.Pointer.{Pointer}
use Rattle.go_value.specs.declared.faults.Fault.TheVariants as fault
use Rattle.plan_laws.proofs.Alike.{Known, Follows, IsAround, IsLaterWhere, AreBelow}
use Rattle.plan_laws.proofs.Alike.{sources_in}
use Rattle.plan_laws.proofs.Alike.{HasSlots, ArePending, IsHeld, register_of}
use Rattle.plan_laws.proofs.Lists.{length_set, some_same}
use Rattle.plan_laws.proofs.Acting.{MayPoint}
use Rattle.plan_laws.proofs.Alike.{IsFrame, GetsResult, IsWholeWhere}
use Rattle.plan_laws.proofs.Around.{around_with, there_with}
use Rattle.plan_laws.proofs.Lists.{same_count}
use Rattle.plan_laws.proofs.Slots.{cells_with, pending_as, put_here, put_other, slots_as}
use Rattle.plan_mean.specs.Slots.{top_of, below_top}
use Rattle.plan_mean.specs.State as plans
use Rattle.ssa_ir.specs.declared.code.Function.{Function}
use Rattle.ssa_ir.specs.declared.operands.Operand.TheVariants as operand
use Rattle.ssa_ir.specs.declared.ops.Op.{Op}
use Rattle.ssa_ir.specs.declared.ops.Op.TheVariants as op
use Rattle.ssa_mean.specs.State as codes
use Rattle.ssa_mean.specs.State.{FrameState, running, returning, panicking}
use Rattle.ssa_mean.specs.Comes.{faults, where_some, of_option}
use Rattle.ssa_mean.specs.Places.{load}
use Rattle.ssa_mean.specs.Step as steps
use Rattle.ssa_mean.specs.Unwinding.{is_source}

-- what a step of the code comes to: the plan waits, where something holds of the machine then, or it makes a step too
pub data Moves (k : Known) (Waits : codes.Machine → Type 0) (next : codes.Next) (planned_next : plans.Next) : Type 0 where
  waits : (m : codes.Machine) → next ≡ codes.goes m → Waits m → Moves k Waits next planned_next
  follows : Follows k next planned_next → Moves k Waits next planned_next

-- ---- a load that is made late: the code makes it, and the plan waits

late_slots : (function : Function) (marks : Marks) (frame : codes.Frame) (row : List (Option Val))
    → HasSlots function marks frame row → (register : ℕ) (it : Val) → marks.late register ≡ true
    → HasSlots function marks (codes.with_register register it frame) row
late_slots function marks frame row has register it is_late =
    record {
      parameters = has.parameters;
      frees = has.frees;
      registers = length_set frame.registers register (Some it) ∙ has.registers;
      count = has.count;
      parameter = has.parameter;
      free = has.free;
      register = λ n on_time.
          has.register n on_time
          ∙ sym (put_other frame.registers register n it
          (λ same. let clash : true ≡ false = sym is_late ∙ ap marks.late (sym same) ∙ on_time in absurd cc));
    }

last_load : (pending : Pending) (load : ℕ × ℕ) (found : Option ℕ) (register : ℕ)
    → late_from found (pending ++ load ∷ []) register
    ≡ (if load.0 == register then Some load.1 else late_from found pending register)
last_load [] load found register = refl
last_load (first ∷ pending) load found register =
    last_load pending load (if first.0 == register then Some first.1 else found) register

late_pending : (function : Function) (marks : Marks) (store : Stored) (pending : Pending) (frame : codes.Frame)
    → ArePending marks store pending frame → (register cell : ℕ) (at : Pointer) (it : Val)
    → register < length frame.registers → marks.late register ≡ true → marks.cell cell ≡ true → marks.late cell ≡ false
    → register_of frame cell ≡ Some (pointer at) → loaded store at ≡ Some it
    → ArePending marks store (pending ++ (register, cell) ∷ []) (codes.with_register register it frame)
late_pending function marks store pending frame are register cell at it within is_late is_cell slotted points loads n c h =
    by_load (register == n) refl (sym (last_load pending (register, cell) None n) ∙ h)
  where
    by_load : (b : Bool) → (register == n) ≡ b → (if b then Some cell else late_at pending n) ≡ Some c
        → IsHeld marks store (codes.with_register register it frame) n c
    by_load true same found =
        let same_n : n ≡ register = sym (eqb-true register n same) in
        let same_c : c ≡ cell = sym (some_same cell c found) in
        record {
          late = ap marks.late same_n ∙ is_late;
          is_cell = ap marks.cell same_c ∙ is_cell;
          slotted = ap marks.late same_c ∙ slotted;
          at = at;
          it = it;
          points = put_other frame.registers register c it
              (λ other. let clash : true ≡ false = sym is_late ∙ ap marks.late (sym other) ∙ ap marks.late same_c ∙ slotted in absurd cc)
              ∙ ap (register_of frame) same_c ∙ points;
          loads = loads;
          held = ap (register_of (codes.with_register register it frame)) same_n ∙ put_here frame.registers register it within;
        }
    by_load false other found =
        let old = are n c found in
        record {
          late = old.late;
          is_cell = old.is_cell;
          slotted = old.slotted;
          at = old.at;
          it = old.it;
          points = put_other frame.registers register c it
              (λ same. let clash : true ≡ false = sym is_late ∙ ap marks.late (sym same) ∙ old.slotted in absurd cc) ∙ old.points;
          loads = old.loads;
          held = put_other frame.registers register n it (λ same. let clash : false ≡ true = sym other ∙ eq-eqb register n (sym same) in absurd cc) ∙ old.held;
        }

-- what a machine with the frame that runs on top has to be, at the place where its instruction stands
pub record IsRunning (k : Known) (pending : Pending) (m : codes.Machine) (q : plans.Machine) (g : codes.Goroutine)
    (function : Function) (frame : codes.Frame) (below : List codes.Frame) (it : plans.Frame) (others : List plans.Frame) :
    Type 0 where
  pub around : IsAround k m q
  pub there : slice_get m.goroutines m.sched.current.number ≡ Some g
  pub is : IsFrame k function frame (top_of q.current.slots) it
  pub runs : frame.state ≡ running
  pub frames : g.frames ≡ frame ∷ below
  pub result : GetsResult k frame.result it.result below
  pub lower : AreBelow k below (below_top q.current.slots) others
  pub begin : IsLaterWhere g.begin q.current.begin
  pub fault : q.current.fault ≡ g.fault
  pub sources : q.current.sources ≡ sources_in k (frame ∷ below)
  pub held : ArePending (k.marks frame.function.number) m.store pending frame

abbrev pub planned_on : plans.Machine → plans.Frame → List plans.Frame → plans.Machine
planned_on q it others = record q { current = record (q.current) { frames = it ∷ others } }

-- the code's frame with its late register, behind the load
abbrev pub after_load : ℕ → Val → codes.Frame → codes.Frame
after_load register value frame = codes.advanced (codes.with_register register value frame)

pub late_running : (k : Known) (pending : Pending) (m : codes.Machine) (q : plans.Machine) (g : codes.Goroutine)
    (function : Function) (frame : codes.Frame) (below : List codes.Frame) (it : plans.Frame) (others : List plans.Frame)
    → IsRunning k pending m q g function frame below it others → (register cell : ℕ) (at : Pointer) (value : Val)
    → register < length function.registers → (k.marks frame.function.number).late register ≡ true
    → (k.marks frame.function.number).cell register ≡ false → (k.marks frame.function.number).cell cell ≡ true
    → (k.marks frame.function.number).late cell ≡ false → register_of frame cell ≡ Some (pointer at)
    → loaded m.store at ≡ Some value
    → IsRunning k (pending ++ (register, cell) ∷ [])
    (codes.with_frames g (after_load register value frame ∷ below) m) q
    (record g { frames = after_load register value frame ∷ below }) function (after_load register value frame) below it others
late_running k pending m q g function frame below it others is register cell at value within is_late no_cell is_cell slotted
    points loads =
    record {
      around = around_with k m q is.around (record g { frames = after_load register value frame ∷ below }) q.current;
      there = there_with m (record g { frames = after_load register value frame ∷ below }) g is.there;
      is = record {
        there = is.is.there;
        planned_there = is.is.planned_there;
        slots = slots_as function (k.marks frame.function.number) given (after_load register value frame)
            (top_of q.current.slots) (record { parameters = refl; free = refl; registers = refl })
            (late_slots function (k.marks frame.function.number) frame (top_of q.current.slots) is.is.slots register value
            is_late);
        cells = cells_with (k.marks frame.function.number) pending frame is.is.cells register value
            (subst (λ b. MayPoint b pending value) (sym no_cell) tt);
        deferred = is.is.deferred;
        state = is.is.state;
        chain = is.is.chain;
        passed = is.is.passed;
        defers = is.is.defers;
        recovers = is.is.recovers;
      };
      runs = is.runs;
      frames = refl;
      result = is.result;
      lower = is.lower;
      begin = is.begin;
      fault = is.fault;
      sources = is.sources ∙ same_count (is_source k.code) frame (after_load register value frame) below refl;
      held = pending_as (k.marks frame.function.number) m.store (pending ++ (register, cell) ∷ []) given
          (after_load register value frame) refl
          (late_pending function (k.marks frame.function.number) m.store pending frame is.held register cell at value
          (subst (λ n. register < n) (sym is.is.slots.registers) within) is_late is_cell slotted points loads);
    }
  where
    given : codes.Frame
    given = codes.with_register register value frame

-- the site at which the code's frame acts
abbrev pub site_at : Known → codes.Machine → codes.Goroutine → Function → codes.Frame → List codes.Frame → steps.Site
site_at k m g function frame below =
    record {
      code = k.code;
      answers = k.w.answers;
      machine = m;
      goroutine = g;
      below = below;
      frame = frame;
      function = function;
    }

-- what a load of the cell gives: nothing where the cell is not there, and the code is stuck
late_loaded : (k : Known) (Waits : codes.Machine → Type 0) (m : codes.Machine) (g : codes.Goroutine) (function : Function)
    (frame : codes.Frame) (below : List codes.Frame) (register : ℕ) (at : Pointer)
    → ((value : Val) → loaded m.store at ≡ Some value
    → Waits (codes.with_frames g (after_load register value frame ∷ below) m))
    → (next : plans.Next) (found : Option Val) → loaded m.store at ≡ found
    → Moves k Waits (steps.gives_value (site_at k m g function frame below) (Some register) (of_option found)) next
late_loaded k Waits m g function frame below register at rest next None loads = follows tt
late_loaded k Waits m g function frame below register at rest next (Some value) loads =
    waits (codes.with_frames g (after_load register value frame ∷ below) m) refl (rest value loads)

-- the load of a register that points to a cell, where it is written
late_value : (k : Known) (Waits : codes.Machine → Type 0) (m : codes.Machine) (g : codes.Goroutine) (function : Function)
    (frame : codes.Frame) (below : List codes.Frame) (register cell : ℕ)
    → ((at : Pointer) (value : Val) → register_of frame cell ≡ Some (pointer at) → loaded m.store at ≡ Some value
    → Waits (codes.with_frames g (after_load register value frame ∷ below) m))
    → (next : plans.Next) (found : Option Val) → register_of frame cell ≡ found → IsWholeWhere found
    → Moves k Waits (steps.gives_value (site_at k m g function frame below) (Some register) (where_some (load m.store) found)) next
late_value k Waits m g function frame below register cell rest next None same whole = follows tt
late_value k Waits m g function frame below register cell rest next (Some (pointer at)) same whole =
    subst (λ (b : Bool). Moves k Waits (steps.gives_value (site_at k m g function frame below) (Some register)
    (if b then faults fault.NilPointer else of_option (loaded m.store at))) next)
    (sym whole)
    (late_loaded k Waits m g function frame below register at (λ value loads. rest at value same loads) next
    (loaded m.store at) refl)
late_value k Waits m g function frame below register cell rest next (Some _) same whole = absurd whole

-- a late load as an instruction
pub late_step : (k : Known) (Waits : codes.Machine → Type 0) (m : codes.Machine) (g : codes.Goroutine) (function : Function)
    (frame : codes.Frame) (below : List codes.Frame) (register cell : ℕ) (given : Option ℕ) (instr : Op)
    → instr ≡ op.Load (operand.Register cell) → given ≡ Some register → IsWholeWhere (register_of frame cell)
    → ((at : Pointer) (value : Val) → register_of frame cell ≡ Some (pointer at) → loaded m.store at ≡ Some value
    → Waits (codes.with_frames g (after_load register value frame ∷ below) m))
    → (next : plans.Next) → Moves k Waits (steps.acts (site_at k m g function frame below) given instr) next
unfolding steps.acts
late_step k Waits m g function frame below register cell given instr loads gives whole rest next =
    subst (λ (o : Op). Moves k Waits (steps.acts (site_at k m g function frame below) given o) next) (sym loads)
    (subst (λ (r : Option ℕ). Moves k Waits (steps.acts (site_at k m g function frame below) r (op.Load (operand.Register cell)))
    next) (sym gives)
    (late_value k Waits m g function frame below register cell rest next (register_of frame cell) refl whole))
