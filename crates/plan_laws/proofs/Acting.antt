-- Where both machines act: the frame that runs stands at an instruction, and the planned frame at the step made of it.
use Rattle.std.specs.Prelude.{◌≡◌}
use Rattle.std.specs.Prelude.{ℕ, Bool, true, false, List, [], ◌∷◌, Option, Some, None, slice_get}
use Rattle.std.specs.Option.{option_map}
use Rattle.code_plan.specs.Registers as registers
use Rattle.code_plan.specs.Registers.{Pending, register_slot, behind}
use Rattle.code_plan.specs.declared.steps.Step.{Step}
use Rattle.go_sched.specs.Goroutines.{State}
use Rattle.go_store.specs.Stores.{Stored}
use Rattle.go_value.specs.Values.{Val}
use Rattle.plan_laws.proofs.Alike.{IsMachine, Known, IsFrame, IsPlaced, ArePending, AreBelow, IsAround, IsLaterWhere, GetsResult, IsWhole, sources_in}
use Rattle.plan_mean.specs.Slots.{top_of, below_top}
use Rattle.plan_mean.specs.State as plans
use Rattle.ssa_ir.specs.declared.code.Function.{Function}
use Rattle.ssa_mean.specs.Comes.{Comes, to, faults, nowhere}
use Rattle.ssa_mean.specs.State as codes
use Rattle.ssa_mean.specs.State.{running}
use Rattle.ssa_mean.specs.Step.{Site}

pub record Acting : Type 0 where
  pub m : codes.Machine
  pub g : codes.Goroutine
  pub frame : codes.Frame
  pub below : List codes.Frame
  pub function : Function
  -- the machine before the step
  pub q : plans.Machine
  pub planned : plans.Frame
  pub others : List plans.Frame
  -- the loads that are pending where operands are read
  pub pending : Pending

abbrev pub site_of : Known → Acting → Site
site_of k a =
    record {
      code = k.code;
      answers = k.w.answers;
      machine = a.m;
      goroutine = a.g;
      below = a.below;
      frame = a.frame;
      function = a.function;
    }

-- where operands were planned
abbrev pub plan_site : Known → Acting → registers.Site
plan_site k a =
    record {
      code = k.code;
      function = a.function;
      marks = k.marks a.frame.function.number;
      pending = a.pending;
    }

-- the machine with the planned frame behind its step
abbrev pub acting_on : Acting → plans.Machine
acting_on a = plans.with_frames (plans.advanced a.planned ∷ a.others) a.q

-- the frame of a goroutine on top, with all that lies around it
pub record IsOnTop (k : Known) (a : Acting) : Type 0 where
  pub is : IsFrame k a.function a.frame (top_of a.q.current.slots) a.planned
  pub result : GetsResult k a.frame.result a.planned.result a.below
  pub below : AreBelow k a.below (below_top a.q.current.slots) a.others
  pub around : IsAround k a.m a.q
  pub there : slice_get a.m.goroutines a.m.sched.current.number ≡ Some a.g
  pub frames : a.g.frames ≡ a.frame ∷ a.below
  pub begin : IsLaterWhere a.g.begin a.q.current.begin
  pub fault : a.q.current.fault ≡ a.g.fault
  pub sources : a.q.current.sources ≡ sources_in k (a.frame ∷ a.below)

-- it runs, and stands behind the instruction and the step when that is done
pub record IsActing (k : Known) (a : Acting) (step : Step) : Type 0 where
  pub top : IsOnTop k a
  pub runs : a.frame.state ≡ running
  pub held : ArePending (k.marks a.frame.function.number) a.m.store a.pending a.frame
  pub place : IsPlaced k a.function (behind step a.pending) (codes.advanced a.frame) (plans.advanced a.planned)

-- ---- what a register may get

-- one that points to a cell gets a pointer to a cell, and no loads are pending then
abbrev pub MayPoint : Bool → Pending → Val → Type 0
MayPoint false pending it = Unit {0}
MayPoint true pending it = IsWhole it × (pending ≡ [])

abbrev pub MayHold : registers.Marks → Pending → Option ℕ → Option Val → Type 0
MayHold marks pending (Some register) (Some it) =
    (marks.late register ≡ false) × MayPoint (marks.cell register) pending it
MayHold marks pending _ _ = Unit {0}

-- the slot of a register, where there is one
abbrev pub IsSlot : Function → Option ℕ → Option ℕ → Type 0
IsSlot function register slot = option_map (register_slot function) register ≡ slot

-- ---- what a machine has changed: its store, its channels and choices, its ticks and its output

pub record Change : Type 0 where
  pub store : Stored
  pub sched : State
  pub ticks : ℕ
  pub output : List ℕ

abbrev pub code_with : Change → codes.Machine → codes.Machine
code_with c m = record m { store = c.store; sched = c.sched; ticks = c.ticks; output = c.output }

abbrev pub plan_with : Change → plans.Machine → plans.Machine
plan_with c q = record q { store = c.store; sched = c.sched; ticks = c.ticks; output = c.output }

-- ---- operations that give the same, but where one of both comes nowhere

abbrev pub Agree : {A : Type 0} → Comes A → Comes A → Type 0
Agree it nowhere = Unit {0}
Agree nowhere it = Unit {0}
Agree (to a) (to b) = b ≡ a
Agree (faults a) (faults b) = b ≡ a
Agree _ _ = ⊥

-- what operations give is alike, but where one of both comes nowhere
abbrev pub AgreeBy : {A B : Type 0} → (A → B → Type 0) → Comes A → Comes B → Type 0
AgreeBy R it nowhere = Unit {0}
AgreeBy R nowhere it = Unit {0}
AgreeBy R (to a) (to b) = R a b
AgreeBy R (faults a) (faults b) = b ≡ a
AgreeBy R _ _ = ⊥

-- ---- a change that both machines make as an instruction is done

pub record IsChange (k : Known) (a : Acting) (step : Step) (c : Change) : Type 0 where
  pub current : c.sched.current ≡ a.m.sched.current
  pub kept : ArePending (k.marks a.frame.function.number) c.store (behind step a.pending) a.frame

-- ---- machines in which all frames stand where both go on, and nothing is pending

pub record IsSettled (k : Known) (m : codes.Machine) (q : plans.Machine) : Type 0 where
  pub around : IsAround k m q
  pub g : codes.Goroutine
  pub there : slice_get m.goroutines m.sched.current.number ≡ Some g
  pub frames : AreBelow k g.frames q.current.slots q.current.frames
  pub begin : IsLaterWhere g.begin q.current.begin
  pub fault : q.current.fault ≡ g.fault
  pub sources : q.current.sources ≡ sources_in k g.frames

-- where there is a machine each, they are alike
abbrev pub FollowsWhere : Known → Option codes.Machine → Option plans.Machine → Type 0
FollowsWhere k None it = Unit {0}
FollowsWhere k it None = Unit {0}
FollowsWhere k (Some m) (Some q) = IsMachine k [] m q
