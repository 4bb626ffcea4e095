-- A machine that runs a code, and one that runs its plan, side by side.
use Rattle.std.specs.Prelude.{◌≡◌}
use Rattle.std.specs.Prelude.{ℕ, ◌+◌, ◌<◌, ◌≤◌, Bool, true, false, List, [], ◌∷◌, Option, Some, None}
use Rattle.std.specs.Prelude.{drop, filter, is_none, is_some, length, map, reverse, slice_get}
use Rattle.std.specs.List.{AllZip}
use Rattle.std.specs.Option.{option_and_then, option_flatten, option_map}
use Rattle.code_plan.specs.Calls.{meant_by, with_counted}
use Rattle.code_plan.specs.Forms.{LeadsOn, next_of}
use Rattle.code_plan.specs.Plans.{Goes, IsFunction, planned_method}
use Rattle.code_plan.specs.Registers.{Marks, Pending, late_at, free_slot, register_slot}
use Rattle.code_plan.specs.declared.steps.MethodOf.{MethodOf}
use Rattle.code_plan.specs.declared.steps.PlannedBlock.{PlannedBlock}
use Rattle.code_plan.specs.declared.steps.PlannedFunction.{PlannedFunction}
use Rattle.go_store.specs.Stores.{Stored, loaded}
use Rattle.go_value.specs.Values.{Val, pointer}
use Rattle.go_value.specs.declared.address.Pointer.{Pointer}
use Rattle.plan_mean.specs.Slots.{top_of, below_top}
use Rattle.plan_mean.specs.State as plans
use Rattle.plan_mean.specs.State.{World}
use Rattle.plan_mean.specs.Unwinding.{shown}
use Rattle.ssa_ir.specs.Blocks.{instrs_at}
use Rattle.ssa_ir.specs.declared.code.Code.{Code}
use Rattle.ssa_ir.specs.declared.code.Function.{Function}
use Rattle.ssa_mean.specs.Calls.{method_of, most_passed}
use Rattle.ssa_mean.specs.Faults.{error_string, naming_of}
use Rattle.ssa_mean.specs.Operands.{function_at}
use Rattle.ssa_mean.specs.State as codes
use Rattle.ssa_mean.specs.State.{FrameState, running, returning, panicking}
use Rattle.ssa_mean.specs.Unwinding.{is_source, phis_first}

-- ---- what stays the same: the code, the world of its plan, and of each function the marks of its registers

pub record Known : Type 0 where
  pub code : Code
  pub w : World
  pub marks : ℕ → Marks

abbrev pub IsFunctionAt : Code → Marks → Option Function → Option PlannedFunction → Type 0
IsFunctionAt code marks None None = Unit {0}
IsFunctionAt code marks (Some function) (Some planned) = IsFunction code marks function planned
IsFunctionAt code marks _ _ = ⊥

pub record IsKnown (k : Known) : Type 0 where
  pub functions : (n : ℕ)
      → IsFunctionAt k.code (k.marks n) (slice_get k.code.functions n) (slice_get k.w.plan.functions.items n)
  pub methods : (it : MethodOf)
      → planned_method k.w.plan it
      ≡ option_map (λ id. id.number) (method_of k.code it.receiver it.method.name it.method.«package»)
  pub error_string : k.w.plan.error_string ≡ error_string k.code
  pub naming : naming_of k.code ≡ k.w.naming

-- ---- what is called

abbrev pub IsCalled : codes.Callee → plans.Called → Type 0
IsCalled (codes.of_function id free) (plans.of_function n held) = (n ≡ id.number) × (held ≡ free)
IsCalled (codes.of_built_in it) (plans.of_built_in form) = with_counted it ≡ meant_by form
IsCalled codes.of_nil plans.of_nil = Unit {0}
IsCalled _ _ = ⊥

pub record IsLater (later : codes.Later) (planned : plans.Later) : Type 0 where
  pub called : IsCalled later.callee planned.called
  pub arguments : planned.arguments ≡ later.arguments
  pub chain : planned.chain ≡ later.chain

abbrev pub IsLaterWhere : Option codes.Later → Option plans.Later → Type 0
IsLaterWhere None None = Unit {0}
IsLaterWhere (Some later) (Some planned) = IsLater later planned
IsLaterWhere _ _ = ⊥

-- ---- frames: their values

abbrev pub register_of : codes.Frame → ℕ → Option Val
register_of frame n = option_flatten (slice_get frame.registers n)

abbrev pub slot_of : List (Option Val) → ℕ → Option Val
slot_of row n = option_flatten (slice_get row n)

-- the slots of a frame hold its values; those of registers that are loaded late may hold anything
pub record HasSlots (function : Function) (marks : Marks) (frame : codes.Frame) (row : List (Option Val)) : Type 0 where
  pub parameters : length frame.parameters ≡ length function.params
  pub frees : length frame.free ≡ length function.free
  pub registers : length frame.registers ≡ length function.registers
  pub count : length row ≡ length function.params + (length function.free + length function.registers)
  pub parameter : (n : ℕ) → n < length function.params → slot_of row n ≡ slice_get frame.parameters n
  pub free : (n : ℕ) → n < length function.free → slot_of row (free_slot function n) ≡ slice_get frame.free n
  pub register : (n : ℕ) → marks.late n ≡ false → slot_of row (register_slot function n) ≡ register_of frame n

-- a pointer that is not nil
abbrev pub IsWhole : Val → Type 0
IsWhole (pointer at) = is_none at.cell ≡ false
IsWhole _ = ⊥

abbrev pub IsWholeWhere : Option Val → Type 0
IsWholeWhere None = Unit {0}
IsWholeWhere (Some it) = IsWhole it

-- registers that are marked so point to cells, where they are written
abbrev pub HasCells : Marks → codes.Frame → Type 0
HasCells marks frame = (n : ℕ) → marks.cell n ≡ true → IsWholeWhere (register_of frame n)

-- a load that is pending was made: its register holds what the cell holds
pub record IsHeld (marks : Marks) (store : Stored) (frame : codes.Frame) (register cell : ℕ) : Type 0 where
  pub late : marks.late register ≡ true
  pub is_cell : marks.cell cell ≡ true
  pub slotted : marks.late cell ≡ false
  pub at : Pointer
  pub it : Val
  pub points : register_of frame cell ≡ Some (pointer at)
  pub loads : loaded store at ≡ Some it
  pub held : register_of frame register ≡ Some it

abbrev pub ArePending : Marks → Stored → Pending → codes.Frame → Type 0
ArePending marks store pending frame =
    (register cell : ℕ) → late_at pending register ≡ Some cell → IsHeld marks store frame register cell

-- ---- frames: what they are about

abbrev pub shown_state : FrameState → FrameState
shown_state (panicking thrown) = panicking (shown thrown)
shown_state it = it

abbrev pub is_panicking : FrameState → Bool
is_panicking (panicking thrown) = true
is_panicking _ = false

-- only a function with a block for it can recover, and only such a function puts calls off
abbrev pub Recovers : List codes.Later → Function → Type 0
Recovers [] function = Unit {0}
Recovers (it ∷ others) function = is_some function.recover ≡ true

pub record IsFrame (k : Known) (function : Function) (frame : codes.Frame) (row : List (Option Val))
    (planned : plans.Frame) : Type 0 where
  pub there : function_at k.code frame.function ≡ Some function
  pub planned_there : slice_get k.w.plan.functions.items frame.function.number ≡ Some planned.function
  pub slots : HasSlots function (k.marks frame.function.number) frame row
  pub cells : HasCells (k.marks frame.function.number) frame
  pub deferred : planned.deferred ≡ frame.deferred
  pub state : planned.state ≡ shown_state frame.state
  pub chain : planned.chain ≡ frame.chain
  pub passed : frame.chain ≤ most_passed
  pub defers : AllZip IsLater frame.defers (reverse planned.defers)
  pub recovers : Recovers frame.defers function

-- ---- frames: where they stand

-- at an instruction and the step that comes of it, or of the first behind it that makes one
pub record IsAt (k : Known) (function : Function) (pending : Pending) (frame : codes.Frame) (planned : plans.Frame) :
    Type 0 where
  pub same : planned.block ≡ frame.block
  pub block : PlannedBlock
  pub is : slice_get planned.function.blocks.items frame.block ≡ Some block
  pub steps : planned.steps ≡ block.steps.items
  pub last : Pending
  pub goes : Goes k.code function (k.marks frame.function.number) pending
      (drop frame.place (instrs_at function frame.block)) (drop planned.step planned.steps) last

-- at a block that does nothing but jump, where the plan is already at the block that this leads to
pub record IsOnWay (function : Function) (frame : codes.Frame) (planned : plans.Frame) : Type 0 where
  pub first : frame.place ≡ 0
  pub number : ℕ
  pub next : option_map (λ it. it.number) (next_of (instrs_at function frame.block)) ≡ Some number
  pub phis : phis_first (instrs_at function number) ≡ 0
  pub leads : LeadsOn function number planned.block
  pub block : PlannedBlock
  pub is : slice_get planned.function.blocks.items planned.block ≡ Some block
  pub steps : planned.steps ≡ block.steps.items
  pub begin : planned.step ≡ 0

pub data IsPlaced (k : Known) (function : Function) : Pending → codes.Frame → plans.Frame → Type 0 where
  standing : (pending : Pending) (frame : codes.Frame) (planned : plans.Frame)
      → IsAt k function pending frame planned → IsPlaced k function pending frame planned
  on_way : (frame : codes.Frame) (planned : plans.Frame)
      → IsOnWay function frame planned → IsPlaced k function [] frame planned

-- one that panics and cannot recover, wherever it stands
pub record IsLost (function : Function) (frame : codes.Frame) : Type 0 where
  pub panics : is_panicking frame.state ≡ true
  pub no_recovery : function.recover ≡ None
  pub no_defers : frame.defers ≡ []

pub data IsTop (k : Known) (function : Function) (pending : Pending) (frame : codes.Frame) (planned : plans.Frame) :
    Type 0 where
  placed : IsPlaced k function pending frame planned → IsTop k function pending frame planned
  lost : IsLost function frame → IsTop k function pending frame planned

-- ---- the frames of a goroutine

-- a register that gets results is neither loaded late nor one that points to a cell
abbrev pub MayGet : Marks → Option ℕ → Type 0
MayGet marks None = Unit {0}
MayGet marks (Some register) = (marks.late register ≡ false) × (marks.cell register ≡ false)

-- where the results go
pub record IsResult (k : Known) (register slot : Option ℕ) (caller : codes.Frame) : Type 0 where
  pub goes_to : option_and_then (λ function. option_map (register_slot function) register)
      (function_at k.code caller.function) ≡ slot
  pub may : MayGet (k.marks caller.function.number) register

abbrev pub GetsResult : Known → Option ℕ → Option ℕ → List codes.Frame → Type 0
GetsResult k register slot [] = (register ≡ None) × (slot ≡ None)
GetsResult k register slot (caller ∷ below) = IsResult k register slot caller

pub record IsBelow (k : Known) (frame : codes.Frame) (row : List (Option Val)) (planned : plans.Frame)
    (below : List codes.Frame) : Type 0 where
  pub function : Function
  pub is : IsFrame k function frame row planned
  pub placed : IsPlaced k function [] frame planned
  pub result : GetsResult k frame.result planned.result below

abbrev pub AreBelow : Known → List codes.Frame → List (List (Option Val)) → List plans.Frame → Type 0
AreBelow k [] rows [] = Unit {0}
AreBelow k (frame ∷ below) rows (planned ∷ others) =
    IsBelow k frame (top_of rows) planned below × AreBelow k below (below_top rows) others
AreBelow k _ rows _ = ⊥

pub record IsTopFrame (k : Known) (pending : Pending) (frame : codes.Frame) (row : List (Option Val))
    (planned : plans.Frame) (below : List codes.Frame) : Type 0 where
  pub function : Function
  pub is : IsFrame k function frame row planned
  pub top : IsTop k function pending frame planned
  pub result : GetsResult k frame.result planned.result below

abbrev pub AreFrames : Known → Pending → List codes.Frame → List (List (Option Val)) → List plans.Frame → Type 0
AreFrames k pending [] rows [] = Unit {0}
AreFrames k pending (frame ∷ below) rows (planned ∷ others) =
    IsTopFrame k pending frame (top_of rows) planned below × AreBelow k below (below_top rows) others
AreFrames k pending _ rows _ = ⊥

-- loads are pending in a frame that runs alone
abbrev pub RunsWhere : Pending → codes.Frame → Type 0
RunsWhere [] frame = Unit {0}
RunsWhere (load ∷ loads) frame = frame.state ≡ running

pub runs_where : (pending : Pending) (frame : codes.Frame) → frame.state ≡ running → RunsWhere pending frame
runs_where [] frame runs = tt
runs_where (load ∷ loads) frame runs = runs

-- what is pending in the top frame
abbrev pub ArePendingIn : Known → Stored → Pending → List codes.Frame → Type 0
ArePendingIn k store pending [] = Unit {0}
ArePendingIn k store pending (frame ∷ below) =
    ArePending (k.marks frame.function.number) store pending frame × RunsWhere pending frame

abbrev pub sources_in : Known → List codes.Frame → ℕ
sources_in k frames = length (filter (is_source k.code) frames)

pub record IsGoroutine (k : Known) (pending : Pending) (g : codes.Goroutine) (planned : plans.Goroutine) : Type 0 where
  pub frames : AreFrames k pending g.frames planned.slots planned.frames
  pub begin : IsLaterWhere g.begin planned.begin
  pub fault : planned.fault ≡ g.fault
  pub sources : planned.sources ≡ sources_in k g.frames

-- ---- machines

-- another goroutine than the one that runs: nothing is pending in it
abbrev pub IsOther : Known → Option codes.Goroutine → Option plans.Goroutine → Type 0
IsOther k None None = Unit {0}
IsOther k (Some g) (Some planned) = IsGoroutine k [] g planned
IsOther k _ _ = ⊥

-- what stands in the place of the one that runs has no frames, so that nothing wakes it
abbrev pub IsPlaceholder : Option plans.Goroutine → Type 0
IsPlaceholder None = ⊥
IsPlaceholder (Some planned) = planned.frames ≡ []

-- all but the goroutine that runs
pub record IsAround (k : Known) (m : codes.Machine) (q : plans.Machine) : Type 0 where
  pub others : (n : ℕ) → (n ≡ m.sched.current.number → ⊥)
      → IsOther k (slice_get m.goroutines n) (slice_get q.others n)
  pub holder : IsPlaceholder (slice_get q.others m.sched.current.number)
  pub count : length q.others ≡ length m.goroutines
  pub starts : map (λ id. id.number) m.starts ≡ drop q.started k.w.plan.starts.items
  pub store : q.store ≡ m.store
  pub sched : q.sched ≡ m.sched
  pub ticks : q.ticks ≡ m.ticks
  pub output : q.output ≡ m.output

pub record IsMachine (k : Known) (pending : Pending) (m : codes.Machine) (q : plans.Machine) : Type 0 where
  pub around : IsAround k m q
  pub g : codes.Goroutine
  pub there : slice_get m.goroutines m.sched.current.number ≡ Some g
  pub is : IsGoroutine k pending g q.current
  pub held : ArePendingIn k m.store pending g.frames

-- ---- what steps lead to: where one of both is stuck, nothing is said

abbrev pub Follows : Known → codes.Next → plans.Next → Type 0
Follows k (codes.goes m) (plans.goes q) = (pending : Pending) × IsMachine k pending m q
Follows k (codes.ends ending output) (plans.ends ending' output') = (ending' ≡ ending) × (output' ≡ output)
Follows k codes.stuck next = Unit {0}
Follows k next plans.stuck = Unit {0}
Follows k _ _ = ⊥
