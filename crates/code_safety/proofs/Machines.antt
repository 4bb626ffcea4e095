-- Machines that stand rightly: each frame of a typed function at a place where what is available is written, with
-- values of the right types; goroutines that wait where they can be served; channels that hold what they are for.
use Rattle.std.proofs.Common.{◌≡◌, ◌<◌, ◌≤◌, ◌⊎◌, ℕ, Bool, true, false, List, [], ◌∷◌, ◌++◌, length, Option, Some, None, slice_get, is_some, take, Contains}
use Rattle.std.specs.List.{AllZip}
use Rattle.code_safety.proofs.Shapes.{Alike}
use Rattle.code_safety.proofs.Values as values
use Rattle.code_safety.proofs.Values.{Typing, Grows, Fits, IsOf, AreOf, IsStore, under_of}
use Rattle.go_base.specs.declared.ids.FuncId.{FuncId}
use Rattle.go_base.specs.declared.ids.TypeId.{TypeId}
use Rattle.go_sched.specs.Channels.{Chan, Sending}
use Rattle.go_sched.specs.Goroutines.{State}
use Rattle.go_sched.specs.declared.channels.Receiver.{Receiver}
use Rattle.go_store.specs.Stores.{Stored}
use Rattle.go_type.specs.declared.operators.Builtin.TheVariants as builtin
use Rattle.go_type.specs.declared.term.TypeTerm.TheVariants as term
use Rattle.go_value.specs.Values.{Val, chan_number, nil_interface}
use Rattle.go_value.specs.declared.faults.Fault.{Fault}
use Rattle.ssa_ir.specs.Blocks.{instrs_at}
use Rattle.ssa_ir.specs.Uses.{given_registers}
use Rattle.ssa_ir.specs.declared.code.Code.{Code}
use Rattle.ssa_ir.specs.declared.code.CodeVariable.{CodeVariable}
use Rattle.ssa_ir.specs.declared.code.Function.{Function}
use Rattle.ssa_ir.specs.declared.operands.Operand.{Operand}
use Rattle.ssa_ir.specs.declared.ops.Instr.{Instr}
use Rattle.ssa_ir.specs.declared.ops.Op.{Op}
use Rattle.ssa_ir.specs.declared.ops.Op.TheVariants as op
use Rattle.ssa_ir.specs.declared.ops.SelectCase.TheVariants as case
use Rattle.ssa_mean.specs.Answers.{Answers}
use Rattle.ssa_mean.specs.BuiltIns.{Done, built_in_call}
use Rattle.ssa_mean.specs.Comes.{Comes, to, faults, nowhere}
use Rattle.ssa_mean.specs.Conversions.{Stores}
use Rattle.ssa_mean.specs.Operands.{function_at, element_type}
use Rattle.ssa_mean.specs.State.{BuiltIn, plain, Callee, of_function, of_built_in, of_nil, Later, Thrown, of_value, of_text}
use Rattle.ssa_mean.specs.State.{FrameState, running, panicking, Frame, Goroutine, Machine, Next, goes, ends, stuck}
use Rattle.ssa_mean.specs.Unwinding.{phis_first}
use Rattle.ssa_sane.specs.Sane.{Walk, first_cells, is_new}

-- ---- what operations come to

-- a value of a type, with the store after it
pub record StoresFit (c : Code) (t : Typing) (of : TypeId) (value : Val) (store : Stored) : Type 0 where
  pub typing : Typing
  pub grows : Grows t typing
  pub chans : typing.chans ≡ t.chans
  pub is_store : IsStore c typing store
  pub is_of : IsOf c typing value of

abbrev pub StoresCome : Code → Typing → TypeId → Comes Stores → Type 0
StoresCome c t of (to it) = StoresFit c t of it.value it.store
StoresCome c t of (faults it) = Unit {0}
StoresCome c t of nowhere = ⊥

abbrev pub ValueComes : Code → Typing → TypeId → Comes Val → Type 0
ValueComes c t of (to it) = IsOf c t it of
ValueComes c t of (faults it) = Unit {0}
ValueComes c t of nowhere = ⊥

abbrev pub StoreComes : Code → Typing → Comes Stored → Type 0
StoreComes c t (to store) = IsStore c t store
StoreComes c t (faults it) = Unit {0}
StoreComes c t nowhere = ⊥

-- a value where one is wanted
abbrev pub GivesOf : Code → Typing → Option Val → Option TypeId → Type 0
GivesOf c t it None = Unit {0}
GivesOf c t None (Some of) = ⊥
GivesOf c t (Some it) (Some of) = IsOf c t it of

pub record DoneFits (c : Code) (t : Typing) (of : Option TypeId) (done : Done) : Type 0 where
  pub typing : Typing
  pub grows : Grows t typing
  pub chans : typing.chans ≡ t.chans
  pub is_store : IsStore c typing done.store
  pub is_of : GivesOf c typing done.value of

abbrev pub DoneComes : Code → Typing → Option TypeId → Comes Done → Type 0
DoneComes c t of (to done) = DoneFits c t of done
DoneComes c t of (faults it) = Unit {0}
DoneComes c t of nowhere = ⊥

-- ---- calls

-- a value of type `interface{}`
abbrev pub IsThrown : Code → Typing → Val → Type 0
IsThrown c t it = Fits c t it (Some (term.Interface []))

-- a built-in function with arguments that it takes, and the type of the result that is wanted: whatever the store comes
-- to hold until it is called
pub data BuiltInFits (c : Code) (t : Typing) : BuiltIn → List Val → Option TypeId → Type 0 where
  closes : (id : _) → BuiltInFits c t (plain builtin.Close) (chan_number id ∷ []) None
  panics : (it : Val) → IsThrown c t it → BuiltInFits c t (plain builtin.Panic) (it ∷ []) None
  recovers : (items : List Val) (of : Option TypeId)
      → ((id : TypeId) → of ≡ Some id → under_of c id ≡ Some (term.Interface []))
      → BuiltInFits c t (plain builtin.Recover) items of
  works : (called : BuiltIn) (items : List Val) (of : Option TypeId)
      → ((t' : Typing) → Grows t t' → (answers : Answers) (store : Stored) (sched : State) → IsStore c t' store
      → DoneComes c t' of (built_in_call answers store sched called items))
      → BuiltInFits c t called items of

pub record FunctionFits (c : Code) (t : Typing) (id : FuncId) (free arguments : List Val) : Type 0 where
  pub function : Function
  pub there : function_at c id ≡ Some function
  pub frees : AreOf c t free function.free
  pub takes : AreOf c t arguments function.params

abbrev pub CalleeFits : Code → Typing → Callee → List Val → Type 0
CalleeFits c t (of_function id free) arguments = FunctionFits c t id free arguments
CalleeFits c t (of_built_in called) arguments = BuiltInFits c t called arguments None
CalleeFits c t of_nil arguments = Unit {0}

-- a call that is put off, whose result is let go
abbrev pub LaterFits : Code → Typing → Later → Type 0
LaterFits c t it = CalleeFits c t it.callee it.arguments

-- results as the value of a register of a type
abbrev pub ResultsFit : Code → List TypeId → TypeId → Type 0
ResultsFit c [] of = ⊥
ResultsFit c (one ∷ []) of = Alike c.types one of
ResultsFit c (one ∷ two ∷ rest) of =
    (ids : List TypeId) × ((under_of c of ≡ Some (term.Tuple ids)) × AllZip (Alike c.types) (one ∷ two ∷ rest) ids)

abbrev pub ResultsFitWhere : Code → List TypeId → Option TypeId → Type 0
ResultsFitWhere c results None = Unit {0}
ResultsFitWhere c results (Some of) = ResultsFit c results of

-- what an instruction calls, with the type of its register
abbrev pub CallFits : Code → Typing → Option TypeId → Callee → List Val → Type 0
CallFits c t of (of_function id free) arguments =
    (fits : FunctionFits c t id free arguments) × ResultsFitWhere c fits.function.results of
CallFits c t of (of_built_in called) arguments = BuiltInFits c t called arguments of
CallFits c t of of_nil arguments = Unit {0}

-- ---- frames

pub record IsWritten (frame : Frame) (register : ℕ) : Type 0 where
  pub it : Val
  pub there : slice_get frame.registers register ≡ Some (Some it)

abbrev pub ThrownFits : Code → Typing → Thrown → Type 0
ThrownFits c t (of_value it) = IsThrown c t it × (it ≡ nil_interface → ⊥)
ThrownFits c t (of_text words) = Unit {0}

abbrev pub StateFits : Code → Typing → FrameState → Type 0
StateFits c t (panicking thrown) = ThrownFits c t thrown
StateFits c t _ = Unit {0}

-- only a function with a block for recoveries puts calls off
abbrev pub Recovers : List Later → Function → Type 0
Recovers [] f = Unit {0}
Recovers (it ∷ others) f = is_some f.recover ≡ true

-- the values of a frame
pub record FrameFits (c : Code) (t : Typing) (f : Function) (frame : Frame) : Type 0 where
  pub there : function_at c frame.function ≡ Some f
  pub parameters : AreOf c t frame.parameters f.params
  pub free : AreOf c t frame.free f.free
  pub count : length frame.registers ≡ length f.registers
  pub registers : (n : ℕ) (it : Val) (of : TypeId) → slice_get frame.registers n ≡ Some (Some it)
      → slice_get f.registers n ≡ Some of → IsOf c t it of
  pub defers : (n : ℕ) (it : Later) → slice_get frame.defers n ≡ Some it → LaterFits c t it
  pub recovers : Recovers frame.defers f
  pub state : StateFits c t frame.state

-- a frame came to its place by a walk, and what is given on it is written, but for a register that waits for results
pub record Stands (f : Function) (frame : Frame) (pending : Option ℕ) : Type 0 where
  pub given : List ℕ
  pub walk : Walk f frame.block given
  pub written : (register : ℕ)
      → Contains (given ++ given_registers (take frame.place (instrs_at f frame.block))) register
      → (pending ≡ Some register) ⊎ IsWritten frame register
  pub behind : phis_first (instrs_at f frame.block) ≤ frame.place
  pub within : frame.place < length (instrs_at f frame.block)

-- the cells with which the function begins are made
abbrev pub IsBegun : Function → Frame → Type 0
IsBegun f frame = (register : ℕ) → Contains (first_cells f) register → IsWritten frame register

abbrev pub is_panicking : FrameState → Bool
is_panicking (panicking thrown) = true
is_panicking _ = false

-- a frame that has made nothing but cells so far
pub record IsFresh (f : Function) (frame : Frame) : Type 0 where
  pub runs : frame.state ≡ running
  pub first : frame.block ≡ 0
  pub news : (n : ℕ) (instr : Instr) → n < frame.place → slice_get (instrs_at f 0) n ≡ Some instr → is_new instr ≡ true

-- where a top frame stands; one that panics and cannot recover, wherever it stands
pub data TopStands (f : Function) (frame : Frame) : Type 0 where
  fresh : Stands f frame None → IsFresh f frame → TopStands f frame
  begun : Stands f frame None → IsBegun f frame → TopStands f frame
  lost : is_panicking frame.state ≡ true → f.recover ≡ None → frame.defers ≡ [] → TopStands f frame

-- the register of the frame below takes the results
pub record IsTaken (c : Code) (f : Function) (register : ℕ) (caller : Frame) : Type 0 where
  pub function : Function
  pub there : function_at c caller.function ≡ Some function
  pub of : TypeId
  pub is : slice_get function.registers register ≡ Some of
  pub fits : ResultsFit c f.results of

abbrev pub Takes : Code → Function → Option ℕ → List Frame → Type 0
Takes c f None below = Unit {0}
Takes c f (Some register) [] = Unit {0}
Takes c f (Some register) (caller ∷ below) = IsTaken c f register caller

pub record IsTop (c : Code) (t : Typing) (frame : Frame) (below : List Frame) : Type 0 where
  pub function : Function
  pub fits : FrameFits c t function frame
  pub stands : TopStands function frame
  pub takes : Takes c function frame.result below

-- a frame that waits for the one above it, which has a register for its results
pub record IsBelow (c : Code) (t : Typing) (pending : Option ℕ) (frame : Frame) (below : List Frame) : Type 0 where
  pub function : Function
  pub fits : FrameFits c t function frame
  pub stands : Stands function frame pending
  pub begun : IsBegun function frame
  pub takes : Takes c function frame.result below

abbrev pub AreBelow : Code → Typing → Option ℕ → List Frame → Type 0
AreBelow c t pending [] = Unit {0}
AreBelow c t pending (frame ∷ below) = IsBelow c t pending frame below × AreBelow c t frame.result below

abbrev pub AreFrames : Code → Typing → List Frame → Type 0
AreFrames c t [] = Unit {0}
AreFrames c t (top ∷ below) = IsTop c t top below × AreBelow c t top.result below

-- ---- goroutines

abbrev pub LaterFitsWhere : Code → Typing → Option Later → Type 0
LaterFitsWhere c t None = Unit {0}
LaterFitsWhere c t (Some it) = LaterFits c t it

-- a frame that may panic, with those below it
pub record MayPanic (c : Code) (t : Typing) (top : Frame) (below : List Frame) : Type 0 where
  pub function : Function
  pub fits : FrameFits c t function top
  pub begun : IsBegun function top
  pub takes : Takes c function top.result below
  pub lower : AreBelow c t top.result below

abbrev pub MayThrow : Code → Typing → List Frame → Type 0
MayThrow c t [] = Unit {0}
MayThrow c t (top ∷ below) = MayPanic c t top below

-- the frames of a goroutine as it goes on: where a fault waits it is met, wherever the top frame stands
abbrev pub GoOn : Code → Typing → Option Fault → List Frame → Type 0
GoOn c t None frames = AreFrames c t frames
GoOn c t (Some it) frames = MayThrow c t frames

pub record GoroutineFits (c : Code) (t : Typing) (g : Goroutine) : Type 0 where
  pub frames : GoOn c t g.fault g.frames
  pub begin : LaterFitsWhere c t g.begin

-- ---- goroutines that wait

-- a goroutine whose top frame runs, and stands at an instruction
pub record WaitsAt (c : Code) (goroutines : List Goroutine) (number : ℕ) : Type 0 where
  pub g : Goroutine
  pub there : slice_get goroutines number ≡ Some g
  pub top : Frame
  pub below : List Frame
  pub frames : g.frames ≡ top ∷ below
  pub calm : g.fault ≡ None
  pub runs : top.state ≡ running
  pub function : Function
  pub is_function : function_at c top.function ≡ Some function
  pub instr : Instr
  pub at : slice_get (instrs_at function top.block) top.place ≡ Some instr

abbrev pub MaySend : Op → Type 0
MaySend (op.Send channel it) = Unit {0}
MaySend (op.Select blocking cases) = Unit {0}
MaySend _ = ⊥

pub record ReceivesFrom (c : Code) (f : Function) (channel : Operand) (elem : TypeId) : Type 0 where
  pub of : TypeId
  pub is : element_type c f channel ≡ Some of
  pub alike : Alike c.types elem of

abbrev pub MayReceive : Code → Function → ℕ → TypeId → Op → Type 0
MayReceive c f index elem (op.Receive channel comma_ok) = ReceivesFrom c f channel elem
MayReceive c f index elem (op.Select blocking cases) =
    (channel : Operand) × ((slice_get cases index ≡ Some (case.Receive channel)) × ReceivesFrom c f channel elem)
MayReceive c f index elem _ = ⊥

-- ---- membership

abbrev pub IsIn : ℕ → List ℕ → Type 0
IsIn n [] = ⊥
IsIn n (x ∷ xs) = (x ≡ n) ⊎ IsIn n xs

-- ---- channels

pub record SenderFits (c : Code) (t : Typing) (goroutines : List Goroutine) (runnable : List ℕ) (elem : TypeId)
    (it : Sending) : Type 0 where
  pub value : IsOf c t it.value elem
  pub waits : WaitsAt c goroutines it.goroutine.number
  pub sends : MaySend waits.instr.op
  pub sleeps : IsIn it.goroutine.number runnable → ⊥

pub record ReceiverFits (c : Code) (goroutines : List Goroutine) (runnable : List ℕ) (elem : TypeId) (it : Receiver) :
    Type 0 where
  pub waits : WaitsAt c goroutines it.goroutine.number
  pub receives : MayReceive c waits.function it.index elem waits.instr.op
  pub sleeps : IsIn it.goroutine.number runnable → ⊥

pub record ChannelFits (c : Code) (t : Typing) (goroutines : List Goroutine) (runnable : List ℕ) (chan : Chan)
    (elem : TypeId) : Type 0 where
  pub queue : (n : ℕ) (it : Val) → slice_get chan.queue n ≡ Some it → IsOf c t it elem
  pub senders : (n : ℕ) (it : Sending) → slice_get chan.senders n ≡ Some it
      → SenderFits c t goroutines runnable elem it
  pub receivers : (n : ℕ) (it : Receiver) → slice_get chan.receivers n ≡ Some it
      → ReceiverFits c goroutines runnable elem it

-- ---- machines

-- what is called first takes nothing
pub record StartFits (c : Code) (id : FuncId) : Type 0 where
  pub function : Function
  pub there : function_at c id ≡ Some function
  pub params : function.params ≡ []
  pub free : function.free ≡ []

-- channels, and who may run, beside goroutines
pub record SchedFits (c : Code) (t : Typing) (goroutines : List Goroutine) (sched : State) : Type 0 where
  pub count : sched.goroutines ≡ length goroutines
  pub below : (n : ℕ) → IsIn n sched.runnable → n < length goroutines
  pub chans : length t.chans ≡ length sched.channels
  pub channels : (k : ℕ) (chan : Chan) (elem : TypeId) → slice_get sched.channels k ≡ Some chan
      → slice_get t.chans k ≡ Some elem → ChannelFits c t goroutines sched.runnable chan elem

-- package variables are the first cells
abbrev pub HasVariables : Code → Typing → Type 0
HasVariables c t =
    (n : ℕ) (it : CodeVariable) → slice_get c.variables n ≡ Some it → slice_get t.cells n ≡ Some (values.one it.of)

-- a machine, but for the goroutine that runs
pub record OpenFits (c : Code) (t : Typing) (m : Machine) : Type 0 where
  pub others : (n : ℕ) (g : Goroutine) → slice_get m.goroutines n ≡ Some g → (n ≡ m.sched.current.number → ⊥)
      → GoroutineFits c t g
  pub variables : HasVariables c t
  pub store : IsStore c t m.store
  pub sched : SchedFits c t m.goroutines m.sched
  pub current : IsIn m.sched.current.number m.sched.runnable
  pub starts : (n : ℕ) (id : FuncId) → slice_get m.starts n ≡ Some id → StartFits c id

-- a whole machine
pub record MachineFits (c : Code) (t : Typing) (m : Machine) : Type 0 where
  pub opened : OpenFits c t m
  pub g : Goroutine
  pub there : slice_get m.goroutines m.sched.current.number ≡ Some g
  pub fits : GoroutineFits c t g
  pub calm : g.fault ≡ None

-- what a step may lead to
abbrev pub Safe : Code → Next → Type 0
Safe c (goes m) = (t : Typing) × MachineFits c t m
Safe c (ends ending output) = Unit {0}
Safe c stuck = ⊥
