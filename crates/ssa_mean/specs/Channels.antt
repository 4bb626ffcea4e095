-- Sends, receives, selects and closes. Go specification, "Send statements", "Receive operator", "Select statements" and
-- "Close".
use Rattle.std.specs.Prelude.{ℕ, suc, ◌==◌, Bool, true, false, List, [], ◌∷◌, ℤ, pos, negsuc, Option, Some, None}
use Rattle.std.specs.Prelude.{Result, Ok, Err, is_some, slice_get, option_map}
use Rattle.std.specs.Option.{option_and_then}
use Rattle.go_base.specs.declared.ids.ChanId.{ChanId}
use Rattle.go_sched.specs.Channels as chans
use Rattle.go_sched.specs.Channels.{Case}
use Rattle.go_sched.specs.Goroutines.{State}
use Rattle.go_sched.specs.Operations.{How, Woken, Answer, Outcome, done, default, blocks, sends, receives, closes}
use Rattle.go_sched.specs.Operations.{selects}
use Rattle.go_sched.specs.Operations as operations
use Rattle.go_sched.specs.declared.scheduling.Point.TheVariants as point
use Rattle.go_value.specs.Values.{Val, Parts, none, part, truth, number, chan_number, parts}
use Rattle.go_value.specs.declared.faults.Fault.{Fault}
use Rattle.go_value.specs.declared.faults.Fault.TheVariants as fault
use Rattle.ssa_ir.specs.Blocks.{instrs_at}
use Rattle.ssa_ir.specs.declared.code.Code.{Code}
use Rattle.ssa_ir.specs.declared.code.Function.{Function}
use Rattle.ssa_ir.specs.declared.operands.Operand.{Operand}
use Rattle.ssa_ir.specs.declared.ops.Instr.{Instr}
use Rattle.ssa_ir.specs.declared.ops.Op.{Op}
use Rattle.ssa_ir.specs.declared.ops.Op.TheVariants as op
use Rattle.ssa_ir.specs.declared.ops.SelectCase.{SelectCase}
use Rattle.ssa_ir.specs.declared.ops.SelectCase.TheVariants as case
use Rattle.ssa_mean.specs.Making.{value_or}
use Rattle.ssa_mean.specs.Operands.{function_at, value_of, element_type}
use Rattle.ssa_mean.specs.State.{Frame, FrameState, running, Goroutine, Machine, Next, where_there, with_frames}
use Rattle.ssa_mean.specs.State.{with_goroutine, with_result, advanced}
use Rattle.ssa_mean.specs.Unwinding.{meets, switches}
use Rattle.ssa_mean.specs.Zeros.{zero_where}

-- ---- what an operation gives

-- what a receive gives: of a channel that is closed and empty the zero value
abbrev pub received : Code → Function → Operand → Bool → Option Val → Option Val
received code function channel comma_ok it =
    option_map (value_or comma_ok it) (zero_where code (element_type code function channel))

-- of the cases that receive, the one that was chosen has its value, and the others have zero values
abbrev pub value_if : Bool → Option Val → Option Val
value_if true it = it
value_if false it = None

abbrev pub is_chosen : ℕ → Option ℕ → Bool
is_chosen index None = false
is_chosen index (Some chosen) = index == chosen

abbrev pub with_received : Option Val → Option Parts → Option Parts
with_received it rest = option_and_then (λ first. option_map (part first false) rest) it

abbrev pub received_parts : Code → Function → ℕ → Option ℕ → Option Val → List SelectCase → Option Parts
received_parts code function index chosen it [] = Some none
received_parts code function index chosen it (case.Send channel value ∷ cases) =
    received_parts code function (suc index) chosen it cases
received_parts code function index chosen it (case.Receive channel ∷ cases) =
    with_received (received code function channel false (value_if (is_chosen index chosen) it))
    (received_parts code function (suc index) chosen it cases)

abbrev pub case_number : Option ℕ → ℤ
case_number None = negsuc 0
case_number (Some index) = pos index

-- the tuple of a select: the case that was chosen, -1 for the default; whether a value was received; and a value for
-- each case that receives
abbrev pub selected : Code → Function → List SelectCase → Option ℕ → Option Val → Option Val
selected code function cases chosen it =
    option_map (λ rest. parts (part (number (case_number chosen)) false (part (truth (is_some it)) false rest)))
    (received_parts code function 0 chosen it cases)

-- ---- those that waited go on, behind the instruction at which they waited

-- what the instruction gives when a case of it is done: nothing for a send
abbrev pub gives_done : Code → Function → ℕ → Option Val → Op → Option (Option Val)
gives_done code function index it (op.Send channel value) = Some None
gives_done code function index it (op.Receive channel comma_ok) =
    option_map Some (received code function channel comma_ok it)
gives_done code function index it (op.Select blocking cases) =
    option_map Some (selected code function cases (Some index) it)
gives_done code function index it _ = None

abbrev pub received_by : How → Option Val
received_by operations.sent = None
received_by (operations.received it) = it
received_by operations.send_on_closed = None

-- the fault of a sender whose channel was closed; it meets it as it goes on
abbrev pub fault_of : How → Option Fault
fault_of operations.send_on_closed = Some fault.SendOnClosed
fault_of _ = None

abbrev pub fault_after : How → Option Fault → Option Fault
fault_after operations.send_on_closed before = fault_of operations.send_on_closed
fault_after _ before = before

abbrev pub instr_at : Function → Frame → Option Instr
instr_at function frame = slice_get (instrs_at function frame.block) frame.place

-- one whose channel was closed while it sent gets nothing, and meets a fault as it goes on
abbrev pub given_by : Code → Function → ℕ → How → Op → Option (Option Val)
given_by code function index operations.send_on_closed (op.Send channel value) = Some None
given_by code function index operations.send_on_closed (op.Select blocking cases) = Some None
given_by code function index operations.send_on_closed op = None
given_by code function index how op = gives_done code function index (received_by how) op

abbrev pub gone_behind : Code → Function → Woken → Frame → Instr → Option Frame
gone_behind code function it frame instr =
    option_map (λ value. advanced (with_result instr.register value frame))
    (given_by code function it.index it.how instr.op)

-- only a frame that runs waits
abbrev pub where_running : {A : Type 0} → FrameState → Option A → Option A
where_running running it = it
where_running _ it = None

abbrev pub woken_frame : Code → Woken → Frame → Option Frame
woken_frame code it frame =
    where_running frame.state
    (option_and_then (λ function. option_and_then (gone_behind code function it frame) (instr_at function frame))
    (function_at code frame.function))

abbrev pub woken_frames : Code → Woken → List Frame → Option (List Frame)
woken_frames code it [] = None
woken_frames code it (top ∷ below) = option_map (λ top. top ∷ below) (woken_frame code it top)

abbrev pub woken_goroutine : Code → Woken → Goroutine → Option Goroutine
woken_goroutine code it g =
    option_map (λ frames. record g { frames = frames; fault = fault_after it.how g.fault })
    (woken_frames code it g.frames)

abbrev pub woken : Code → Woken → Machine → Option Machine
woken code it m =
    option_map (λ g. with_goroutine it.goroutine.number g m)
    (option_and_then (woken_goroutine code it) (slice_get m.goroutines it.goroutine.number))

abbrev pub all_woken : Code → List Woken → Machine → Option Machine
all_woken code [] m = Some m
all_woken code (it ∷ others) m = option_and_then (all_woken code others) (woken code it m)

-- ---- the outcome of an operation of the current goroutine

abbrev pub with_sched : State → Machine → Machine
with_sched sched m = record m { sched = sched }

-- the operation is done: those that waited for it go on, and then there is a switch point
abbrev pub completed : Code → List Woken → Machine → Next
completed code others m = where_there (switches code point.After) (all_woken code others m)

-- the top frame goes on behind its instruction, with what that gives
abbrev pub behind : Goroutine → List Frame → Frame → Option ℕ → Option Val → Machine → Machine
behind g below frame register it m = with_frames g (advanced (with_result register it frame) ∷ below) m

-- where the goroutine blocks, it stays at its instruction
abbrev pub answered : Code → Machine → (ℕ → Option Val → Option Machine) → Option Machine → Answer → Next
answered code m next otherwise (done index it others) = where_there (completed code others) (next index it)
answered code m next otherwise default = where_there (switches code point.After) otherwise
answered code m next otherwise blocks = switches code point.Blocked m

abbrev pub came_to : Code → Machine → (ℕ → Option Val → Option Machine) → Option Machine → Result Answer Fault → Next
came_to code m next otherwise (Ok answer) = answered code m next otherwise answer
came_to code m next otherwise (Err fault) = meets code m fault

-- ---- operands

abbrev pub chan_in : Val → Option (Option ChanId)
chan_in (chan_number id) = Some id
chan_in _ = None

abbrev pub channel_of : Code → Frame → Operand → Option (Option ChanId)
channel_of code frame it = option_and_then chan_in (value_of code frame it)

-- the channels and the values to be sent are evaluated once, in source order
abbrev pub case_of : Code → Frame → SelectCase → Option Case
case_of code frame (case.Send channel value) =
    option_and_then (λ id. option_map (chans.send id) (value_of code frame value)) (channel_of code frame channel)
case_of code frame (case.Receive channel) = option_map chans.receive (channel_of code frame channel)

abbrev pub with_case : Option Case → Option (List Case) → Option (List Case)
with_case it others = option_and_then (λ first. option_map (λ rest. first ∷ rest) others) it

abbrev pub cases_of : Code → Frame → List SelectCase → Option (List Case)
cases_of code frame [] = Some []
cases_of code frame (first ∷ others) = with_case (case_of code frame first) (cases_of code frame others)
