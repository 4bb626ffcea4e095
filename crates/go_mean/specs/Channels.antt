-- Sends, receives, selects and closes. Go specification, "Send statements", "Receive operator", "Select statements" and
-- "Close".
use Rattle.std.specs.Prelude.{ℕ, zero, suc, Bool, true, false, List, [], ◌∷◌, ◌++◌, reverse, Option, Some, None}
use Rattle.std.specs.Prelude.{Result, Ok, Err, slice_get, option_map, is_some, if◌then◌else◌}
use Rattle.std.specs.List.{filter}
use Rattle.std.specs.Option.{option_and_then}
use Rattle.go_base.specs.declared.ids.TypeId.{TypeId}
use Rattle.go_sched.specs.Channels as chans
use Rattle.go_sched.specs.Channels.{Case}
use Rattle.go_sched.specs.Goroutines.{State}
use Rattle.go_sched.specs.Operations.{Woken, Answer, Outcome, done, default, blocks, sends, receives, closes, selects}
use Rattle.go_sched.specs.declared.scheduling.Point.TheVariants as point
use Rattle.go_tree.specs.declared.program.Program.{Program}
use Rattle.go_tree.specs.declared.stmts.Comm.{Comm}
use Rattle.go_tree.specs.declared.stmts.Comm.TheVariants as comm
use Rattle.go_tree.specs.declared.stmts.SelectClause.{SelectClause}
use Rattle.go_value.specs.Values.{Val, chan_number}
use Rattle.go_value.specs.declared.faults.Fault.{Fault}
use Rattle.ssa_mean.specs.Channels.{received_by, fault_of}
use Rattle.ssa_mean.specs.Making.{value_or}
use Rattle.go_mean.specs.Places.{zero_of, element_type}
use Rattle.go_mean.specs.State.{Setting, Site, Piece, send, receive, select, chosen, Frame, Goroutine, Machine, Next}
use Rattle.go_mean.specs.State.{stuck, where_there, with_goroutine, with_frame, finding}
use Rattle.go_mean.specs.Unwinding.{meets, switches}

-- ---- what an operation leads to in the frame that asked for it, whose piece stands first

-- what a receive from a channel of a type gives: of one that is closed and empty the zero value
abbrev pub received : Program → TypeId → Bool → Option Val → Option Val
received p of comma_ok it =
    option_map (value_or comma_ok it) (option_and_then (zero_of p) (element_type p.types of))

-- the values that were found without the last n, where there are so many
abbrev pub without_last : ℕ → List Val → Option (List Val)
without_last zero found = Some found
without_last (suc n) [] = None
without_last (suc n) (it ∷ found) = without_last n found

abbrev pub without_found : ℕ → Frame → Option Frame
without_found n frame = option_map (λ found. record frame { found = found }) (without_last n frame.found)

-- a clause of a select waits to send, or to receive; the default waits for nothing
abbrev pub waits : Comm → Bool
waits comm.Default = false
waits _ = true

-- the clause of the case of a number: the default has none
abbrev pub clause_at : ℕ → List SelectClause → Option SelectClause
clause_at n clauses = slice_get (filter (λ (it : SelectClause). waits it.comm) clauses) n

-- what the clause received, where it receives
abbrev pub received_in : Comm → Option Val → Option (Option Val)
received_in (comm.Receive channel into) it = Some it
received_in _ it = None

abbrev pub chosen_clause : Option Val → Frame → SelectClause → Frame
chosen_clause it frame clause =
    record frame { found = []; work = chosen clause (received_in clause.comm it) ∷ frame.work }

-- the frame behind a piece that is done: a send gives nothing, a receive its value, a select the clause of a case
abbrev pub behind_piece : Program → ℕ → Option Val → Piece → Frame → Option Frame
behind_piece p index it send frame = without_found 2 frame
behind_piece p index it (receive of comma_ok) frame =
    option_and_then (λ value. option_map (finding value) (without_found 1 frame)) (received p of comma_ok it)
behind_piece p index it (select clauses) frame = option_map (chosen_clause it frame) (clause_at index clauses)
behind_piece p index it _ frame = None

-- ---- those that waited go on behind the piece at which they waited

abbrev pub woken_at : Program → Woken → Frame → List Piece → Option Frame
woken_at p it frame [] = None
woken_at p it frame (piece ∷ work) =
    behind_piece p it.index (received_by it.how) piece (record frame { work = work })

abbrev pub woken_frames : Program → Woken → List Frame → Option (List Frame)
woken_frames p it [] = None
woken_frames p it (top ∷ below) = option_map (λ top. top ∷ below) (woken_at p it top top.work)

abbrev pub woken_goroutine : Program → Woken → Goroutine → Option Goroutine
woken_goroutine p it g =
    option_map (λ frames. record { frames = frames; begin = g.begin; fault = fault_of it.how })
    (woken_frames p it g.frames)

abbrev pub woken : Program → Woken → Machine → Option Machine
woken p it m =
    option_map (λ g. with_goroutine it.goroutine.number g m)
    (option_and_then (woken_goroutine p it) (slice_get m.goroutines it.goroutine.number))

abbrev pub all_woken : Program → List Woken → Machine → Option Machine
all_woken p [] m = Some m
all_woken p (it ∷ others) m = option_and_then (all_woken p others) (woken p it m)

-- ---- the outcome of an operation of the current goroutine

abbrev pub with_sched : State → Machine → Machine
with_sched sched m = record m { sched = sched }

-- the operation is done: those that waited for it go on, and then there is a switch point
abbrev pub completed : Setting → List Woken → Machine → Next
completed s others m = where_there (switches s point.After) (all_woken s.program others m)

-- where the goroutine blocks, it stays at its piece
abbrev pub answered : Setting → Machine → (ℕ → Option Val → Option Machine) → Option Machine → Answer → Next
answered s m onward otherwise (done index it others) = where_there (completed s others) (onward index it)
answered s m onward otherwise default = where_there (switches s point.After) otherwise
answered s m onward otherwise blocks = switches s point.Blocked m

abbrev pub came_to :
    Setting → Machine → (ℕ → Option Val → Option Machine) → Option Machine → Result Answer Fault → Next
came_to s m onward otherwise (Ok answer) = answered s m onward otherwise answer
came_to s m onward otherwise (Err fault) = meets s m fault

-- the machine behind the piece
abbrev pub behind : Site → Piece → State → ℕ → Option Val → Option Machine
behind s piece sched index it =
    option_map (λ frame. with_sched sched (with_frame s frame))
    (behind_piece s.setting.program index it piece s.frame)

abbrev pub operated : Site → Piece → Option Machine → Outcome → Next
operated s piece otherwise outcome =
    came_to s.setting (with_sched outcome.after s.machine) (behind s piece outcome.after) otherwise outcome.answer

-- ---- "Send statements" and "Receive operator"

abbrev pub sends_found : Site → List Val → Next
sends_found s (it ∷ chan_number id ∷ found) = operated s send None (sends 0 it s.machine.sched id)
sends_found s _ = stuck

abbrev pub receives_found : Site → TypeId → Bool → List Val → Next
receives_found s of comma_ok (chan_number id ∷ found) =
    operated s (receive of comma_ok) None (receives 0 s.machine.sched id)
receives_found s of comma_ok _ = stuck

-- ---- "Select statements"

-- the cases, of operands in the order in which they were evaluated
abbrev pub case_of : Comm → List Val → Option (List Case × List Val)
case_of comm.Default operands = Some ([], operands)
case_of (comm.Send channel value) (chan_number id ∷ it ∷ operands) = Some (chans.send id it ∷ [], operands)
case_of (comm.Receive channel into) (chan_number id ∷ operands) = Some (chans.receive id ∷ [], operands)
case_of _ operands = None

abbrev pub cases_of : List SelectClause → List Val → Option (List Case)
cases_of [] operands = Some []
cases_of (clause ∷ clauses) operands =
    option_and_then (λ (first : List Case × List Val). option_map (λ others. first.0 ++ others)
    (cases_of clauses first.1)) (case_of clause.comm operands)

abbrev pub default_of : List SelectClause → Option SelectClause
default_of [] = None
default_of (clause ∷ clauses) = if waits clause.comm then default_of clauses else Some clause

-- the machine that takes the default
abbrev pub defaults : Site → State → SelectClause → Machine
defaults s sched clause = with_sched sched (with_frame s (chosen_clause None s.frame clause))

abbrev pub selects_with : Site → List SelectClause → Outcome → Next
selects_with s clauses outcome =
    operated s (select clauses) (option_map (defaults s outcome.after) (default_of clauses)) outcome

abbrev pub selects_found : Site → List SelectClause → Next
selects_found s clauses =
    where_there (λ cases. selects_with s clauses (selects s.machine.sched cases (is_some (default_of clauses))))
    (cases_of clauses (reverse s.frame.found))

-- ---- "Close"

abbrev pub closes_of : Setting → Machine → Machine → List Val → Next
closes_of s m behind (chan_number id ∷ []) =
    let outcome = closes m.sched id in
    came_to s m (λ index it. Some (with_sched outcome.after behind)) None outcome.answer
closes_of s m behind _ = stuck
