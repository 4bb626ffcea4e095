-- What operations on channels leave: the goroutine that runs is the same, and a close never waits.
use Rattle.std.proofs.Common.{refl, ◌∙◌}
use Rattle.std.specs.Option.{option_map_or}
use Rattle.std.specs.Prelude.{ℕ, suc, ◌≡◌, Bool, true, false, List, [], ◌∷◌, Option, Some, None, Result, Ok, slice_get}
use Rattle.std.specs.Prelude.{slice_index, length, nat_le, nat_lt, ◌&&◌, if◌then◌else◌}
use Rattle.go_base.specs.declared.ids.ChanId.{ChanId}
use Rattle.go_sched.specs.Channels.{Chan, Case, Sending, send, receive, has_room}
use Rattle.go_sched.specs.Choices.{chosen, picked, noted, used_up}
use Rattle.go_sched.specs.Goroutines.{State, changed, gone_on, with_chan}
use Rattle.go_sched.specs.Operations.{Answer, Outcome, Woken, blocks, default, sends, sent_on, given, receives}
use Rattle.go_sched.specs.Operations.{received_from, taken, closes, closed_at, all_gone_on, served_by_close, shut}
use Rattle.go_sched.specs.Operations.{selects, selects_among, ready_from, acts, acts_at, none_ready, all_entered}
use Rattle.go_sched.specs.Operations.{entered, first_receives, first_sends}
use Rattle.go_sched.specs.declared.channels.Receiver.{Receiver}
use Rattle.go_value.specs.Values.{Val}
use Rattle.go_value.specs.declared.faults.Fault.{Fault}

-- the same goroutine runs
abbrev pub Keeps : State → State → Type 0
Keeps old new = new.current ≡ old.current

kept_where : {A : Type 0} (state : State) (f : A → State) (it : Option A) → ((a : A) → Keeps state (f a))
    → Keeps state (option_map_or f it state)
kept_where state f None kept = refl
kept_where state f (Some a) kept = kept a

kept_either : (state one other : State) (b : Bool) → Keeps state one → Keeps state other
    → Keeps state (if b then one else other)
kept_either state one other true p q = p
kept_either state one other false p q = q

either_kept : (state : State) (one other : Outcome) (b : Bool) → Keeps state one.after → Keeps state other.after
    → Keeps state (if b then one else other).after
either_kept state one other true p q = p
either_kept state one other false p q = q

changed_kept : (change : Chan → Chan) (id : ChanId) (state : State) → Keeps state (changed change id state)
changed_kept change id state =
    kept_where state (λ chan. with_chan id (change chan) state) (slice_get state.channels id.number) (λ chan. refl)

-- ---- sends

receives_kept : (id : ChanId) (state : State) (chan : Chan) (receivers : List Receiver)
    → Keeps state (first_receives id state chan receivers)
receives_kept id state chan [] = refl
receives_kept id state chan (first ∷ others) = refl

given_kept : (index : ℕ) (it : Val) (state : State) (id : ChanId) (receivers : List Receiver) (room : Bool)
    → Keeps state (given index it state id receivers room).after
given_kept index it state id (first ∷ others) room =
    kept_where state (λ chan. first_receives id state chan chan.receivers) (slice_get state.channels id.number)
    (λ chan. receives_kept id state chan chan.receivers)
given_kept index it state id [] true = changed_kept _ id state
given_kept index it state id [] false = changed_kept _ id state

sent_kept : (index : ℕ) (it : Val) (state : State) (id : ChanId) (chan : Option Chan)
    → Keeps state (sent_on index it state id chan).after
sent_kept index it state id None = refl
sent_kept index it state id (Some chan) =
    either_kept state _ _ chan.closed refl (given_kept index it state id chan.receivers (has_room chan))

pub sends_kept : (index : ℕ) (it : Val) (state : State) (chan : Option ChanId)
    → Keeps state (sends index it state chan).after
sends_kept index it state None = refl
sends_kept index it state (Some id) = sent_kept index it state id (slice_get state.channels id.number)

-- ---- receives

sending_kept : (id : ChanId) (state : State) (chan : Chan) (senders : List Sending)
    → Keeps state (first_sends id state chan senders)
sending_kept id state chan [] = refl
sending_kept id state chan (first ∷ others) = refl

taken_kept : (index : ℕ) (state : State) (id : ChanId) (senders : List Sending) (queue : List Val) (closed : Bool)
    → Keeps state (taken index state id senders queue closed).after
taken_kept index state id (first ∷ others) queue closed =
    kept_where state (λ chan. first_sends id state chan chan.senders) (slice_get state.channels id.number)
    (λ chan. sending_kept id state chan chan.senders)
taken_kept index state id [] (first ∷ others) closed = changed_kept _ id state
taken_kept index state id [] [] true = refl
taken_kept index state id [] [] false = changed_kept _ id state

received_kept : (index : ℕ) (state : State) (id : ChanId) (chan : Option Chan)
    → Keeps state (received_from index state id chan).after
received_kept index state id None = refl
received_kept index state id (Some chan) = taken_kept index state id chan.senders chan.queue chan.closed

pub receives_kept_by : (index : ℕ) (state : State) (chan : Option ChanId) → Keeps state (receives index state chan).after
receives_kept_by index state None = refl
receives_kept_by index state (Some id) = received_kept index state id (slice_get state.channels id.number)

-- ---- closes

gone_kept : (its : List Woken) (state : State) → Keeps state (all_gone_on its state)
gone_kept [] state = refl
gone_kept (it ∷ others) state = gone_kept others (gone_on it.goroutine state)

closed_kept : (state : State) (id : ChanId) (chan : Option Chan) → Keeps state (closed_at state id chan).after
closed_kept state id None = refl
closed_kept state id (Some chan) =
    either_kept state _ _ chan.closed refl
    (gone_kept (served_by_close chan) (shut id state) ∙ changed_kept _ id state)

pub closes_kept : (state : State) (chan : Option ChanId) → Keeps state (closes state chan).after
closes_kept state None = refl
closes_kept state (Some id) = closed_kept state id (slice_get state.channels id.number)

-- a close is done, or a fault
abbrev pub IsDone : Result Answer Fault → Type 0
IsDone (Ok blocks) = ⊥
IsDone (Ok default) = ⊥
IsDone _ = Unit {0}

either_done : (one other : Outcome) (b : Bool) → IsDone one.answer → IsDone other.answer
    → IsDone (if b then one else other).answer
either_done one other true p q = p
either_done one other false p q = q

closed_done : (state : State) (id : ChanId) (chan : Option Chan) → IsDone (closed_at state id chan).answer
closed_done state id None = tt
closed_done state id (Some chan) = either_done _ _ chan.closed tt tt

pub closes_done : (state : State) (chan : Option ChanId) → IsDone (closes state chan).answer
closes_done state None = tt
closes_done state (Some id) = closed_done state id (slice_get state.channels id.number)

-- ---- selects

entered_kept : (index : ℕ) (it : Case) (state : State) → Keeps state (entered index it state)
entered_kept index (send None it) state = refl
entered_kept index (send (Some id) it) state = changed_kept _ id state
entered_kept index (receive None) state = refl
entered_kept index (receive (Some id)) state = changed_kept _ id state

all_kept : (index : ℕ) (cases : List Case) (state : State) → Keeps state (all_entered index cases state)
all_kept index [] state = refl
all_kept index (it ∷ others) state =
    all_kept (suc index) others (entered index it state) ∙ entered_kept index it state

none_kept : (state : State) (cases : List Case) (has_default : Bool) → Keeps state (none_ready state cases has_default).after
none_kept state cases true = refl
none_kept state cases false = all_kept 0 cases state

noted_kept : (number : ℕ) (state : State) → Keeps state (noted number state)
noted_kept number state = kept_either state _ state (state.records && nat_lt 0 state.spare) refl refl

pub picked_kept : (n : ℕ) (state : State) → Keeps state (picked n state)
picked_kept n state =
    kept_either state state _ (nat_le n 1) refl (noted_kept (chosen n state) (used_up state))

acts_kept : (index : ℕ) (state : State) (it : Case) → Keeps state (acts index state it).after
acts_kept index state (send chan it) = sends_kept index it state chan
acts_kept index state (receive chan) = receives_kept_by index state chan

at_kept : (index : ℕ) (state : State) (cases : List Case) (it : Option Case) (otherwise : Outcome)
    → Keeps state otherwise.after → Keeps state (option_map_or (acts index state) it otherwise).after
at_kept index state cases None otherwise kept = kept
at_kept index state cases (Some it) otherwise kept = acts_kept index state it

among_kept : (ready : List ℕ) (state : State) (cases : List Case) (has_default : Bool)
    → Keeps state (selects_among ready state cases has_default).after
among_kept [] state cases has_default = none_kept state cases has_default
among_kept (x ∷ xs) state cases has_default =
    picked_kept (length (x ∷ xs)) (acts_at (slice_index (x ∷ xs) (chosen (length (x ∷ xs)) state)) state cases).after
    ∙ at_kept (slice_index (x ∷ xs) (chosen (length (x ∷ xs)) state)) state cases
    (slice_get cases (slice_index (x ∷ xs) (chosen (length (x ∷ xs)) state))) _ refl

pub selects_kept : (state : State) (cases : List Case) (has_default : Bool)
    → Keeps state (selects state cases has_default).after
selects_kept state cases has_default = among_kept (ready_from 0 state cases) state cases has_default
