-- What operations on channels come to: who goes on, with what, and what the channels hold after.
use Rattle.std.proofs.Common.{◌≡◌, ◌<◌, ◌+◌, ◌==◌, ◌||◌, arith, ℕ, suc, Bool, true, false, not, if◌then◌else◌, List, [], ◌∷◌, ◌++◌, length, map, Option, Some, None, Ok, Err, Result, refl, sym, subst, ap, ◌∙◌, slice_get, slice_index, true≢false}
use Rattle.std.specs.Cmp.{unsigned_Decides}
use Rattle.std.specs.Option.{option_map_or}
use Rattle.code_safety.proofs.Lists.{get_below, below_get}
use Rattle.code_safety.proofs.Machines.{SchedFits, ChannelFits, SenderFits, ReceiverFits, WaitsAt, MaySend, MayReceive, IsIn}
use Rattle.code_safety.proofs.Sames.{is_of_alike}
use Rattle.code_safety.proofs.Shapes.{alike_sym}
use Rattle.code_safety.proofs.Throwing.{picked_same, sched_smaller}
use Rattle.code_safety.proofs.Values.{Typing, IsOf, ChanFits}
use Rattle.go_base.specs.declared.ids.ChanId.{ChanId}
use Rattle.go_base.specs.declared.ids.GoId.{GoId}
use Rattle.go_base.specs.declared.ids.TypeId.{TypeId}
use Rattle.go_sched.specs.Channels as chans
use Rattle.go_sched.specs.Channels.{Case, Chan, Sending, has_room, with_value, with_sender, with_receiver, without_value, without_receiver, closed_down, front_value, passed_on}
use Rattle.go_sched.specs.Choices as choices
use Rattle.go_sched.specs.Choices.{picked}
use Rattle.go_sched.specs.Goroutines.{State, with_chan, stopped, gone_on}
use Rattle.go_sched.specs.Operations as operations
use Rattle.go_sched.specs.Operations.{How, Woken, Answer, Outcome, done, default, blocks, sends, receives, closes, selects, sent_on, given, given_to, first_receives, receiver_served, received_from, taken, taken_from, first_sends, sender_served, closed_receiver, closed_sender, goes_on, with_first, with_firsts, served_by_close, all_gone_on, shut, closed_at, ready_from, entered, all_entered, none_ready, with_choice, selects_among}
use Rattle.go_sched.specs.declared.channels.Receiver.{Receiver}
use Rattle.go_value.specs.Values.{Val}
use Rattle.go_value.specs.declared.faults.Fault.{Fault}
use Rattle.go_value.specs.declared.faults.Fault.TheVariants as fault
use Rattle.ssa_ir.specs.declared.code.Code.{Code}
use Rattle.ssa_ir.specs.declared.code.Function.{Function}
use Rattle.ssa_ir.specs.declared.ops.Op.{Op}
use Rattle.ssa_mean.specs.State.{Goroutine}
use Rattle.code_safety.proofs.Channels.{in_inserted, inserted_keeps, map_from, gone_on_fits, with_chan_fits, stopped_fits, changed_is, may_receive_alike, chan_elem, sender_entered, receiver_entered, receiver_left, value_kept, value_drawn, sender_left, closed_down_fits}

-- ---- those that go on

-- what one that waited at an instruction gets
abbrev pub HowFits : Code → Typing → Function → ℕ → Op → How → Type 0
HowFits c t f index op operations.sent = MaySend op
HowFits c t f index op (operations.received None) = (elem : TypeId) × MayReceive c f index elem op
HowFits c t f index op (operations.received (Some it)) =
    (elem : TypeId) × (MayReceive c f index elem op × IsOf c t it elem)
HowFits c t f index op operations.send_on_closed = MaySend op

pub record WokenFits (c : Code) (t : Typing) (goroutines : List Goroutine) (current : ℕ) (runnable : List ℕ) (it : Woken) :
    Type 0 where
  pub waits : WaitsAt c goroutines it.goroutine.number
  pub fits : HowFits c t waits.function it.index waits.instr.op it.how
  pub other : it.goroutine.number ≡ current → ⊥
  pub runs : IsIn it.goroutine.number runnable

abbrev pub IsOther : ℕ → List Woken → Type 0
IsOther n [] = Unit {0}
IsOther n (it ∷ others) = (it.goroutine.number ≡ n → ⊥) × IsOther n others

-- each once
abbrev pub AreWoken : Code → Typing → List Goroutine → ℕ → List ℕ → List Woken → Type 0
AreWoken c t goroutines current runnable [] = Unit {0}
AreWoken c t goroutines current runnable (it ∷ others) =
    WokenFits c t goroutines current runnable it
    × (IsOther it.goroutine.number others × AreWoken c t goroutines current runnable others)

-- ---- outcomes

-- the current goroutine runs on
pub record RunsOn (c : Code) (t : Typing) (goroutines : List Goroutine) (old after : State) : Type 0 where
  pub fits : SchedFits c t goroutines after
  pub same : after.current ≡ old.current
  pub runs : IsIn after.current.number after.runnable

module _ (c : Code) (t : Typing) (goroutines : List Goroutine) (old : State) (takes : ℕ → Option Val → Type 0) where
  abbrev pub AnswerFits : State → Result Answer Fault → Type 0
  AnswerFits after (Err fault) = RunsOn c t goroutines old after
  AnswerFits after (Ok blocks) = SchedFits c t goroutines after
  AnswerFits after (Ok default) = RunsOn c t goroutines old after
  AnswerFits after (Ok (done index it others)) =
      RunsOn c t goroutines old after
      × (takes index it × AreWoken c t goroutines old.current.number after.runnable others)

  abbrev pub OutcomeFits : Outcome → Type 0
  OutcomeFits outcome = AnswerFits outcome.after outcome.answer

-- ---- what the current goroutine asks for, at an instruction at which it may wait

abbrev pub CaseFits : Code → Typing → Function → ℕ → Op → Case → Type 0
CaseFits c t f index op (chans.send chan it) =
    (elem : TypeId) × (ChanFits c t chan elem × (IsOf c t it elem × MaySend op))
CaseFits c t f index op (chans.receive chan) =
    (elem : TypeId) × (ChanFits c t chan elem × MayReceive c f index elem op)

-- what a case gives: a send nothing; a receive a value of the elements, or nothing
abbrev pub GivesCase : Code → Typing → Function → ℕ → Op → Option Val → Case → Type 0
GivesCase c t f index op it (chans.send chan value) = it ≡ None
GivesCase c t f index op None (chans.receive chan) = (elem : TypeId) × MayReceive c f index elem op
GivesCase c t f index op (Some it) (chans.receive chan) =
    (elem : TypeId) × (MayReceive c f index elem op × IsOf c t it elem)

-- ---- the current goroutine comes to wait

-- what a case that is entered changes
record Entered (c : Code) (t : Typing) (goroutines : List Goroutine) (old after : State) : Type 0 where
  fits : SchedFits c t goroutines (stopped after)
  same : after.current ≡ old.current

entered_fits : (c : Code) (t : Typing) (goroutines : List Goroutine) (state : State)
    (waits : WaitsAt c goroutines state.current.number) (index : ℕ) (case : Case)
    → CaseFits c t waits.function index waits.instr.op case → SchedFits c t goroutines (stopped state)
    → Entered c t goroutines state (entered index case state)
entered_fits c t goroutines state waits index (chans.send None it) is fits = record { fits = fits; same = refl }
entered_fits c t goroutines state waits index (chans.receive None) is fits = record { fits = fits; same = refl }
entered_fits c t goroutines state waits index (chans.send (Some id) it) is fits =
    by (slice_get state.channels id.number) refl
  where
    new : Sending
    new = record { goroutine = state.current; index = index; value = it }

    by : (found : Option Chan) → slice_get state.channels id.number ≡ found
        → Entered c t goroutines state (option_map_or (λ chan. with_chan id (with_sender new chan) state) found state)
    by None e = record { fits = fits; same = refl }
    by (Some chan) e =
        record {
          fits = with_chan_fits c t goroutines id chan (with_sender new chan) (stopped state) fits e
              (λ elem there. sender_entered c t goroutines state.current.number state.runnable waits new refl is.1.1.1 chan
              elem (is_of_alike c t it is.0 elem
              (alike_sym c.types elem is.0 (chan_elem c t id is.0 elem is.1.0 there)) is.1.1.0)
              (fits.channels id.number chan elem e there));
          same = refl;
        }
entered_fits c t goroutines state waits index (chans.receive (Some id)) is fits =
    by (slice_get state.channels id.number) refl
  where
    new : Receiver
    new = record { goroutine = state.current; index = index }

    by : (found : Option Chan) → slice_get state.channels id.number ≡ found
        → Entered c t goroutines state (option_map_or (λ chan. with_chan id (with_receiver new chan) state) found state)
    by None e = record { fits = fits; same = refl }
    by (Some chan) e =
        record {
          fits = with_chan_fits c t goroutines id chan (with_receiver new chan) (stopped state) fits e
              (λ elem there. receiver_entered c t goroutines state.current.number state.runnable waits new refl chan elem
              (may_receive_alike c waits.function index elem is.0 (chan_elem c t id is.0 elem is.1.0 there) waits.instr.op
              is.1.1) (fits.channels id.number chan elem e there));
          same = refl;
        }

-- ---- sends

sent_on_fits : (c : Code) (t : Typing) (goroutines : List Goroutine) (state : State) → SchedFits c t goroutines state
    → IsIn state.current.number state.runnable → (waits : WaitsAt c goroutines state.current.number)
    → (index : ℕ) (it : Val) (id : ChanId)
    → CaseFits c t waits.function index waits.instr.op (chans.send (Some id) it)
    → (chan : Chan) → slice_get state.channels id.number ≡ Some chan
    → OutcomeFits c t goroutines state (λ n found. (n ≡ index) × (found ≡ None)) (sent_on index it state id (Some chan))
sent_on_fits c t goroutines state fits runs waits index it id is chan e =
    unless chan.closed (given_fits chan.receivers refl (has_room chan))
  where
    unless : (b : Bool)
        → OutcomeFits c t goroutines state (λ n found. (n ≡ index) × (found ≡ None))
        (given index it state id chan.receivers (has_room chan))
        → OutcomeFits c t goroutines state (λ n found. (n ≡ index) × (found ≡ None))
        (if b then operations.faults fault.SendOnClosed state else given index it state id chan.receivers (has_room chan))
    unless true h = record { fits = fits; same = refl; runs = runs }
    unless false h = h

    old : ChannelFits c t goroutines state.runnable chan is.1.0.of
    old = fits.channels id.number chan is.1.0.of e is.1.0.there

    value : (elem : TypeId) → slice_get t.chans id.number ≡ Some elem → IsOf c t it elem
    value elem there =
        is_of_alike c t it is.0 elem (alike_sym c.types elem is.0 (chan_elem c t id is.0 elem is.1.0 there)) is.1.1.0

    given_fits : (receivers : List Receiver) → chan.receivers ≡ receivers → (room : Bool)
        → OutcomeFits c t goroutines state (λ n found. (n ≡ index) × (found ≡ None))
        (given index it state id receivers room)
    given_fits (first ∷ others) are room =
        let r : ReceiverFits c goroutines state.runnable is.1.0.of first =
        old.receivers 0 first (ap (λ its. slice_get its 0) are) in
        let served : receiver_served id state ≡ gone_on first.goroutine (with_chan id (without_receiver chan) state) =
        ap (λ found. option_map_or (λ (chan : Chan). first_receives id state chan chan.receivers) found state) e
        ∙ ap (first_receives id state chan) are in
        subst (λ after. OutcomeFits c t goroutines state (λ n found. (n ≡ index) × (found ≡ None))
        (operations.completes index None (given_to first it ∷ []) after)) (sym served) (
          record {
            fits = gone_on_fits c t goroutines first.goroutine (with_chan id (without_receiver chan) state)
                (with_chan_fits c t goroutines id chan (without_receiver chan) state fits e
                (λ elem there. receiver_left c t goroutines state.runnable chan elem
                (fits.channels id.number chan elem e there)))
                (get_below goroutines first.goroutine.number r.waits.g r.waits.there);
            same = refl;
            runs = inserted_keeps first.goroutine.number state.current.number state.runnable runs;
          },
          (
            (refl, refl),
            (
              record {
                waits = r.waits;
                fits = (is.1.0.of, (r.receives, value is.1.0.of is.1.0.there));
                other = λ same. r.sleeps (subst (λ k. IsIn k state.runnable) (sym same) runs);
                runs = in_inserted first.goroutine.number state.runnable;
              },
              (tt, tt),
            ),
          ),
        )
    given_fits [] are true =
        subst (λ after. OutcomeFits c t goroutines state (λ n found. (n ≡ index) × (found ≡ None))
        (operations.completes index None [] after)) (sym (changed_is (with_value it) id state chan e)) (
          record {
            fits = with_chan_fits c t goroutines id chan (with_value it chan) state fits e
                (λ elem there. value_kept c t goroutines state.runnable chan elem it (value elem there)
                (fits.channels id.number chan elem e there));
            same = refl;
            runs = runs;
          },
          ((refl, refl), tt),
        )
    given_fits [] are false =
        (entered_fits c t goroutines state waits index (chans.send (Some id) it) is
        (stopped_fits c t goroutines state fits)).fits

pub sends_fit : (c : Code) (t : Typing) (goroutines : List Goroutine) (state : State) → SchedFits c t goroutines state
    → IsIn state.current.number state.runnable → (waits : WaitsAt c goroutines state.current.number)
    → (index : ℕ) (it : Val) (chan : Option ChanId)
    → CaseFits c t waits.function index waits.instr.op (chans.send chan it)
    → OutcomeFits c t goroutines state
    (λ n found. (n ≡ index) × GivesCase c t waits.function index waits.instr.op found (chans.send chan it))
    (sends index it state chan)
sends_fit c t goroutines state fits runs waits index it None case = stopped_fits c t goroutines state fits
sends_fit c t goroutines state fits runs waits index it (Some id) case = by (slice_get state.channels id.number) refl
  where
    by : (found : Option Chan) → slice_get state.channels id.number ≡ found
        → OutcomeFits c t goroutines state (λ n found. (n ≡ index) × (found ≡ None)) (sent_on index it state id found)
    by None e = stopped_fits c t goroutines state fits
    by (Some chan) e = sent_on_fits c t goroutines state fits runs waits index it id case chan e

-- ---- receives

received_from_fits : (c : Code) (t : Typing) (goroutines : List Goroutine) (state : State) → SchedFits c t goroutines state
    → IsIn state.current.number state.runnable → (waits : WaitsAt c goroutines state.current.number)
    → (index : ℕ) (id : ChanId) → CaseFits c t waits.function index waits.instr.op (chans.receive (Some id))
    → (chan : Chan) → slice_get state.channels id.number ≡ Some chan
    → OutcomeFits c t goroutines state
    (λ n found. (n ≡ index) × GivesCase c t waits.function index waits.instr.op found (chans.receive (Some id)))
    (received_from index state id (Some chan))
received_from_fits c t goroutines state fits runs waits index id is chan e =
    taken_fits chan.senders refl chan.queue refl chan.closed
  where
    old : ChannelFits c t goroutines state.runnable chan is.1.0.of
    old = fits.channels id.number chan is.1.0.of e is.1.0.there

    gives : (it : Val) → IsOf c t it is.1.0.of
        → GivesCase c t waits.function index waits.instr.op (Some it) (chans.receive (Some id))
    gives it value = (is.0, (is.1.1, is_of_alike c t it is.1.0.of is.0 is.1.0.alike value))

    front : (it : Val) (queue : List Val) → IsOf c t it is.1.0.of
        → ((k : ℕ) (it : Val) → slice_get queue k ≡ Some it → IsOf c t it is.1.0.of)
        → IsOf c t (front_value it queue) is.1.0.of
    front it [] value each = value
    front it (x ∷ xs) value each = each 0 x refl

    taken_fits : (senders : List Sending) → chan.senders ≡ senders → (queue : List Val) → chan.queue ≡ queue
        → (closed : Bool)
        → OutcomeFits c t goroutines state
        (λ n found. (n ≡ index) × GivesCase c t waits.function index waits.instr.op found (chans.receive (Some id)))
        (taken index state id senders queue closed)
    taken_fits (first ∷ others) are queue is_queue closed =
        let r : SenderFits c t goroutines state.runnable is.1.0.of first =
        old.senders 0 first (ap (λ its. slice_get its 0) are) in
        let served : sender_served id state
        ≡ gone_on first.goroutine (with_chan id (passed_on chan (first ∷ others)) state) =
        ap (λ found. option_map_or (λ (chan : Chan). first_sends id state chan chan.senders) found state) e
        ∙ ap (first_sends id state chan) are
        ∙ ap (λ its. gone_on first.goroutine (with_chan id (passed_on chan its) state)) are in
        subst (λ after. OutcomeFits c t goroutines state
        (λ n found. (n ≡ index) × GivesCase c t waits.function index waits.instr.op found (chans.receive (Some id)))
        (operations.completes index (Some (front_value first.value queue)) (taken_from first ∷ []) after)) (sym served) (
          record {
            fits = gone_on_fits c t goroutines first.goroutine (with_chan id (passed_on chan (first ∷ others)) state)
                (with_chan_fits c t goroutines id chan (passed_on chan (first ∷ others)) state fits e
                (λ elem there. sender_left c t goroutines state.runnable chan elem first others are
                (fits.channels id.number chan elem e there)))
                (get_below goroutines first.goroutine.number r.waits.g r.waits.there);
            same = refl;
            runs = inserted_keeps first.goroutine.number state.current.number state.runnable runs;
          },
          (
            (
              refl,
              gives (front_value first.value queue)
                  (front first.value queue r.value (λ k it at. old.queue k it (ap (λ its. slice_get its k) is_queue ∙ at))),
            ),
            (
              record {
                waits = r.waits;
                fits = r.sends;
                other = λ same. r.sleeps (subst (λ k. IsIn k state.runnable) (sym same) runs);
                runs = in_inserted first.goroutine.number state.runnable;
              },
              (tt, tt),
            ),
          ),
        )
    taken_fits [] are (first ∷ others) is_queue closed =
        subst (λ after. OutcomeFits c t goroutines state
        (λ n found. (n ≡ index) × GivesCase c t waits.function index waits.instr.op found (chans.receive (Some id)))
        (operations.completes index (Some first) [] after)) (sym (changed_is without_value id state chan e)) (
          record {
            fits = with_chan_fits c t goroutines id chan (without_value chan) state fits e
                (λ elem there. value_drawn c t goroutines state.runnable chan elem
                (fits.channels id.number chan elem e there));
            same = refl;
            runs = runs;
          },
          ((refl, gives first (old.queue 0 first (ap (λ its. slice_get its 0) is_queue))), tt),
        )
    taken_fits [] are [] is_queue true =
        (record { fits = fits; same = refl; runs = runs }, ((refl, (is.0, is.1.1)), tt))
    taken_fits [] are [] is_queue false =
        (entered_fits c t goroutines state waits index (chans.receive (Some id)) is
        (stopped_fits c t goroutines state fits)).fits

pub receives_fit : (c : Code) (t : Typing) (goroutines : List Goroutine) (state : State) → SchedFits c t goroutines state
    → IsIn state.current.number state.runnable → (waits : WaitsAt c goroutines state.current.number)
    → (index : ℕ) (chan : Option ChanId)
    → CaseFits c t waits.function index waits.instr.op (chans.receive chan)
    → OutcomeFits c t goroutines state
    (λ n found. (n ≡ index) × GivesCase c t waits.function index waits.instr.op found (chans.receive chan))
    (receives index state chan)
receives_fit c t goroutines state fits runs waits index None case = stopped_fits c t goroutines state fits
receives_fit c t goroutines state fits runs waits index (Some id) case = by (slice_get state.channels id.number) refl
  where
    by : (found : Option Chan) → slice_get state.channels id.number ≡ found
        → OutcomeFits c t goroutines state
        (λ n found. (n ≡ index) × GivesCase c t waits.function index waits.instr.op found (chans.receive (Some id)))
        (received_from index state id found)
    by None e = stopped_fits c t goroutines state fits
    by (Some chan) e = received_from_fits c t goroutines state fits runs waits index id case chan e

-- ---- selects

all_entered_fits : (c : Code) (t : Typing) (goroutines : List Goroutine) (state : State)
    (waits : WaitsAt c goroutines state.current.number) (after : State) → after.current ≡ state.current
    → (cases : List Case) (index : ℕ)
    → ((n k : ℕ) (case : Case) → k ≡ index + n → slice_get cases n ≡ Some case
    → CaseFits c t waits.function k waits.instr.op case)
    → SchedFits c t goroutines (stopped after) → SchedFits c t goroutines (stopped (all_entered index cases after))
all_entered_fits c t goroutines state waits after same [] index each fits = fits
all_entered_fits c t goroutines state waits after same (case ∷ cases) index each fits =
    let here : WaitsAt c goroutines after.current.number = record {
      g = waits.g;
      there = ap (λ (g : GoId). slice_get goroutines g.number) same ∙ waits.there;
      top = waits.top;
      below = waits.below;
      frames = waits.frames;
      calm = waits.calm;
      runs = waits.runs;
      function = waits.function;
      is_function = waits.is_function;
      instr = waits.instr;
      at = waits.at;
    } in
    let next : Entered c t goroutines after (entered index case after) =
    entered_fits c t goroutines after here index case (each 0 index case (omega arith) refl) fits in
    all_entered_fits c t goroutines state waits (entered index case after) (next.same ∙ same) cases (suc index)
    (λ n k other is there. each (suc n) k other (omega (arith, is)) there) next.fits

-- a choice changes nothing else
runs_picked : (c : Code) (t : Typing) (goroutines : List Goroutine) (old after : State) (n : ℕ)
    → RunsOn c t goroutines old after → RunsOn c t goroutines old (picked n after)
runs_picked c t goroutines old after n on =
    let only = picked_same n after in
    record {
      fits = sched_smaller c t goroutines after (picked n after) on.fits only.goroutines only.channels
          (λ k h. subst (IsIn k) only.runnable h);
      same = only.current ∙ on.same;
      runs = subst (λ r. IsIn (picked n after).current.number r) (sym only.runnable)
          (subst (λ (g : GoId). IsIn g.number after.runnable) (sym only.current) on.runs);
    }

answer_picked : (c : Code) (t : Typing) (goroutines : List Goroutine) (old : State) (takes taken : ℕ → Option Val → Type 0)
    → ((n : ℕ) (it : Option Val) → takes n it → taken n it) → (n : ℕ) (after : State) (answer : Result Answer Fault)
    → AnswerFits c t goroutines old takes after answer → AnswerFits c t goroutines old taken (picked n after) answer
answer_picked c t goroutines old takes taken each n after (Err fault) h = runs_picked c t goroutines old after n h
answer_picked c t goroutines old takes taken each n after (Ok blocks) h =
    let only = picked_same n after in
    sched_smaller c t goroutines after (picked n after) h only.goroutines only.channels
    (λ k h. subst (IsIn k) only.runnable h)
answer_picked c t goroutines old takes taken each n after (Ok default) h = runs_picked c t goroutines old after n h
answer_picked c t goroutines old takes taken each n after (Ok (done index it others)) h = (
  runs_picked c t goroutines old after n h.0,
  (
    each index it h.1.0,
    subst (λ r. AreWoken c t goroutines old.current.number r others) (sym (picked_same n after).runnable) h.1.1,
  ),
)

pub selects_fit : (c : Code) (t : Typing) (goroutines : List Goroutine) (state : State) → SchedFits c t goroutines state
    → IsIn state.current.number state.runnable → (waits : WaitsAt c goroutines state.current.number)
    → (cases : List Case) (has_default : Bool)
    → ((n : ℕ) (case : Case) → slice_get cases n ≡ Some case → CaseFits c t waits.function n waits.instr.op case)
    → OutcomeFits c t goroutines state
    (λ n found. (case : Case) × ((slice_get cases n ≡ Some case) × GivesCase c t waits.function n waits.instr.op found case))
    (selects state cases has_default)
selects_fit c t goroutines state fits runs waits cases has_default each =
    among (ready_from 0 state cases) has_default
  where
    act : (i n : ℕ) (found : Option Case) → slice_get cases i ≡ found
        → OutcomeFits c t goroutines state
        (λ n it. (case : Case) × ((slice_get cases n ≡ Some case) × GivesCase c t waits.function n waits.instr.op it case))
        (with_choice n (option_map_or (operations.acts i state) found (operations.waits state)))
    act i n None e =
        let only = picked_same n (stopped state) in
        sched_smaller c t goroutines (stopped state) (picked n (stopped state)) (stopped_fits c t goroutines state fits)
        only.goroutines only.channels (λ k h. subst (IsIn k) only.runnable h)
    act i n (Some (chans.send chan it)) e =
        answer_picked c t goroutines state
        (λ n found. (n ≡ i) × GivesCase c t waits.function i waits.instr.op found (chans.send chan it))
        (λ n it. (case : Case) × ((slice_get cases n ≡ Some case) × GivesCase c t waits.function n waits.instr.op it case))
        (λ n found h. (chans.send chan it, (ap (slice_get cases) h.0 ∙ e, h.1))) n (sends i it state chan).after
        (sends i it state chan).answer
        (sends_fit c t goroutines state fits runs waits i it chan (each i (chans.send chan it) e))
    act i n (Some (chans.receive chan)) e =
        answer_picked c t goroutines state
        (λ n found. (n ≡ i) × GivesCase c t waits.function i waits.instr.op found (chans.receive chan))
        (λ n it. (case : Case) × ((slice_get cases n ≡ Some case) × GivesCase c t waits.function n waits.instr.op it case))
        (λ n found h. (
          chans.receive chan,
          (
            ap (slice_get cases) h.0 ∙ e,
            subst (λ k. GivesCase c t waits.function k waits.instr.op found (chans.receive chan)) (sym h.0) h.1,
          ),
        )) n
        (receives i state chan).after (receives i state chan).answer
        (receives_fit c t goroutines state fits runs waits i chan (each i (chans.receive chan) e))

    none : (has_default : Bool)
        → OutcomeFits c t goroutines state
        (λ n it. (case : Case) × ((slice_get cases n ≡ Some case) × GivesCase c t waits.function n waits.instr.op it case))
        (none_ready state cases has_default)
    none true = record { fits = fits; same = refl; runs = runs }
    none false =
        all_entered_fits c t goroutines state waits state refl cases 0
        (λ n k case same is. let e : k ≡ n = omega (arith, same) in each k case (ap (slice_get cases) e ∙ is))
        (stopped_fits c t goroutines state fits)

    among : (ready : List ℕ) (has_default : Bool)
        → OutcomeFits c t goroutines state
        (λ n it. (case : Case) × ((slice_get cases n ≡ Some case) × GivesCase c t waits.function n waits.instr.op it case))
        (selects_among ready state cases has_default)
    among [] has_default = none has_default
    among (x ∷ xs) has_default =
        let i : ℕ = slice_index (x ∷ xs) (choices.chosen (length (x ∷ xs)) state) in
        act i (length (x ∷ xs)) (slice_get cases i) refl

-- ---- closes

-- one that waited, before it goes on
record Wakes (c : Code) (t : Typing) (goroutines : List Goroutine) (runnable : List ℕ) (it : Woken) : Type 0 where
  waits : WaitsAt c goroutines it.goroutine.number
  fits : HowFits c t waits.function it.index waits.instr.op it.how
  sleeps : IsIn it.goroutine.number runnable → ⊥

abbrev AreOnce : Code → Typing → List Goroutine → List ℕ → List Woken → Type 0
AreOnce c t goroutines runnable [] = Unit {0}
AreOnce c t goroutines runnable (it ∷ others) =
    Wakes c t goroutines runnable it
    × (IsOther it.goroutine.number others × AreOnce c t goroutines runnable others)

other_more : (n : ℕ) (others : List Woken) (it : Woken) → IsOther n others → (it.goroutine.number ≡ n → ⊥)
    → IsOther n (others ++ it ∷ [])
other_more n [] it h apart = (apart, tt)
other_more n (first ∷ others) it h apart = (h.0, other_more n others it h.1 apart)

not_among : (n m : ℕ) (rest : Bool) → (not (not (n == m)) || rest) ≡ false → (n ≡ m → ⊥) × (rest ≡ false)
not_among n m rest e = by (n == m) refl e
  where
    by : (same : Bool) → (n == m) ≡ same → (not (not same) || rest) ≡ false → (n ≡ m → ⊥) × (rest ≡ false)
    by true is e = absurd (true≢false e)
    by false is e = (λ h. true≢false (sym ((unsigned_Decides n m).1 h) ∙ is), e)

once_more : (c : Code) (t : Typing) (goroutines : List Goroutine) (runnable : List ℕ) (it : Woken) (woken : List Woken)
    → Wakes c t goroutines runnable it → AreOnce c t goroutines runnable woken → goes_on it.goroutine woken ≡ false
    → AreOnce c t goroutines runnable (woken ++ it ∷ [])
once_more c t goroutines runnable it [] wakes once e = (wakes, (tt, tt))
once_more c t goroutines runnable it (first ∷ others) wakes once e =
    let apart = not_among first.goroutine.number it.goroutine.number (goes_on it.goroutine others) e in (
      once.0,
      (
        other_more first.goroutine.number others it once.1.0 (λ same. apart.0 (sym same)),
        once_more c t goroutines runnable it others wakes once.1.1 apart.1,
      ),
    )

firsts_once : (c : Code) (t : Typing) (goroutines : List Goroutine) (runnable : List ℕ) (items woken : List Woken)
    → ((n : ℕ) (it : Woken) → slice_get items n ≡ Some it → Wakes c t goroutines runnable it)
    → AreOnce c t goroutines runnable woken → AreOnce c t goroutines runnable (with_firsts items woken)
firsts_once c t goroutines runnable [] woken each once = once
firsts_once c t goroutines runnable (it ∷ items) woken each once =
    firsts_once c t goroutines runnable items (with_first it woken) (λ n. each (suc n)) (by (goes_on it.goroutine woken) refl)
  where
    by : (b : Bool) → goes_on it.goroutine woken ≡ b
        → AreOnce c t goroutines runnable (if b then woken else woken ++ it ∷ [])
    by true e = once
    by false e = once_more c t goroutines runnable it woken (each 0 it refl) once e

-- all go on
record AllGone (c : Code) (t : Typing) (goroutines : List Goroutine) (old after : State) : Type 0 where
  fits : SchedFits c t goroutines after
  same : after.current ≡ old.current
  keeps : (k : ℕ) → IsIn k old.runnable → IsIn k after.runnable

all_gone_fits : (c : Code) (t : Typing) (goroutines : List Goroutine) (runnable : List ℕ) (woken : List Woken) (state : State)
    → AreOnce c t goroutines runnable woken → SchedFits c t goroutines state
    → AllGone c t goroutines state (all_gone_on woken state)
all_gone_fits c t goroutines runnable [] state once fits = record { fits = fits; same = refl; keeps = λ k h. h }
all_gone_fits c t goroutines runnable (it ∷ others) state once fits =
    let rest : AllGone c t goroutines (gone_on it.goroutine state) (all_gone_on others (gone_on it.goroutine state)) =
    all_gone_fits c t goroutines runnable others (gone_on it.goroutine state) once.1.1
    (gone_on_fits c t goroutines it.goroutine state fits
    (get_below goroutines it.goroutine.number once.0.waits.g once.0.waits.there)) in
    record {
      fits = rest.fits;
      same = rest.same;
      keeps = λ k h. rest.keeps k (inserted_keeps it.goroutine.number k state.runnable h);
    }

all_are_woken : (c : Code) (t : Typing) (goroutines : List Goroutine) (current : ℕ) (runnable : List ℕ) → IsIn current runnable
    → (woken : List Woken) (state : State) → AreOnce c t goroutines runnable woken → SchedFits c t goroutines state
    → (after : List ℕ) → ((k : ℕ) → IsIn k (all_gone_on woken state).runnable → IsIn k after)
    → AreWoken c t goroutines current after woken
all_are_woken c t goroutines current runnable runs [] state once fits after within = tt
all_are_woken c t goroutines current runnable runs (it ∷ others) state once fits after within =
    let next : SchedFits c t goroutines (gone_on it.goroutine state) =
    gone_on_fits c t goroutines it.goroutine state fits
    (get_below goroutines it.goroutine.number once.0.waits.g once.0.waits.there) in (
      record {
        waits = once.0.waits;
        fits = once.0.fits;
        other = λ same. once.0.sleeps (subst (λ k. IsIn k runnable) (sym same) runs);
        runs = within it.goroutine.number
            ((all_gone_fits c t goroutines runnable others (gone_on it.goroutine state) once.1.1 next).keeps it.goroutine.number
            (in_inserted it.goroutine.number state.runnable));
      },
      (
        once.1.0,
        all_are_woken c t goroutines current runnable runs others (gone_on it.goroutine state) once.1.1 next after within,
      ),
    )

served_once : (c : Code) (t : Typing) (goroutines : List Goroutine) (runnable : List ℕ) (chan : Chan) (elem : TypeId)
    → ChannelFits c t goroutines runnable chan elem → AreOnce c t goroutines runnable (served_by_close chan)
served_once c t goroutines runnable chan elem fits =
    firsts_once c t goroutines runnable (map closed_sender chan.senders)
    (with_firsts (map closed_receiver chan.receivers) [])
    (λ n it is.
    let found = map_from closed_sender chan.senders n it is in
    let old = fits.senders n found.0 found.1.0 in
    subst (Wakes c t goroutines runnable) found.1.1
    (record { waits = old.waits; fits = old.sends; sleeps = old.sleeps }))
    (firsts_once c t goroutines runnable (map closed_receiver chan.receivers) []
    (λ n it is.
    let found = map_from closed_receiver chan.receivers n it is in
    let old = fits.receivers n found.0 found.1.0 in
    subst (Wakes c t goroutines runnable) found.1.1
    (record { waits = old.waits; fits = (elem, old.receives); sleeps = old.sleeps })) tt)

-- a close needs no instruction at which it may wait
pub closes_fit : (c : Code) (t : Typing) (goroutines : List Goroutine) (state : State) → SchedFits c t goroutines state
    → IsIn state.current.number state.runnable → (chan : Option ChanId)
    → OutcomeFits c t goroutines state (λ n found. Unit {0}) (closes state chan)
closes_fit c t goroutines state fits runs None = record { fits = fits; same = refl; runs = runs }
closes_fit c t goroutines state fits runs (Some id) = by (slice_get state.channels id.number) refl
  where
    down : (chan : Chan) → slice_get state.channels id.number ≡ Some chan
        → OutcomeFits c t goroutines state (λ n found. Unit {0})
        (operations.completes 0 None (served_by_close chan) (all_gone_on (served_by_close chan) (shut id state)))
    down chan e =
        let elem = below_get t.chans id.number
        (subst (λ count. id.number < count) (sym fits.chans) (get_below state.channels id.number chan e)) in
        let once : AreOnce c t goroutines state.runnable (served_by_close chan) =
        served_once c t goroutines state.runnable chan elem.0 (fits.channels id.number chan elem.0 e elem.1) in
        let new : SchedFits c t goroutines (with_chan id (closed_down chan) state) =
        with_chan_fits c t goroutines id chan (closed_down chan) state fits e
        (λ elem there. closed_down_fits c t goroutines state.runnable chan elem
        (fits.channels id.number chan elem e there)) in
        let gone = all_gone_fits c t goroutines state.runnable (served_by_close chan) (with_chan id (closed_down chan) state)
        once new in
        subst (λ shut. OutcomeFits c t goroutines state (λ n found. Unit {0})
        (operations.completes 0 None (served_by_close chan) (all_gone_on (served_by_close chan) shut)))
        (sym (changed_is closed_down id state chan e)) (
          record {
            fits = gone.fits;
            same = gone.same;
            runs = subst (λ (g : GoId). IsIn g.number
                (all_gone_on (served_by_close chan) (with_chan id (closed_down chan) state)).runnable) (sym gone.same)
                (gone.keeps state.current.number runs);
          },
          (
            tt,
            all_are_woken c t goroutines state.current.number state.runnable runs (served_by_close chan)
                (with_chan id (closed_down chan) state) once new
                (all_gone_on (served_by_close chan) (with_chan id (closed_down chan) state)).runnable (λ k h. h),
          ),
        )

    open_or : (chan : Chan) → slice_get state.channels id.number ≡ Some chan → (b : Bool)
        → OutcomeFits c t goroutines state (λ n found. Unit {0})
        (if b then operations.faults fault.CloseOfClosed state
        else operations.completes 0 None (served_by_close chan) (all_gone_on (served_by_close chan) (shut id state)))
    open_or chan e true = record { fits = fits; same = refl; runs = runs }
    open_or chan e false = down chan e

    by : (found : Option Chan) → slice_get state.channels id.number ≡ found
        → OutcomeFits c t goroutines state (λ n found. Unit {0}) (closed_at state id found)
    by None e = record { fits = fits; same = refl; runs = runs }
    by (Some chan) e = open_or chan e chan.closed
