-- Sends, receives, selects and closes.
use Rattle.std.proofs.Common.{if◌then◌else◌, ◌≡◌, ◌⊎◌, inl, inr, ⊎_elim, ◌+◌, ℕ, zero, suc, Bool, true, false, true≢false, not, List, [], ◌∷◌, Option, Some, None, Ok, Err, Result, refl, sym, subst, ap, ◌∙◌, slice_get, slice_set, option_map, arith}
use Rattle.std.proofs.lemmas.Option.{none-some}
use Rattle.std.specs.Option.{option_and_then}
use Rattle.ssa_runnable.specs.Runnable.{runs, runs_op, operands_of_cases}
use Rattle.code_safety.specs.Safety.{IsSafe}
use Rattle.code_safety.proofs.Forms.{chan_in}
use Rattle.code_safety.proofs.Going.{site_reads, site_throws, no_type, behind_fit}
use Rattle.code_safety.proofs.Growing.{grows_self}
use Rattle.code_safety.proofs.Jumping.{no_register}
use Rattle.code_safety.proofs.Lists.{some_same, get_set}
use Rattle.code_safety.proofs.Machines.{OpenFits, SchedFits, GoroutineFits, LaterFitsWhere, WaitsAt, MaySend, MayReceive, ReceivesFrom, Safe}
use Rattle.code_safety.proofs.Machines.{MayThrow, GoOn, GivesOf, IsBegun, IsFresh, TopStands, fresh, begun, AreFrames}
use Rattle.code_safety.proofs.Members.{both, same_or_other}
use Rattle.code_safety.proofs.Opening.{rest_of, open_with, waits_with}
use Rattle.code_safety.proofs.Operands.{shape_value, operand_value}
use Rattle.code_safety.proofs.Outcomes.{AreWoken, RunsOn, AnswerFits, CaseFits, GivesCase, sends_fit, receives_fit, selects_fit, closes_fit}
use Rattle.code_safety.proofs.Shapes.{alike_self}
use Rattle.code_safety.proofs.Sites.{SiteFits, Reads, Among, HasValue}
use Rattle.code_safety.proofs.Terms.{never, there}
use Rattle.code_safety.proofs.Throwing.{there_safe, switches_safe, meets_safe}
use Rattle.code_safety.proofs.Places.{id_is}
use Rattle.code_safety.proofs.Values.{Typing, ChanFits}
use Rattle.code_safety.proofs.Waking.{ReceivedFits, SelectedFits, received_term, sent_term, element_is, Plain, send_plain, receive_plain, receive_gets, select_gets, all_woken_fit}
use Rattle.go_base.specs.declared.ids.ChanId.{ChanId}
use Rattle.go_base.specs.declared.ids.GoId.{GoId}
use Rattle.go_base.specs.declared.ids.TypeId.{TypeId}
use Rattle.go_sched.specs.Channels as chans
use Rattle.go_sched.specs.Channels.{Case, Chan, Sending, has_room}
use Rattle.go_sched.specs.Goroutines.{State}
use Rattle.go_sched.specs.Operations as operations
use Rattle.go_sched.specs.Operations.{Woken, Answer, done, default, blocks, sends, receives, closes, selects}
use Rattle.go_sched.specs.declared.channels.Receiver.{Receiver}
use Rattle.go_sched.specs.declared.scheduling.Point.TheVariants as point
use Rattle.go_type.specs.Same.{same_id}
use Rattle.go_type.specs.Table.{term_at, basic_id}
use Rattle.go_type.specs.declared.term.Basic.TheVariants as basic
use Rattle.go_type.specs.declared.term.Dir.{Dir}
use Rattle.go_type.specs.declared.term.TypeTerm.TheVariants as term
use Rattle.go_value.specs.Values.{Val, chan_number}
use Rattle.go_value.specs.declared.faults.Fault.{Fault}
use Rattle.go_value.specs.declared.faults.Fault.TheVariants as fault
use Rattle.ssa_ir.specs.declared.code.Code.{Code}
use Rattle.ssa_ir.specs.declared.code.Function.{Function}
use Rattle.ssa_ir.specs.declared.operands.Operand.{Operand}
use Rattle.ssa_ir.specs.declared.ops.Instr.{Instr}
use Rattle.ssa_ir.specs.declared.ops.Op.{Op}
use Rattle.ssa_ir.specs.declared.ops.Op.TheVariants as op
use Rattle.ssa_ir.specs.declared.ops.SelectCase.{SelectCase}
use Rattle.ssa_ir.specs.declared.ops.SelectCase.TheVariants as case
use Rattle.ssa_mean.specs.Channels.{received, selected, all_woken, with_sched, completed, came_to, cases_of, with_case}
use Rattle.ssa_mean.specs.Channels.{chan_in as meant_channel}
use Rattle.ssa_mean.specs.State.{Frame, Goroutine, Machine, with_current, with_result, advanced, where_there}
use Rattle.ssa_mean.specs.Step.{Site, value, behind_with, send_on, receive_from, select_among, acts, close_of}
use Rattle.ssa_mean.specs.Unwinding.{switches, meets}
use Rattle.ssa_sane.specs.Sane.{is_new}
use Rattle.ssa_typed.specs.Forms.{FitsGiving, FitsOp, fits_giving, fits_alone, gives, gives_received, selects as selects_typed, takes_cases}
use Rattle.ssa_typed.specs.Operands.{shape, is_where}
use Rattle.type_shapes.specs.Shapes.{received_elem, sent_elem, is_id, parts_of}

-- ---- what an operation comes to

-- the machine with the channels after an operation
open_sched : (c : Code) (t : Typing) (m : Machine) (after : State) → OpenFits c t m → RunsOn c t m.goroutines m.sched after
    → OpenFits c t (with_sched after m)
open_sched c t m after fits on =
    record {
      others = λ n g is other. fits.others n g is (λ e. other (e ∙ sym (ap (λ (id : GoId). id.number) on.same)));
      variables = fits.variables;
      store = fits.store;
      sched = on.fits;
      current = on.runs;
      starts = fits.starts;
    }

current_there : (c : Code) (t : Typing) (m : Machine) (after : State) (g : Goroutine) → RunsOn c t m.goroutines m.sched after
    → slice_get m.goroutines m.sched.current.number ≡ Some g → slice_get m.goroutines after.current.number ≡ Some g
current_there c t m after g on there = ap (λ (id : GoId). slice_get m.goroutines id.number) on.same ∙ there

-- those that go on, where the current goroutine has changed
woken_with : (c : Code) (t : Typing) (goroutines : List Goroutine) (n : ℕ) (runnable : List ℕ) (new : Goroutine) (others : List Woken)
    → AreWoken c t goroutines n runnable others → AreWoken c t (slice_set goroutines n new) n runnable others
woken_with c t goroutines n runnable new [] are = tt
woken_with c t goroutines n runnable new (it ∷ others) are = (
  record {
    waits = waits_with c goroutines n it.goroutine.number new are.0.other are.0.waits;
    fits = are.0.fits;
    other = are.0.other;
    runs = are.0.runs;
  },
  (are.1.0, woken_with c t goroutines n runnable new others are.1.1),
)

-- an operation is done, and the current goroutine goes on
done_safe : (c : Code) → IsSafe c → (t : Typing) (m : Machine) (after : State) (g new : Goroutine) → OpenFits c t m
    → RunsOn c t m.goroutines m.sched after → slice_get m.goroutines m.sched.current.number ≡ Some g → GoroutineFits c t new
    → new.fault ≡ None → (others : List Woken) → AreWoken c t m.goroutines m.sched.current.number after.runnable others
    → Safe c (completed c others (with_current new (with_sched after m)))
done_safe c safe t m after g new fits on there is calm others are =
    let n = after.current.number in
    let here = current_there c t m after g on there in
    let opened = open_with c t (with_sched after m) new (open_sched c t m after fits on) in
    let next = all_woken_fit c safe t (with_current new (with_sched after m)) others opened
    (woken_with c t m.goroutines n after.runnable new others
    (subst (λ (id : GoId). AreWoken c t m.goroutines id.number after.runnable others) (sym on.same) are)) in
    let same = next.1.1.1.1 in
    let found : slice_get next.0.goroutines next.0.sched.current.number ≡ Some new =
    ap (λ (state : State). slice_get next.0.goroutines state.current.number) same ∙ next.1.1.1.0
    ∙ get_set m.goroutines n new g here in
    there_safe c (switches c point.After) (all_woken c others (with_current new (with_sched after m))) next.0 next.1.0
    (switches_safe c safe t next.0
    (rest_of c t next.0 (record { opened = next.1.1.0; g = new; there = found; fits = is; calm = calm })) point.After)

-- the current goroutine waits
blocks_safe : (c : Code) → IsSafe c → (t : Typing) (m : Machine) (after : State) (g : Goroutine) → OpenFits c t m
    → SchedFits c t m.goroutines after → slice_get m.goroutines m.sched.current.number ≡ Some g → GoroutineFits c t g
    → Safe c (switches c point.Blocked (with_sched after m))
blocks_safe c safe t m after g fits sched there is =
    switches_safe c safe t (with_sched after m)
    (record {
      goroutines = λ n it found.
          ⊎_elim (λ same. subst (GoroutineFits c t) (some_same g it (sym there ∙ ap (slice_get m.goroutines) (sym same) ∙ found)) is)
          (λ other. fits.others n it found other) (same_or_other n m.sched.current.number);
      variables = fits.variables;
      store = fits.store;
      sched = sched;
      starts = fits.starts;
    }) point.Blocked

-- an operation faults
fails_safe : (c : Code) → IsSafe c → (t : Typing) (m : Machine) (after : State) (g : Goroutine) → OpenFits c t m
    → RunsOn c t m.goroutines m.sched after → slice_get m.goroutines m.sched.current.number ≡ Some g → LaterFitsWhere c t g.begin
    → g.fault ≡ None → MayThrow c t g.frames → (it : Fault) → Safe c (meets c (with_sched after m) it)
fails_safe c safe t m after g fits on there begin calm may it =
    meets_safe c safe t (with_sched after m) g (open_sched c t m after fits on) (current_there c t m after g on there) begin calm may it

-- sends, receives and closes have no default, and closes do not wait
abbrev pub NoDefault : Result Answer Fault → Type 0
NoDefault (Ok default) = ⊥
NoDefault _ = Unit {0}

sends_plain : (index : ℕ) (it : Val) (state : State) (chan : Option ChanId) → NoDefault (sends index it state chan).answer
sends_plain index it state None = tt
sends_plain index it state (Some id) = on (slice_get state.channels id.number)
  where
    given : (receivers : List Receiver) (room : Bool) → NoDefault (operations.given index it state id receivers room).answer
    given (first ∷ others) room = tt
    given [] true = tt
    given [] false = tt

    opened : (chan : Chan) (closed : Bool)
        → NoDefault (if closed then operations.faults fault.SendOnClosed state
        else operations.given index it state id chan.receivers (has_room chan)).answer
    opened chan true = tt
    opened chan false = given chan.receivers (has_room chan)

    on : (found : Option Chan) → NoDefault (operations.sent_on index it state id found).answer
    on None = tt
    on (Some chan) = opened chan chan.closed

receives_plain : (index : ℕ) (state : State) (chan : Option ChanId) → NoDefault (receives index state chan).answer
receives_plain index state None = tt
receives_plain index state (Some id) = on (slice_get state.channels id.number)
  where
    taken : (senders : List Sending) (queue : List Val) (closed : Bool)
        → NoDefault (operations.taken index state id senders queue closed).answer
    taken (first ∷ others) queue closed = tt
    taken [] (first ∷ others) closed = tt
    taken [] [] true = tt
    taken [] [] false = tt

    on : (found : Option Chan) → NoDefault (operations.received_from index state id found).answer
    on None = tt
    on (Some chan) = taken chan.senders chan.queue chan.closed

abbrev pub IsDone : Result Answer Fault → Type 0
IsDone (Ok default) = ⊥
IsDone (Ok blocks) = ⊥
IsDone _ = Unit {0}

closes_done : (state : State) (chan : Option ChanId) → IsDone (closes state chan).answer
closes_done state None = tt
closes_done state (Some id) = on (slice_get state.channels id.number)
  where
    opened : (chan : Chan) (closed : Bool)
        → IsDone (if closed then operations.faults fault.CloseOfClosed state
        else operations.completes 0 None (operations.served_by_close chan)
        (operations.all_gone_on (operations.served_by_close chan) (operations.shut id state))).answer
    opened chan true = tt
    opened chan false = tt

    on : (found : Option Chan) → IsDone (operations.closed_at state id found).answer
    on None = tt
    on (Some chan) = opened chan chan.closed

-- ---- the instructions

-- the goroutine of a site, as it stands
site_frames : (t : Typing) (s : Site) (instr : Instr) → SiteFits t s instr → GoroutineFits s.code t s.goroutine
site_frames t s instr site =
    record {
      frames =
          subst (λ (f : Option Fault). GoOn s.code t f s.goroutine.frames) (sym site.calm)
          (subst (λ (frames : List Frame). AreFrames s.code t frames) (sym site.frames)
          (record { function = s.function; fits = site.fits; stands = stands site.started; takes = site.takes }, site.lower));
      begin = site.begin;
    }
  where
    stands : IsBegun s.function s.frame ⊎ IsFresh s.function s.frame → TopStands s.function s.frame
    stands (inl old) = begun site.stands old
    stands (inr new) = fresh site.stands new

site_waits : (t : Typing) (s : Site) (instr : Instr) → SiteFits t s instr → WaitsAt s.code s.machine.goroutines s.machine.sched.current.number
site_waits t s instr site =
    record {
      g = s.goroutine;
      there = site.there;
      top = s.frame;
      below = s.below;
      frames = site.frames;
      calm = site.calm;
      runs = site.is_running;
      function = s.function;
      is_function = site.fits.there;
      instr = instr;
      at = site.at;
    }

-- the goroutine behind its instruction
gone_fits : (t : Typing) (s : Site) (instr : Instr) (site : SiteFits t s instr) → Plain instr → (it : Option Val)
    → GivesOf s.code t it site.of
    → GoroutineFits s.code t (record (s.goroutine) { frames = advanced (with_result instr.register it s.frame) ∷ s.below })
gone_fits t s instr site plain it gives =
    record {
      frames =
          subst (λ (f : Option Fault). GoOn s.code t f (advanced (with_result instr.register it s.frame) ∷ s.below)) (sym site.calm)
          (behind_fit t t s instr site (grows_self t) plain.goes_on it gives);
      begin = site.begin;
    }

may_throw : (t : Typing) (s : Site) (instr : Instr) → SiteFits t s instr → is_new instr ≡ false → MayThrow s.code t s.goroutine.frames
may_throw t s instr site other = subst (MayThrow s.code t) (sym site.frames) (site_throws t s instr site other)

-- what the site comes to, where it goes on behind its instruction
record Gone (t : Typing) (s : Site) (instr : Instr) (site : SiteFits t s instr) (after : State) (found : Option Machine) : Type 0 where
  it : Option Val
  is : found ≡ Some (behind_with s instr.register after it)
  gives : GivesOf s.code t it site.of

gone_with : (t : Typing) (s : Site) (instr : Instr) (site : SiteFits t s instr) (after : State) (found : Option Val) (v : Val)
    → found ≡ Some v → GivesOf s.code t (Some v) site.of
    → Gone t s instr site after (option_map (λ given. behind_with s instr.register after (Some given)) found)
gone_with t s instr site after found v is gives =
    record { it = Some v; is = ap (option_map (λ given. behind_with s instr.register after (Some given))) is; gives = gives }

gone_safe : (t : Typing) (s : Site) (instr : Instr) (site : SiteFits t s instr) → Plain instr → (after : State)
    → RunsOn s.code t s.machine.goroutines s.machine.sched after → (others : List Woken)
    → AreWoken s.code t s.machine.goroutines s.machine.sched.current.number after.runnable others → (found : Option Machine)
    → Gone t s instr site after found → Safe s.code (where_there (completed s.code others) found)
gone_safe t s instr site plain after on others are found gone =
    there_safe s.code (completed s.code others) found (behind_with s instr.register after gone.it) gone.is
    (done_safe s.code site.safe t s.machine after s.goroutine
    (record (s.goroutine) { frames = advanced (with_result instr.register gone.it s.frame) ∷ s.below }) site.machine on site.there
    (gone_fits t s instr site plain gone.it gone.gives) site.calm others are)

operation_safe : (t : Typing) (s : Site) (instr : Instr) (site : SiteFits t s instr) → Plain instr → (after : State)
    → (takes : ℕ → Option Val → Type 0) (next : ℕ → Option Val → Option Machine) (otherwise : Option Machine)
    → ((index : ℕ) (found : Option Val) → takes index found → Gone t s instr site after (next index found))
    → (answer : Result Answer Fault) → NoDefault answer ⊎ Gone t s instr site after otherwise
    → AnswerFits s.code t s.machine.goroutines s.machine.sched takes after answer
    → Safe s.code (came_to s.code (with_sched after s.machine) next otherwise answer)
operation_safe t s instr site plain after takes next otherwise gone (Err it) or_else fits =
    fails_safe s.code site.safe t s.machine after s.goroutine site.machine fits site.there site.begin site.calm
    (may_throw t s instr site plain.other) it
operation_safe t s instr site plain after takes next otherwise gone (Ok blocks) or_else fits =
    blocks_safe s.code site.safe t s.machine after s.goroutine site.machine fits site.there (site_frames t s instr site)
operation_safe t s instr site plain after takes next otherwise gone (Ok default) (inl never_default) fits = absurd never_default
operation_safe t s instr site plain after takes next otherwise gone (Ok default) (inr it) fits =
    gone_safe t s instr site plain after fits [] tt otherwise it
operation_safe t s instr site plain after takes next otherwise gone (Ok (done index found others)) or_else fits =
    gone_safe t s instr site plain after fits.0 others fits.1.1 (next index found) (gone index found fits.1.0)

-- the channel that an operand is
channel_value : (t : Typing) (s : Site) (it : Operand) → HasValue t s it → (way : Dir) (elem : TypeId)
    → shape s.code s.function it ≡ Some (term.Chan way elem)
    → (id : Option ChanId) × ((value s it ≡ Some (chan_number id)) × ChanFits s.code t id elem)
channel_value t s it has way elem is =
    let v = shape_value t s it has (term.Chan way elem) is in
    let id = chan_in s.code t v.0 way elem v.1.1 in
    (id.0, (v.1.0 ∙ ap Some id.1.0, id.1.1))

-- ---- sends

send_gives_none : (c : Code) (f : Function) (channel it : Operand) (of : TypeId) → FitsGiving c f (op.Send channel it) of → ⊥
unfolding FitsGiving fits_giving
send_gives_none c f channel it of h = true≢false (sym h)

send_typed : (c : Code) (f : Function) (channel it : Operand) → FitsOp c f (op.Send channel it) None
    → is_where c f it (sent_elem (shape c f channel)) ≡ true
unfolding fits_alone
send_typed c f channel it h = h

pub send_safe : (t : Typing) (s : Site) (instr : Instr) → SiteFits t s instr → (channel it : Operand)
    → instr.op ≡ op.Send channel it → Safe s.code (acts s instr.register (op.Send channel it))
unfolding acts site_waits
send_safe t s instr site channel it is =
    let c = s.code in
    let f = s.function in
    let typed = subst (λ o. FitsOp c f o site.of) is site.typed in
    let empty = no_register s (op.Send channel it) (send_gives_none c f channel it) instr.register site.of site.register typed in
    by (sent_elem (shape c f channel)) refl empty
    (send_typed c f channel it (subst (λ of. FitsOp c f (op.Send channel it) of) (no_type t s instr site empty) typed))
  where
    by : (elem : Option TypeId) → sent_elem (shape s.code s.function channel) ≡ elem → instr.register ≡ None
        → is_where s.code s.function it elem ≡ true
        → Safe s.code (where_there (λ channel. where_there (send_on s channel) (value s it)) (value s channel))
    by None e empty h = never h
    by (Some elem) e empty h =
        let c = s.code in
        let m = s.machine in
        let reads = subst (λ o. Reads t s o) is (site_reads t s instr site) in
        let way = sent_term (shape c s.function channel) elem e in
        let id = channel_value t s channel (reads.values channel (inl refl)) way.0 elem way.1 in
        let w = operand_value t s site.safe.held it (reads.values it (inr (inl refl))) elem h in
        let after = (sends 0 w.0 m.sched id.0).after in
        there_safe c (λ channel. where_there (send_on s channel) (value s it)) (value s channel) (chan_number id.0) id.1.0
        (there_safe c (send_on s (chan_number id.0)) (value s it) w.0 w.1.0
        (operation_safe t s instr site (send_plain instr (op.Send channel it) is tt) after
        (λ n found. (n ≡ 0) × GivesCase c t s.function 0 instr.op found (chans.send id.0 w.0))
        (λ index it. Some (behind_with s None after None)) None
        (λ index found took. record {
          it = None;
          is = ap (λ register. Some (behind_with s register after None)) (sym empty);
          gives = subst (GivesOf c t None) (sym (no_type t s instr site empty)) tt;
        })
        (sends 0 w.0 m.sched id.0).answer (inl (sends_plain 0 w.0 m.sched id.0))
        (sends_fit c t m.goroutines m.sched site.machine.sched site.machine.current (site_waits t s instr site) 0 w.0 id.0
        (elem, (id.1.1, (w.1.1, subst MaySend (sym is) tt))))))

-- ---- receives

receive_typed : (c : Code) (f : Function) (channel : Operand) (comma_ok : Bool) (of : Option TypeId)
    → FitsOp c f (op.Receive channel comma_ok) of → (elem : TypeId) × (received_elem (shape c f channel) ≡ Some elem)
unfolding FitsGiving fits_giving fits_alone
receive_typed c f channel comma_ok None typed = never typed
receive_typed c f channel comma_ok (Some of) typed = by (received_elem (shape c f channel)) refl typed
  where
    by : (found : Option TypeId) → received_elem (shape c f channel) ≡ found → gives_received c.types of comma_ok found ≡ true
        → (elem : TypeId) × (received_elem (shape c f channel) ≡ Some elem)
    by None e h = never h
    by (Some elem) e h = (elem, e)

-- what is received is of the elements of the channel
case_received : (c : Code) (t : Typing) (f : Function) (channel : Operand) (comma_ok : Bool) (id : Option ChanId) (found : Option Val)
    → GivesCase c t f 0 (op.Receive channel comma_ok) found (chans.receive id) → ReceivedFits c t f channel found
case_received c t f channel comma_ok id None took = tt
case_received c t f channel comma_ok id (Some v) took = took

pub receive_safe : (t : Typing) (s : Site) (instr : Instr) → SiteFits t s instr → (channel : Operand) (comma_ok : Bool)
    → instr.op ≡ op.Receive channel comma_ok → Safe s.code (acts s instr.register (op.Receive channel comma_ok))
unfolding acts site_waits
receive_safe t s instr site channel comma_ok is =
    let c = s.code in
    let f = s.function in
    let m = s.machine in
    let o = op.Receive channel comma_ok in
    let typed = subst (λ o. FitsOp c f o site.of) is site.typed in
    let runnable = (both (runs_op c f o) _ (subst (λ o. runs c f o ≡ true) is site.runnable)).0 in
    let elem = receive_typed c f channel comma_ok site.of typed in
    let reads = subst (λ o. Reads t s o) is (site_reads t s instr site) in
    let way = received_term (shape c f channel) elem.0 elem.1 in
    let id = channel_value t s channel (reads.values channel (inl refl)) way.0 elem.0 way.1 in
    let from : ReceivesFrom c f channel elem.0 =
    record { of = elem.0; is = element_is c f channel elem.0 elem.1; alike = alike_self c.types elem.0 } in
    let after = (receives 0 m.sched id.0).after in
    there_safe c (receive_from s instr.register channel comma_ok) (value s channel) (chan_number id.0) id.1.0
    (operation_safe t s instr site (receive_plain c f 0 elem.0 instr o is from) after
    (λ n found. (n ≡ 0) × GivesCase c t f 0 instr.op found (chans.receive id.0))
    (λ index it. option_map (λ given. behind_with s instr.register after (Some given)) (received c f channel comma_ok it)) None
    (λ index found took.
    let got = receive_gets c site.safe t f channel comma_ok site.of typed runnable found
    (case_received c t f channel comma_ok id.0 found (subst (λ o. GivesCase c t f 0 o found (chans.receive id.0)) is took.1)) in
    gone_with t s instr site after (received c f channel comma_ok found) got.0 got.1.0 got.1.1)
    (receives 0 m.sched id.0).answer (inl (receives_plain 0 m.sched id.0))
    (receives_fit c t m.goroutines m.sched site.machine.sched site.machine.current (site_waits t s instr site) 0 id.0
    (elem.0, (id.1.1, subst (λ o. MayReceive c f 0 elem.0 o) (sym is) from))))

-- ---- selects

record CasesFit (t : Typing) (s : Site) (blocking : Bool) (all cases : List SelectCase) (n : ℕ) : Type 0 where
  asked : List Case
  is : cases_of s.code s.frame cases ≡ Some asked
  fits : (k : ℕ) (it : Case) → slice_get asked k ≡ Some it → CaseFits s.code t s.function (n + k) (op.Select blocking all) it

case_each : (c : Code) (t : Typing) (f : Function) (o : Op) (n : ℕ) (first : Case) (others : List Case) → CaseFits c t f n o first
    → ((k : ℕ) (it : Case) → slice_get others k ≡ Some it → CaseFits c t f (suc n + k) o it) → (k : ℕ) (it : Case)
    → slice_get (first ∷ others) k ≡ Some it → CaseFits c t f (n + k) o it
case_each c t f o n first others now later zero it is =
    subst (λ m. CaseFits c t f m o it) (omega arith) (subst (λ it. CaseFits c t f n o it) (some_same first it is) now)
case_each c t f o n first others now later (suc k) it is = subst (λ m. CaseFits c t f m o it) (omega arith) (later k it is)

cases_fit : (t : Typing) (s : Site) → IsSafe s.code → (blocking : Bool) (all cases : List SelectCase) (n : ℕ) (ids : List TypeId)
    → takes_cases s.code s.function cases ids ≡ true → ((it : Operand) → Among it (operands_of_cases cases) → HasValue t s it)
    → ((k : ℕ) → slice_get all (n + k) ≡ slice_get cases k) → CasesFit t s blocking all cases n
cases_fit t s safe blocking all [] n ids typed has same =
    record { asked = []; is = refl; fits = λ k it is. absurd (none-some it is) }
cases_fit t s safe blocking all (case.Send channel item ∷ cases) n ids typed has same =
    let k = both (is_where s.code s.function item (sent_elem (shape s.code s.function channel))) (takes_cases s.code s.function cases ids) typed in
    by (sent_elem (shape s.code s.function channel)) refl k.0
    (cases_fit t s safe blocking all cases (suc n) ids k.1 (λ it among. has it (inr (inr among)))
    (λ k. subst (λ m. slice_get all m ≡ slice_get cases k) (omega arith) (same (suc k))))
  where
    by : (elem : Option TypeId) → sent_elem (shape s.code s.function channel) ≡ elem → is_where s.code s.function item elem ≡ true
        → CasesFit t s blocking all cases (suc n) → CasesFit t s blocking all (case.Send channel item ∷ cases) n
    by None e h rest = never h
    by (Some elem) e h rest =
        let c = s.code in
        let way = sent_term (shape c s.function channel) elem e in
        let id = channel_value t s channel (has channel (inl refl)) way.0 elem way.1 in
        let w = operand_value t s safe.held item (has item (inr (inl refl))) elem h in
        record {
          asked = chans.send id.0 w.0 ∷ rest.asked;
          is =
              ap (λ first. with_case first (cases_of c s.frame cases))
              (ap (λ found. option_and_then (λ id. option_map (chans.send id) (value s item)) (option_and_then meant_channel found))
              id.1.0 ∙ ap (option_map (chans.send id.0)) w.1.0)
              ∙ ap (with_case (Some (chans.send id.0 w.0))) rest.is;
          fits = case_each c t s.function (op.Select blocking all) n (chans.send id.0 w.0) rest.asked (elem, (id.1.1, (w.1.1, tt))) rest.fits;
        }
cases_fit t s safe blocking all (case.Receive channel ∷ cases) n [] typed has same = never typed
cases_fit t s safe blocking all (case.Receive channel ∷ cases) n (of ∷ ids) typed has same =
    let c = s.code in
    let k = both (is_id (received_elem (shape c s.function channel)) of) (takes_cases c s.function cases ids) typed in
    let elem = id_is (received_elem (shape c s.function channel)) of k.0 in
    let rest = cases_fit t s safe blocking all cases (suc n) ids k.1 (λ it among. has it (inr among))
    (λ k. subst (λ m. slice_get all m ≡ slice_get cases k) (omega arith) (same (suc k))) in
    let way = received_term (shape c s.function channel) of elem in
    let id = channel_value t s channel (has channel (inl refl)) way.0 of way.1 in
    let here : slice_get all n ≡ Some (case.Receive channel) = subst (λ m. slice_get all m ≡ Some (case.Receive channel)) (omega arith) (same 0) in
    record {
      asked = chans.receive id.0 ∷ rest.asked;
      is =
          ap (λ first. with_case first (cases_of c s.frame cases))
          (ap (λ found. option_map chans.receive (option_and_then meant_channel found)) id.1.0)
          ∙ ap (with_case (Some (chans.receive id.0))) rest.is;
      fits =
          case_each c t s.function (op.Select blocking all) n (chans.receive id.0) rest.asked (
            of,
            (
              id.1.1,
              (
                channel,
                (
                  here,
                  record { of = of; is = element_is c s.function channel of elem; alike = alike_self c.types of },
                ),
              ),
            ),
          ) rest.fits;
    }

select_typed : (c : Code) (f : Function) (blocking : Bool) (cases : List SelectCase) (of : Option TypeId)
    → FitsOp c f (op.Select blocking cases) of → (ids : List TypeId) × (takes_cases c f cases ids ≡ true)
unfolding FitsGiving fits_giving fits_alone
select_typed c f blocking cases None typed = never typed
select_typed c f blocking cases (Some of) typed = by (parts_of (term_at c.types of)) typed
  where
    by : (found : Option (List TypeId)) → selects_typed c f cases found ≡ true → (ids : List TypeId) × (takes_cases c f cases ids ≡ true)
    by (Some (index ∷ ok ∷ rest)) h =
        let k = both (same_id index (basic_id basic.Int)) _ h in
        let l = both (same_id ok (basic_id basic.Bool)) _ k.1 in
        (rest, (both _ (takes_cases c f cases rest) l.1).1)
    by _ h = never h

-- what the chosen case got
case_selected : (c : Code) (t : Typing) (f : Function) (blocking : Bool) (cases : List SelectCase) (n : ℕ) (found : Option Val) (it : Case)
    → GivesCase c t f n (op.Select blocking cases) found it → SelectedFits c t f cases (Some n) found
case_selected c t f blocking cases n None it took = tt
case_selected c t f blocking cases n (Some v) (chans.send id w) took = absurd (none-some v (sym took))
case_selected c t f blocking cases n (Some v) (chans.receive id) took =
    (took.1.0.0, (took.1.0.1.0, (took.0, (took.1.0.1.1, took.1.1))))

pub select_safe : (t : Typing) (s : Site) (instr : Instr) → SiteFits t s instr → (blocking : Bool) (cases : List SelectCase)
    → instr.op ≡ op.Select blocking cases → Safe s.code (acts s instr.register (op.Select blocking cases))
unfolding acts site_waits
select_safe t s instr site blocking cases is =
    let c = s.code in
    let f = s.function in
    let m = s.machine in
    let o = op.Select blocking cases in
    let typed = subst (λ o. FitsOp c f o site.of) is site.typed in
    let runnable = (both (runs_op c f o) _ (subst (λ o. runs c f o ≡ true) is site.runnable)).0 in
    let ids = select_typed c f blocking cases site.of typed in
    let reads = subst (λ o. Reads t s o) is (site_reads t s instr site) in
    let asked = cases_fit t s site.safe blocking cases cases 0 ids.0 ids.1 reads.values
    (λ k. ap (slice_get cases) (omega arith)) in
    let outcome = selects m.sched asked.asked (not blocking) in
    let after = outcome.after in
    let next : ℕ → Option Val → Option Machine =
    λ index it. option_map (λ given. behind_with s instr.register after (Some given)) (selected c f cases (Some index) it) in
    let otherwise = option_map (λ given. behind_with s instr.register after (Some given)) (selected c f cases None None) in
    let other = select_gets c site.safe t f blocking cases site.of typed runnable None None tt in
    there_safe c (λ asked. select_among s instr.register blocking cases (selects m.sched asked (not blocking))) (cases_of c s.frame cases)
    asked.asked asked.is
    (operation_safe t s instr site (send_plain instr o is tt) after
    (λ n found. (it : Case) × ((slice_get asked.asked n ≡ Some it) × GivesCase c t f n instr.op found it)) next otherwise
    (λ index found took.
    let got = select_gets c site.safe t f blocking cases site.of typed runnable (Some index) found
    (case_selected c t f blocking cases index found took.0 (subst (λ o. GivesCase c t f index o found took.0) is took.1.1)) in
    gone_with t s instr site after (selected c f cases (Some index) found) got.0 got.1.0 got.1.1)
    outcome.answer
    (inr (gone_with t s instr site after (selected c f cases None None) other.0 other.1.0 other.1.1))
    (selects_fit c t m.goroutines m.sched site.machine.sched site.machine.current (site_waits t s instr site) asked.asked (not blocking)
    (λ n it found.
    subst (λ o. CaseFits c t f n o it) (sym is)
    (subst (λ k. CaseFits c t f k o it) (omega arith) (asked.fits n it found)))))

-- ---- closes

-- a close, where the goroutine may throw as it is, and goes on as another machine of the same rest
pub close_safe : (c : Code) → IsSafe c → (t : Typing) (m : Machine) (g new : Goroutine) (id : Option ChanId) → OpenFits c t m
    → slice_get m.goroutines m.sched.current.number ≡ Some g → LaterFitsWhere c t g.begin → g.fault ≡ None
    → MayThrow c t g.frames → GoroutineFits c t new → new.fault ≡ None
    → Safe c (close_of c m (with_current new m) (chan_number id ∷ []))
close_safe c safe t m g new id fits there begin calm may is quiet =
    by (closes m.sched id).answer (closes_done m.sched id) (closes_fit c t m.goroutines m.sched fits.sched fits.current id)
  where
    by : (answer : Result Answer Fault) → IsDone answer
        → AnswerFits c t m.goroutines m.sched (λ n found. Unit {0}) (closes m.sched id).after answer
        → Safe c (came_to c m (λ index it. Some (with_sched (closes m.sched id).after (with_current new m))) None answer)
    by (Err it) ended fit = meets_safe c safe t m g fits there begin calm may it
    by (Ok blocks) ended fit = absurd ended
    by (Ok default) ended fit = absurd ended
    by (Ok (done index found others)) ended fit =
        subst (λ (next : Machine). Safe c (completed c others next))
        (ap (λ (which : GoId). record m { goroutines = slice_set m.goroutines which.number new; sched = (closes m.sched id).after }) fit.0.same)
        (done_safe c safe t m (closes m.sched id).after g new fits fit.0 there is quiet others fit.1.1)
