-- Panics, faults, ticks and switch points.
use Rattle.std.proofs.Common.{◌≡◌, inl, inr, ⊎_elim, ◌<◌, ◌-◌, ◌&&◌, ◌==◌, arith, ℕ, zero, suc, Bool, true, false, not, cond, if◌then◌else◌, nat_le, nat_lt, List, [], ◌∷◌, ◌++◌, length, filter, Option, Some, None, is_some, refl, sym, subst, ap, ◌∙◌, slice_get, slice_index, true≢false, mod-lt}
use Rattle.std.proofs.lemmas.Option.{none-some}
use Rattle.std.specs.Option.{option_map_or}
use Rattle.ssa_runnable.specs.Runnable.{by_fault}
use Rattle.code_safety.specs.Safety.{IsSafe}
use Rattle.code_safety.proofs.Available.{recovery_stands, state_stands}
use Rattle.code_safety.proofs.Forms.{IsInterfaceValue, is_nil, is_dynamic as is_dynamic_of, interface_in}
use Rattle.code_safety.proofs.Lists.{below_get, get_set}
pub use Rattle.code_safety.proofs.Machines.{MayPanic, MayThrow}
use Rattle.code_safety.proofs.Machines.{OpenFits, GoroutineFits, SchedFits, IsIn, FrameFits, Stands, IsBegun, Recovers, StateFits, AreBelow, AreFrames, TopStands, fresh, begun, lost, IsTop, GoOn, LaterFitsWhere, ThrownFits, IsThrown, Safe, is_panicking}
use Rattle.code_safety.proofs.Members.{in_split}
use Rattle.code_safety.proofs.Opening.{RestFits, open_with, frames_closed}
use Rattle.code_safety.proofs.Values.{Typing, TextFits}
use Rattle.go_base.specs.declared.ending.Ending.TheVariants as ending
use Rattle.go_base.specs.declared.ids.BlockId.{BlockId}
use Rattle.go_base.specs.declared.ids.TypeId.{TypeId}
use Rattle.go_sched.specs.Channels.{Chan}
use Rattle.go_sched.specs.Choices as choices
use Rattle.go_sched.specs.Choices.{next_of, noted, used_up, picked, candidates, at_point, goes_to, next_among, switched_among, next_at, switched}
use Rattle.go_sched.specs.Goroutines.{State}
use Rattle.go_sched.specs.declared.scheduling.Point.{Point}
use Rattle.go_sched.specs.declared.scheduling.Point.TheVariants as point
use Rattle.go_value.specs.Values.{Val, text, nil_interface, dynamic}
use Rattle.go_value.specs.declared.faults.Fault.{Fault}
use Rattle.go_value.specs.declared.faults.Fault.TheVariants as fault
use Rattle.ssa_ir.specs.Blocks.{instrs_at}
use Rattle.ssa_ir.specs.declared.code.Code.{Code}
use Rattle.ssa_ir.specs.declared.code.Function.{Function}
use Rattle.ssa_mean.specs.Faults.{error_string, naming_of, thrown_by, thrown_with, thrown_text}
use Rattle.ssa_mean.specs.State.{Frame, Goroutine, Machine, Later, Thrown, of_value, of_text, Next, goes, ends, where_there, FrameState, running, returning, panicking, with_current, with_frames}
use Rattle.ssa_mean.specs.Unwinding.{at_block, at_recovery, phis_first, panics, throws_from, meets, panics_with, with_tick, spends, chosen, goes_with, switches, unwound, below_wrappers, is_wrapper}
use Rattle.value_texts.specs.Texts.{fault_string}

-- what is there leads to what it leads to
pub there_safe : {A : Type 0} (c : Code) (next : A → Next) (found : Option A) (it : A) → found ≡ Some it → Safe c (next it)
    → Safe c (where_there next found)
there_safe c next found it is h = subst (λ x. Safe c (where_there next x)) (sym is) h

-- ---- what is thrown

is_dynamic : Val → Bool
is_dynamic (dynamic of it) = true
is_dynamic _ = false

not_nil : (of : TypeId) (it : Val) → dynamic of it ≡ nil_interface → ⊥
unfolding is_dynamic
not_nil of it e = true≢false (ap is_dynamic e)

has_text : (c : Code) (t : Typing) (it : Val) → IsInterfaceValue c t [] it → (it ≡ nil_interface → ⊥)
    → (words : List ℕ) × (thrown_text c (of_value it) ≡ Some words)
has_text c t it is_nil other = absurd (other refl)
has_text c t it (is_dynamic_of id v boxed all fits) other = (_, refl)

text_of : (c : Code) (t : Typing) (thrown : Thrown) → ThrownFits c t thrown
    → (words : List ℕ) × (thrown_text c thrown ≡ Some words)
text_of c t (of_value it) h = has_text c t it (interface_in c t it [] h.0) h.1
text_of c t (of_text words) h = (_, refl)

thrown_fits : (c : Code) → IsSafe c → (t : Typing) (words : List ℕ) (of : Option TypeId) → error_string c ≡ of
    → ThrownFits c t (thrown_with words of)
thrown_fits c safe t words None is = tt
thrown_fits c safe t words (Some of) is = (
  (
    (by_fault of is, λ n method there. absurd (none-some method there)),
    subst TextFits (sym (safe.runnable.errors of is)) tt,
  ),
  not_nil of (text words),
)

-- ---- the frame that panics

no_defers : (defers : List Later) (f : Function) → Recovers defers f → f.recover ≡ None → defers ≡ []
no_defers [] f h none = refl
no_defers (it ∷ others) f h none = absurd (true≢false (sym h ∙ ap (λ (r : Option BlockId). is_some r) none))

pub moved_fits : (c : Code) (t : Typing) (f : Function) (frame : Frame) (block place : ℕ) (state : FrameState) → FrameFits c t f frame
    → StateFits c t state → FrameFits c t f (record frame { block = block; place = place; state = state })
moved_fits c t f frame block place state fits is =
    record {
      there = fits.there;
      parameters = fits.parameters;
      free = fits.free;
      count = fits.count;
      registers = fits.registers;
      defers = fits.defers;
      recovers = fits.recovers;
      state = is;
    }

pub begun_as : (f : Function) (frame new : Frame) → new.registers ≡ frame.registers → IsBegun f frame → IsBegun f new
begun_as f frame new same cells register h =
    let old = cells register h in
    record { it = old.it; there = ap (λ (its : List (Option Val)). slice_get its register) same ∙ old.there }

panicking_fits : (c : Code) → IsSafe c → (t : Typing) (top : Frame) (below : List Frame) (may : MayPanic c t top below)
    → (thrown : Thrown) → ThrownFits c t thrown → (r : Option BlockId) → may.function.recover ≡ r
    → AreFrames c t
    (record (option_map_or (λ (b : BlockId). at_block may.function b.number top) r top) { state = panicking thrown } ∷ below)
panicking_fits c safe t top below may thrown is (Some b) e =
    let same : at_recovery (Some may.function) top ≡ at_block may.function b.number top =
    ap (λ (r : Option BlockId). option_map_or (λ (b : BlockId). at_block may.function b.number top) r top) e in
    let stands = subst (λ (new : Frame). Stands may.function new None × IsBegun may.function new) same
    (recovery_stands c safe top.function.number may.function may.fits.there top may.begun b e) in (
      record {
        function = may.function;
        fits = moved_fits c t may.function top b.number (phis_first (instrs_at may.function b.number)) (panicking thrown) may.fits is;
        stands = begun
            (state_stands may.function (at_block may.function b.number top) None (panicking thrown) top.defers stands.0)
            (begun_as may.function top (record (at_block may.function b.number top) { state = panicking thrown }) refl may.begun);
        takes = may.takes;
      },
      may.lower,
    )
panicking_fits c safe t top below may thrown is None e = (
  record {
    function = may.function;
    fits = moved_fits c t may.function top top.block top.place (panicking thrown) may.fits is;
    stands = lost refl e (no_defers top.defers may.function may.fits.recovers e);
    takes = may.takes;
  },
  may.lower,
)

pub throws_safe : (c : Code) → IsSafe c → (t : Typing) (m : Machine) (g : Goroutine) → OpenFits c t m
    → slice_get m.goroutines m.sched.current.number ≡ Some g → LaterFitsWhere c t g.begin → g.fault ≡ None
    → (frames : List Frame) → MayThrow c t frames → (thrown : Thrown) → ThrownFits c t thrown
    → Safe c (throws_from c m g frames thrown)
throws_safe c safe t m g fits there begin calm [] may thrown is =
    let words = text_of c t thrown is in
    there_safe c (λ words. ends (ending.Panicked words) m.output) (thrown_text c thrown) words.0 words.1 tt
throws_safe c safe t m g fits there begin calm (top ∷ below) may thrown is = (
  t,
  frames_closed c t m g (panics c thrown top ∷ below) there fits begin calm
      (subst (λ (found : Option Function). AreFrames c t (record (at_recovery found top) { state = panicking thrown } ∷ below))
      (sym may.fits.there) (panicking_fits c safe t top below may thrown is may.function.recover refl)),
)

pub meets_safe : (c : Code) → IsSafe c → (t : Typing) (m : Machine) (g : Goroutine) → OpenFits c t m
    → slice_get m.goroutines m.sched.current.number ≡ Some g → LaterFitsWhere c t g.begin → g.fault ≡ None
    → MayThrow c t g.frames → (it : Fault) → Safe c (meets c m it)
meets_safe c safe t m g fits there begin calm may it =
    there_safe c (λ (g : Goroutine). throws_from c m g g.frames (thrown_by c it)) (slice_get m.goroutines m.sched.current.number)
    g there
    (throws_safe c safe t m g fits there begin calm g.frames may (thrown_by c it)
    (thrown_fits c safe t (fault_string (naming_of c) it) (error_string c) refl))

pub panics_safe : (c : Code) → IsSafe c → (t : Typing) (m : Machine) (g : Goroutine) → OpenFits c t m
    → slice_get m.goroutines m.sched.current.number ≡ Some g → LaterFitsWhere c t g.begin → g.fault ≡ None
    → MayThrow c t g.frames → (it : Val) → IsThrown c t it → Safe c (panics_with c m it)
panics_safe c safe t m g fits there begin calm may it is = by it (interface_in c t it [] is) is
  where
    by : (it : Val) → IsInterfaceValue c t [] it → IsThrown c t it → Safe c (panics_with c m it)
    by it is_nil is = meets_safe c safe t m g fits there begin calm may fault.PanicNil
    by it (is_dynamic_of of v boxed all value) is =
        there_safe c (λ (g : Goroutine). throws_from c m g g.frames (of_value (dynamic of v)))
        (slice_get m.goroutines m.sched.current.number) g there
        (throws_safe c safe t m g fits there begin calm g.frames may (of_value (dynamic of v)) (is, not_nil of v))

-- the frames below wrappers may panic
below_throw : (c : Code) (t : Typing) (pending : Option ℕ) (frames : List Frame) → AreBelow c t pending frames
    → MayThrow c t (below_wrappers c frames)
below_throw c t pending [] h = tt
below_throw c t pending (frame ∷ frames) h = by (is_wrapper c frame) (below_throw c t frame.result frames h.1)
  where
    by : (wraps : Bool) → MayThrow c t (below_wrappers c frames)
        → MayThrow c t (if wraps then below_wrappers c frames else frame ∷ frames)
    by true rest = rest
    by false rest =
        record { function = h.0.function; fits = h.0.fits; begun = h.0.begun; takes = h.0.takes; lower = h.1 }

-- a frame that returns or panics, and has no deferred calls any more
pub unwound_safe : (c : Code) → IsSafe c → (t : Typing) (m : Machine) (g : Goroutine) (top : Frame) (below : List Frame)
    → OpenFits c t m → slice_get m.goroutines m.sched.current.number ≡ Some g → LaterFitsWhere c t g.begin → g.fault ≡ None
    → IsTop c t top below → AreBelow c t top.result below → Safe c (unwound c m g top below top.state)
unwound_safe c safe t m g top below fits there begin calm is lower = by top.state refl
  where
    standing : (state : FrameState) → top.state ≡ state → is_panicking state ≡ false → TopStands is.function top
        → TopStands is.function (record top { state = running })
    standing state e quiet (fresh stands new) =
        fresh (state_stands is.function top None running top.defers stands)
        (record { runs = refl; first = new.first; news = new.news })
    standing state e quiet (begun stands started) =
        begun (state_stands is.function top None running top.defers stands)
        (begun_as is.function top (record top { state = running }) refl started)
    standing state e quiet (lost panics none defers) =
        absurd (true≢false (sym panics ∙ ap is_panicking e ∙ quiet))

    goes_on : (state : FrameState) → top.state ≡ state → is_panicking state ≡ false
        → Safe c (goes (with_frames g (record top { state = running } ∷ below) m))
    goes_on state e quiet = (
      t,
      frames_closed c t m g (record top { state = running } ∷ below) there fits begin calm (
        record {
          function = is.function;
          fits = moved_fits c t is.function top top.block top.place running is.fits tt;
          stands = standing state e quiet is.stands;
          takes = is.takes;
        },
        lower,
      ),
    )

    by : (state : FrameState) → top.state ≡ state → Safe c (unwound c m g top below state)
    by running e = goes_on running e refl
    by returning e = goes_on returning e refl
    by (panicking thrown) e =
        throws_safe c safe t m g fits there begin calm (below_wrappers c below) (below_throw c t top.result below lower) thrown
        (subst (StateFits c t) e is.fits.state)

-- a tick is spent
pub spends_safe : (c : Code) (m : Machine) (next : Machine → Next)
    → ((ticks : ℕ) → Safe c (next (record m { ticks = ticks }))) → Safe c (spends m next)
spends_safe c m next each = by m.ticks
  where
    by : (ticks : ℕ) → Safe c (with_tick ticks m next)
    by zero = tt
    by (suc n) = each n

-- ---- which goroutine runs next

pub sched_smaller : (c : Code) (t : Typing) (goroutines : List Goroutine) (old new : State)
    → SchedFits c t goroutines old → new.goroutines ≡ old.goroutines → new.channels ≡ old.channels
    → ((n : ℕ) → IsIn n new.runnable → IsIn n old.runnable) → SchedFits c t goroutines new
sched_smaller c t goroutines old new fits count same smaller =
    record {
      count = count ∙ fits.count;
      below = λ n is. fits.below n (smaller n is);
      chans = fits.chans ∙ ap length (sym same);
      channels = λ k chan elem there is_elem.
          let was = fits.channels k chan elem (ap (λ (its : List Chan). slice_get its k) (sym same) ∙ there) is_elem in
          record {
            queue = was.queue;
            senders = λ n it is.
                let s = was.senders n it is in
                record {
                  value = s.value;
                  waits = s.waits;
                  sends = s.sends;
                  sleeps = λ runs. s.sleeps (smaller it.goroutine.number runs);
                };
            receivers = λ n it is.
                let r = was.receivers n it is in
                record {
                  waits = r.waits;
                  receives = r.receives;
                  sleeps = λ runs. r.sleeps (smaller it.goroutine.number runs);
                };
          };
    }

filtered : (p : ℕ → Bool) (n : ℕ) (xs : List ℕ) → IsIn n (filter p xs) → IsIn n xs
filtered p n [] h = h
filtered p n (x ∷ xs) h = by (p x) (filtered p n xs) h
  where
    by : (b : Bool) → (IsIn n (filter p xs) → IsIn n xs) → IsIn n (cond b (x ∷ filter p xs) (filter p xs)) → IsIn n (x ∷ xs)
    by true rest (inl e) = inl e
    by true rest (inr h) = inr (rest h)
    by false rest h = inr (rest h)

candidates_run : (at : Point) (state : State) (n : ℕ) → IsIn n (candidates at state) → IsIn n state.runnable
candidates_run point.Yield state n h =
    ⊎_elim (λ l. filtered (λ x. nat_lt state.current.number x) n state.runnable l)
    (λ r. filtered (λ x. nat_le x state.current.number) n state.runnable r)
    (in_split n (filter (λ x. nat_lt state.current.number x) state.runnable)
    (filter (λ x. nat_le x state.current.number) state.runnable) h)
candidates_run _ state n h =
    ⊎_elim (λ l. filtered (λ x. nat_le state.current.number x) n state.runnable l)
    (λ r. filtered (λ x. nat_lt x state.current.number) n state.runnable r)
    (in_split n (filter (λ x. nat_le state.current.number x) state.runnable)
    (filter (λ x. nat_lt x state.current.number) state.runnable) h)

-- a state with the same channels and goroutines, of which fewer may run
pub record IsSmaller (old new : State) : Type 0 where
  pub goroutines : new.goroutines ≡ old.goroutines
  pub channels : new.channels ≡ old.channels
  pub runnable : (n : ℕ) → IsIn n new.runnable → IsIn n old.runnable

at_smaller : (at : Point) (state : State) → IsSmaller state (at_point at state)
at_smaller point.Ended state =
    record {
      goroutines = refl;
      channels = refl;
      runnable = λ n h. filtered (λ x. not (x == state.current.number)) n state.runnable h;
    }
at_smaller _ state = record { goroutines = refl; channels = refl; runnable = λ n h. h }

-- a choice takes a number, and nothing else
pub record OnlyPicked (old new : State) : Type 0 where
  pub goroutines : new.goroutines ≡ old.goroutines
  pub channels : new.channels ≡ old.channels
  pub runnable : new.runnable ≡ old.runnable
  pub current : new.current ≡ old.current

noted_same : (number : ℕ) (state : State) → OnlyPicked state (noted number state)
noted_same number state = by (state.records && nat_lt 0 state.spare)
  where
    by : (b : Bool)
        → OnlyPicked state (if b then record state { taken = state.taken ++ number ∷ []; spare = state.spare - 1 } else state)
    by true = record { goroutines = refl; channels = refl; runnable = refl; current = refl }
    by false = record { goroutines = refl; channels = refl; runnable = refl; current = refl }

pub picked_same : (n : ℕ) (state : State) → OnlyPicked state (picked n state)
picked_same n state = by (nat_le n 1)
  where
    by : (b : Bool) → OnlyPicked state (if b then state else noted (choices.chosen n state) (used_up state))
    by true = record { goroutines = refl; channels = refl; runnable = refl; current = refl }
    by false =
        let h = noted_same (choices.chosen n state) (used_up state) in
        record { goroutines = h.goroutines; channels = h.channels; runnable = h.runnable; current = h.current }

pub choice_below : (n : ℕ) (state : State) → 0 < n → choices.chosen n state < n
choice_below n state positive = by (nat_le n 1) state.choices
  where
    by : (b : Bool) (numbers : List ℕ) → (if b then 0 else next_of n numbers) < n
    by true numbers = positive
    by false [] = positive
    by false (number ∷ numbers) = mod-lt number positive

in_place : (xs : List ℕ) (i : ℕ) → i < length xs → IsIn (slice_index xs i) xs
in_place [] i less = absurd (omega (arith, less))
in_place (x ∷ xs) zero less = inl refl
in_place (x ∷ xs) (suc i) less = inr (in_place xs i (omega (arith, less)))

goes_with_safe : (c : Code) → IsSafe c → (t : Typing) (m : Machine) (g : Goroutine) → OpenFits c t m
    → slice_get m.goroutines m.sched.current.number ≡ Some g → GoroutineFits c t g → (it : Option Fault) → g.fault ≡ it
    → Safe c (goes_with c m g it)
goes_with_safe c safe t m g fits there is None e =
    (t, record { opened = fits; g = g; there = there; fits = is; calm = e })
goes_with_safe c safe t m g fits there is (Some it) e =
    meets_safe c safe t (with_current (record g { fault = None }) m) (record g { fault = None })
    (open_with c t m (record g { fault = None }) fits)
    (get_set m.goroutines m.sched.current.number (record g { fault = None }) g there) is.begin refl
    (subst (λ (f : Option Fault). GoOn c t f g.frames) e is.frames) it

pub switches_safe : (c : Code) → IsSafe c → (t : Typing) (m : Machine) → RestFits c t m → (point : Point)
    → Safe c (switches c point m)
switches_safe c safe t m fits at =
    spends_safe c m (λ m. chosen c (next_at at m.sched) (record m { sched = switched at m.sched }))
    (λ n. by n (candidates at (at_point at m.sched)) (candidates_run at (at_point at m.sched)))
  where
    st : State
    st = at_point at m.sched

    smaller : IsSmaller m.sched (at_point at m.sched)
    smaller = at_smaller at m.sched

    by : (ticks : ℕ) (their : List ℕ) → ((n : ℕ) → IsIn n their → IsIn n (at_point at m.sched).runnable)
        → Safe c (chosen c (next_among their (at_point at m.sched))
        (record m { ticks = ticks; sched = switched_among their (at_point at m.sched) }))
    by ticks [] run = tt
    by ticks (x ∷ xs) run =
        let k : ℕ = slice_index (x ∷ xs) (choices.chosen (length (x ∷ xs)) (at_point at m.sched)) in
        let new : State = goes_to k (picked (length (x ∷ xs)) (at_point at m.sched)) in
        let only = picked_same (length (x ∷ xs)) (at_point at m.sched) in
        let runs : IsIn k (at_point at m.sched).runnable =
        run k (in_place (x ∷ xs) (choices.chosen (length (x ∷ xs)) (at_point at m.sched))
        (choice_below (length (x ∷ xs)) (at_point at m.sched) (omega arith))) in
        let next : Machine = record m { ticks = ticks; sched = new } in
        let sched : SchedFits c t m.goroutines new =
        sched_smaller c t m.goroutines m.sched new fits.sched (only.goroutines ∙ smaller.goroutines)
        (only.channels ∙ smaller.channels)
        (λ n h. smaller.runnable n (subst (IsIn n) only.runnable h)) in
        let current : IsIn k new.runnable = subst (IsIn k) (sym only.runnable) runs in
        let found = below_get m.goroutines k (sched.below k current) in
        there_safe c (λ (g : Goroutine). goes_with c next g g.fault) (slice_get m.goroutines k) found.0 found.1
        (goes_with_safe c safe t next found.0
        (record {
          others = λ n g is other. fits.goroutines n g is;
          variables = fits.variables;
          store = fits.store;
          sched = sched;
          current = current;
          starts = fits.starts;
        }) found.1 (fits.goroutines k found.0 found.1) found.0.fault refl)
