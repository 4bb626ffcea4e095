-- Entries of functions, and calls that were put off.
use Rattle.std.proofs.Common.{◌≡◌, ◌==◌, ◌++◌, ◌||◌, ℕ, zero, suc, Bool, true, false, not, if◌then◌else◌, nat_lt, List, [], ◌∷◌, length, replicate, Option, Some, None, is_some, refl, sym, subst, ap, ◌∙◌, slice_get, slice_set, codes, bytes_eq, true≢false}
use Rattle.std.proofs.lemmas.Bool.{and_from}
use Rattle.std.proofs.lemmas.Option.{none-some}
use Rattle.std.specs.Cmp.{unsigned_Decides}
use Rattle.ssa_runnable.specs.Runnable.{fits_external, takes_status}
use Rattle.code_safety.specs.Safety.{IsSafe}
use Rattle.code_safety.proofs.Available.{has_body, entry_stands, state_stands}
use Rattle.code_safety.proofs.Forms.{number_in}
use Rattle.code_safety.proofs.Growing.{grows_self, goroutine_grows}
use Rattle.code_safety.proofs.Lists.{zip_length, get_replicate, length_replicate, get_set, some_same}
use Rattle.code_safety.proofs.Machines.{OpenFits, MachineFits, GoroutineFits, GoOn, FunctionFits, CalleeFits, LaterFits, LaterFitsWhere, BuiltInFits, closes, panics, recovers, works, DoneComes, Takes, AreBelow, AreFrames, IsTop, FrameFits, Stands, IsFresh, TopStands, fresh, begun, lost, IsBegun, Recovers, Safe}
use Rattle.code_safety.proofs.Members.{both}
use Rattle.code_safety.proofs.Opening.{store_changed, starts_changed, closed_with, frames_closed, rest_of}
use Rattle.code_safety.proofs.Throwing.{MayThrow, there_safe, meets_safe, panics_safe, unwound_safe, spends_safe, switches_safe, begun_as}
use Rattle.code_safety.proofs.Values.{Typing, IsOf, AreOf, under_of}
use Rattle.code_safety.proofs.Waiting.{close_safe}
use Rattle.go_base.specs.declared.ending.Ending.TheVariants as ending
use Rattle.go_base.specs.declared.ids.FuncId.{FuncId}
use Rattle.go_base.specs.declared.ids.TypeId.{TypeId}
use Rattle.go_sched.specs.declared.scheduling.Point.TheVariants as point
use Rattle.go_type.specs.declared.operators.Builtin.TheVariants as builtin
use Rattle.go_value.specs.Values.{Val, chan_number}
use Rattle.go_value.specs.declared.faults.Fault.TheVariants as fault
use Rattle.ssa_ir.specs.declared.code.Code.{Code}
use Rattle.ssa_ir.specs.declared.code.Function.{Function}
use Rattle.ssa_ir.specs.declared.code.FunctionKind.{FunctionKind}
use Rattle.ssa_ir.specs.declared.code.FunctionKind.TheVariants as kind
use Rattle.ssa_mean.specs.Answers.{Answers, AreAnswers}
use Rattle.ssa_mean.specs.BuiltIns.{Done, built_in_call}
use Rattle.ssa_mean.specs.Calls.{Entry, enters, enters_kind, enters_external, exits, entered, fits_entry, pushed, is_full, entry_of, most_passed}
use Rattle.ssa_mean.specs.Comes.{Comes, to, faults, nowhere}
use Rattle.ssa_mean.specs.Operands.{function_at}
use Rattle.ssa_mean.specs.State.{BuiltIn, appends_items, appends_slice, appends_text, clears_slice, plain, Callee, of_function, of_built_in, of_nil, Later, Frame, Goroutine, Machine, goes, ends, stuck, where_there, current, running, with_current, with_frames}
use Rattle.ssa_mean.specs.Unwinding.{spends, switches}
use Rattle.ssa_mean.specs.Step.{makes, unwinds, begins, alone, wrote, close_of, starts_next, first_entry}

-- ---- machines that fit, with a goroutine that is known

pub known_goroutine : (c : Code) (t : Typing) (m : Machine) (g : Goroutine) → (fits : MachineFits c t m)
    → slice_get m.goroutines m.sched.current.number ≡ Some g → GoroutineFits c t g × (g.fault ≡ None)
known_goroutine c t m g fits there =
    subst (λ g. GoroutineFits c t g × (g.fault ≡ None)) (some_same fits.g g (sym fits.there ∙ there)) (fits.fits, fits.calm)

running_frames : (c : Code) (t : Typing) (g : Goroutine) → GoroutineFits c t g × (g.fault ≡ None) → AreFrames c t g.frames
running_frames c t g is = subst (λ f. GoOn c t f g.frames) is.1 is.0.frames

set_same : {A : Type 0} (xs : List A) (n : ℕ) (x : A) → slice_get xs n ≡ Some x → slice_set xs n x ≡ xs
set_same [] n x is = refl
set_same (y ∷ ys) zero x is = ap (λ z. z ∷ ys) (sym (some_same y x is))
set_same (y ∷ ys) (suc n) x is = ap (λ zs. y ∷ zs) (set_same ys n x is)

no_items : {A : Type 0} (x : A) (xs : List A) → [] ≡ x ∷ xs → ⊥
no_items x xs e = none-some x (ap (λ its. slice_get its 0) e)

-- ---- entries

no_values : (count k : ℕ) (it : Val) → slice_get (replicate count None) k ≡ Some (Some it) → ⊥
no_values count k it is = none-some it (get_replicate count k None (Some it) is)

entered_fits : (c : Code) (t : Typing) (entry : Entry) → (fits : FunctionFits c t entry.function entry.free entry.arguments)
    → FrameFits c t fits.function (entered fits.function entry)
entered_fits c t entry fits =
    record {
      there = fits.there;
      parameters = fits.takes;
      free = fits.frees;
      count = length_replicate (length fits.function.registers) None;
      registers = λ n it of is held. absurd (no_values (length fits.function.registers) n it is);
      defers = λ n it is. absurd (none-some it is);
      recovers = tt;
      state = tt;
    }

pushed_safe : (c : Code) → IsSafe c → (t : Typing) (m : Machine) (g : Goroutine) (entry : Entry) → OpenFits c t m
    → slice_get m.goroutines m.sched.current.number ≡ Some g → LaterFitsWhere c t g.begin → g.fault ≡ None
    → (fits : FunctionFits c t entry.function entry.free entry.arguments) → has_body fits.function.kind ≡ true
    → AreBelow c t entry.result g.frames → Takes c fits.function entry.result g.frames
    → Safe c (pushed fits.function entry m)
pushed_safe c safe t m g entry fits there begin calm function body below takes =
    subst (λ (b : Bool). Safe c (if b
    then where_there (λ (g : Goroutine). goes (with_frames g (entered function.function entry ∷ g.frames) m)) (current m)
    else stuck)) (sym counts)
    (there_safe c (λ (g : Goroutine). goes (with_frames g (entered function.function entry ∷ g.frames) m)) (current m) g there (
      t,
      frames_closed c t m g (entered function.function entry ∷ g.frames) there fits begin calm (
        record {
          function = function.function;
          fits = entered_fits c t entry function;
          stands = fresh stands.0 stands.1;
          takes = takes;
        },
        below,
      ),
    ))
  where
    counts : fits_entry function.function entry ≡ true
    counts =
        and_from (length entry.arguments == length function.function.params) (length entry.free == length function.function.free)
        ((unsigned_Decides (length entry.arguments) (length function.function.params)).1
        (zip_length (IsOf c t) entry.arguments function.function.params function.takes))
        ((unsigned_Decides (length entry.free) (length function.function.free)).1
        (zip_length (IsOf c t) entry.free function.function.free function.frees))

    stands : Stands function.function (entered function.function entry) None × IsFresh function.function (entered function.function entry)
    stands = entry_stands c safe entry.function.number function.function function.there body entry

exits_safe : (c : Code) (t : Typing) (m : Machine) (params : List TypeId) (items : List Val) → takes_status c.types params ≡ true
    → AreOf c t items params → Safe c (exits m items)
exits_safe c t m (of ∷ []) (it ∷ []) takes are =
    let n = number_in c t it (under_of c of) takes are.0 in
    subst (λ it. Safe c (exits m (it ∷ []))) (sym n.1) tt
exits_safe c t m (of ∷ []) [] takes are = absurd are
exits_safe c t m (of ∷ []) (it ∷ other ∷ items) takes are = absurd are.1
exits_safe c t m [] items takes are = absurd (true≢false (sym takes))
exits_safe c t m (of ∷ other ∷ params) items takes are = absurd (true≢false (sym takes))

external_safe : (c : Code) → IsSafe c → (t : Typing) (m : Machine) (f : Function) (items : List Val) → MachineFits c t m
    → (not (bytes_eq f.name (codes "os.Exit")) || takes_status c.types f.params) ≡ true → AreOf c t items f.params
    → Safe c (enters_external c m f items)
external_safe c safe t m f items fits takes are = by (bytes_eq f.name (codes "os.Exit")) takes
  where
    by : (b : Bool) → (not b || takes_status c.types f.params) ≡ true
        → Safe c (if b then exits m items else switches c point.Yield m)
    by true takes = exits_safe c t m f.params items takes are
    by false takes = switches_safe c safe t m (rest_of c t m fits) point.Yield

-- the results go to a register of the frame below, which waits for them; a function without a body gives none
pub enters_safe : (c : Code) → IsSafe c → (t : Typing) (m : Machine) (g : Goroutine) (entry : Entry) → OpenFits c t m
    → slice_get m.goroutines m.sched.current.number ≡ Some g → LaterFitsWhere c t g.begin → g.fault ≡ None
    → (fits : FunctionFits c t entry.function entry.free entry.arguments) → AreBelow c t entry.result g.frames
    → Takes c fits.function entry.result g.frames
    → (fits.function.kind ≡ kind.External → AreFrames c t g.frames) → Safe c (enters c m entry)
enters_safe c safe t m g entry fits there begin calm function below takes restored =
    passing (nat_lt most_passed entry.chain)
  where
    source : (full : Bool) → has_body function.function.kind ≡ true
        → Safe c (if full then ends ending.StackOverflow m.output else spends m (pushed function.function entry))
    source true body = tt
    source false body =
        spends_safe c m (pushed function.function entry)
        (λ n. pushed_safe c safe t (record m { ticks = n }) g entry
        (store_changed c t t m m.store n m.output (grows_self t) refl fits.store fits) there begin calm function body below takes)

    by_kind : (it : FunctionKind) → function.function.kind ≡ it → Safe c (enters_kind c m g function.function it entry)
    by_kind kind.Source e = source (is_full c g) (ap has_body e)
    by_kind kind.Init e = pushed_safe c safe t m g entry fits there begin calm function (ap has_body e) below takes
    by_kind kind.Wrapper e = pushed_safe c safe t m g entry fits there begin calm function (ap has_body e) below takes
    by_kind kind.External e =
        external_safe c safe t m function.function entry.arguments
        (record {
          opened = fits;
          g = g;
          there = there;
          fits = record {
            frames = subst (λ f. GoOn c t f g.frames) (sym calm) (restored e);
            begin = begin;
          };
          calm = calm;
        })
        (both (length function.function.results == 0) _
        (subst (λ it. fits_external c.types function.function it ≡ true) e
        (safe.runnable.externals entry.function.number function.function function.there))).1
        function.takes

    passing : (deep : Bool)
        → Safe c (if deep then ends ending.StackOverflow m.output
        else where_there (λ (g : Goroutine). where_there (λ (f : Function). enters_kind c m g f f.kind entry)
        (function_at c entry.function)) (current m))
    passing true = tt
    passing false =
        there_safe c (λ (g : Goroutine). where_there (λ (f : Function). enters_kind c m g f f.kind entry) (function_at c entry.function))
        (current m) g there
        (there_safe c (λ (f : Function). enters_kind c m g f f.kind entry) (function_at c entry.function) function.function
        function.there (by_kind function.function.kind refl))

-- ---- built-in functions in frames of their own

wrote_safe : (c : Code) → IsSafe c → (t : Typing) (m : Machine) (g : Goroutine) → MachineFits c t m
    → slice_get m.goroutines m.sched.current.number ≡ Some g → MayThrow c t g.frames → (it : Comes Done) → DoneComes c t None it
    → Safe c (wrote c m it)
wrote_safe c safe t m g fits there may (to done) h =
    let is = known_goroutine c t m g fits there in (
      h.typing,
      record {
        opened = store_changed c t h.typing m done.store m.ticks (m.output ++ done.written) h.grows h.chans h.is_store fits.opened;
        g = g;
        there = there;
        fits = goroutine_grows c t h.typing h.grows g is.0;
        calm = is.1;
      },
    )
wrote_safe c safe t m g fits there may (faults it) h =
    let is = known_goroutine c t m g fits there in
    meets_safe c safe t m g fits.opened there is.0.begin is.1 may it
wrote_safe c safe t m g fits there may nowhere h = absurd h

works_safe : (c : Code) → IsSafe c → (answers : Answers) (t : Typing) (m : Machine) (g : Goroutine) → MachineFits c t m
    → slice_get m.goroutines m.sched.current.number ≡ Some g → MayThrow c t g.frames → (called : BuiltIn) (items : List Val)
    → DoneComes c t None (built_in_call answers m.store m.sched called items) → Safe c (alone answers c m called items)
works_safe c safe answers t m g fits there may (appends_items leaves) items h =
    wrote_safe c safe t m g fits there may (built_in_call answers m.store m.sched (appends_items leaves) items) h
works_safe c safe answers t m g fits there may (appends_slice leaves) items h =
    wrote_safe c safe t m g fits there may (built_in_call answers m.store m.sched (appends_slice leaves) items) h
works_safe c safe answers t m g fits there may (appends_text leaves) items h =
    wrote_safe c safe t m g fits there may (built_in_call answers m.store m.sched (appends_text leaves) items) h
works_safe c safe answers t m g fits there may (clears_slice it) items h =
    wrote_safe c safe t m g fits there may (built_in_call answers m.store m.sched (clears_slice it) items) h
works_safe c safe answers t m g fits there may (plain builtin.Close) items h = absurd h
works_safe c safe answers t m g fits there may (plain builtin.Panic) items h = absurd h
works_safe c safe answers t m g fits there may (plain builtin.Recover) items h = absurd h
works_safe c safe answers t m g fits there may (plain called) items h =
    wrote_safe c safe t m g fits there may (built_in_call answers m.store m.sched (plain called) items) h

pub alone_safe : (c : Code) → IsSafe c → (answers : Answers) → AreAnswers c.types answers → (t : Typing) (m : Machine)
    (g : Goroutine) → MachineFits c t m → slice_get m.goroutines m.sched.current.number ≡ Some g → MayThrow c t g.frames
    → (called : BuiltIn) (items : List Val) → BuiltInFits c t called items None
    → Safe c (alone answers c m called items)
alone_safe c safe answers told t m g fits there may called items (closes id) =
    let is = known_goroutine c t m g fits there in
    subst (λ gs. Safe c (close_of c m (record m { goroutines = gs }) (chan_number id ∷ [])))
    (set_same m.goroutines m.sched.current.number g there)
    (close_safe c safe t m g g id fits.opened there is.0.begin is.1 may is.0 is.1)
alone_safe c safe answers told t m g fits there may called items (panics it thrown) =
    let is = known_goroutine c t m g fits there in
    panics_safe c safe t m g fits.opened there is.0.begin is.1 may it thrown
alone_safe c safe answers told t m g fits there may called items (recovers its of is) = (t, fits)
alone_safe c safe answers told t m g fits there may called items (works it its of each) =
    works_safe c safe answers t m g fits there may it its (each t (grows_self t) answers m.store m.sched fits.opened.store)

-- ---- calls that were put off

pub makes_safe : (c : Code) → IsSafe c → (answers : Answers) → AreAnswers c.types answers → (t : Typing) (m : Machine)
    (g : Goroutine) → MachineFits c t m → slice_get m.goroutines m.sched.current.number ≡ Some g → MayThrow c t g.frames
    → AreBelow c t None g.frames → (it : Later) (deferred : Bool) → LaterFits c t it
    → Safe c (makes answers c m it deferred it.callee)
makes_safe c safe answers told t m g fits there may below it deferred is = by it.callee is
  where
    known : GoroutineFits c t g × (g.fault ≡ None)
    known = known_goroutine c t m g fits there

    by : (callee : Callee) → CalleeFits c t callee it.arguments → Safe c (makes answers c m it deferred callee)
    by (of_function id free) is =
        enters_safe c safe t m g (entry_of c m id free it deferred None) fits.opened there known.0.begin known.1 is below tt
        (λ e. running_frames c t g known)
    by (of_built_in called) is = alone_safe c safe answers told t m g fits there may called it.arguments is
    by of_nil is = meets_safe c safe t m g fits.opened there known.0.begin known.1 may fault.NilPointer

-- a frame that returns or panics
pub unwinds_safe : (c : Code) → IsSafe c → (answers : Answers) → AreAnswers c.types answers → (t : Typing) (m : Machine)
    (g : Goroutine) (top : Frame) (below : List Frame) → OpenFits c t m
    → slice_get m.goroutines m.sched.current.number ≡ Some g → g.frames ≡ top ∷ below → LaterFitsWhere c t g.begin
    → g.fault ≡ None → IsTop c t top below → AreBelow c t top.result below → (top.state ≡ running → ⊥)
    → Safe c (unwinds answers c m g top below top.defers)
unwinds_safe c safe answers told t m g top below fits there frames begin calm is lower other = by top.defers refl
  where
    others_recover : (others : List Later) → is_some is.function.recover ≡ true → Recovers others is.function
    others_recover [] h = tt
    others_recover (it ∷ others) h = h

    standing : TopStands is.function top → (it : Later) (others : List Later) → top.defers ≡ it ∷ others
        → Stands is.function top None × IsBegun is.function top
    standing (fresh stands new) it others e = absurd (other new.runs)
    standing (begun stands started) it others e = (stands, started)
    standing (lost thrown none no_defers) it others e = absurd (no_items it others (sym no_defers ∙ e))

    by : (defers : List Later) → top.defers ≡ defers → Safe c (unwinds answers c m g top below defers)
    by [] e = unwound_safe c safe t m g top below fits there begin calm is lower
    by (it ∷ others) e =
        let stands = standing is.stands it others e in
        let new : Frame = record top { defers = others } in
        let stands' : Stands is.function new None = state_stands is.function top None top.state others stands.0 in
        let begun' : IsBegun is.function new = begun_as is.function top new refl stands.1 in
        let frame : FrameFits c t is.function new =
        record {
          there = is.fits.there;
          parameters = is.fits.parameters;
          free = is.fits.free;
          count = is.fits.count;
          registers = is.fits.registers;
          defers = λ n later found. is.fits.defers (suc n) later (ap (λ (its : List Later). slice_get its (suc n)) e ∙ found);
          recovers = others_recover others (subst (λ its. Recovers its is.function) e is.fits.recovers);
          state = is.fits.state;
        } in
        let g' : Goroutine = record g { frames = new ∷ below } in
        makes_safe c safe answers told t (with_frames g (new ∷ below) m) g'
        (frames_closed c t m g (new ∷ below) there fits begin calm
        (record { function = is.function; fits = frame; stands = begun stands' begun'; takes = is.takes }, lower))
        (get_set m.goroutines m.sched.current.number g' g there)
        (record { function = is.function; fits = frame; begun = begun'; takes = is.takes; lower = lower })
        (record { function = is.function; fits = frame; stands = stands'; begun = begun'; takes = is.takes }, lower)
        it true (is.fits.defers 0 it (ap (λ (its : List Later). slice_get its 0) e))

-- ---- a goroutine without frames

starts_safe : (c : Code) → IsSafe c → (t : Typing) (m : Machine) (g : Goroutine) → MachineFits c t m
    → slice_get m.goroutines m.sched.current.number ≡ Some g → g.frames ≡ [] → (starts : List FuncId) → m.starts ≡ starts
    → Safe c (starts_next c m starts)
starts_safe c safe t m g fits there none [] e = tt
starts_safe c safe t m g fits there none (id ∷ others) e =
    let known = known_goroutine c t m g fits there in
    let start = fits.opened.starts 0 id (ap (λ (its : List FuncId). slice_get its 0) e) in
    enters_safe c safe t (record m { starts = others }) g (first_entry id)
    (starts_changed c t m others
    (λ n it is. fits.opened.starts (suc n) it (ap (λ (its : List FuncId). slice_get its (suc n)) e ∙ is)) fits.opened)
    there known.0.begin known.1
    (record {
      function = start.function;
      there = start.there;
      frees = subst (AreOf c t []) (sym start.free) tt;
      takes = subst (AreOf c t []) (sym start.params) tt;
    })
    (subst (AreBelow c t None) (sym none) tt) tt (λ e. running_frames c t g known)

pub begins_safe : (c : Code) → IsSafe c → (answers : Answers) → AreAnswers c.types answers → (t : Typing) (m : Machine)
    (g : Goroutine) → MachineFits c t m → slice_get m.goroutines m.sched.current.number ≡ Some g → g.frames ≡ []
    → Safe c (begins answers c m g g.begin)
begins_safe c safe answers told t m g fits there none = by g.begin refl
  where
    known : GoroutineFits c t g × (g.fault ≡ None)
    known = known_goroutine c t m g fits there

    ending_or : (first : Bool) → Safe c (if first then starts_next c m m.starts else switches c point.Ended m)
    ending_or true = starts_safe c safe t m g fits there none m.starts refl
    ending_or false = switches_safe c safe t m (rest_of c t m fits) point.Ended

    by : (begin : Option Later) → g.begin ≡ begin → Safe c (begins answers c m g begin)
    by None e = ending_or (m.sched.current.number == 0)
    by (Some it) e =
        let g' : Goroutine = record g { begin = None } in
        makes_safe c safe answers told t (with_current g' m) g'
        (closed_with c t m g g' there fits.opened
        (record { frames = known.0.frames; begin = tt }) known.1)
        (get_set m.goroutines m.sched.current.number g' g there)
        (subst (MayThrow c t) (sym none) tt) (subst (AreBelow c t None) (sym none) tt) it false
        (subst (LaterFitsWhere c t) e known.0.begin)
