-- Calls, `go`, `defer`, returns and `recover`.
use Rattle.std.proofs.Common.{◌≡◌, arith, ℕ, zero, suc, Bool, true, false, not, if◌then◌else◌, List, [], ◌∷◌, length, Option, Some, None, is_some, refl, sym, subst, ap, ◌∙◌, slice_get, true≢false, ◌==◌}
use Rattle.std.proofs.lemmas.Option.{none-some}
use Rattle.std.specs.Cmp.{unsigned_Decides}
use Rattle.std.specs.Cmp.Lexicographic.{pointwise}
use Rattle.ssa_runnable.specs.Runnable.{fits_external}
use Rattle.code_safety.specs.Safety.{IsSafe}
use Rattle.code_safety.proofs.Available.{typed_of, pending_stands, given_stands, state_stands, begun_at, begun_with}
use Rattle.code_safety.proofs.Entering.{enters_safe}
use Rattle.code_safety.proofs.Going.{site_reads, result_fits, result_written, result_same, behind_fit, site_throws, site_meets, goes_behind_safe, finishes_safe}
use Rattle.code_safety.proofs.Growing.{grows_self}
use Rattle.code_safety.proofs.Lists.{get_set, get_front, some_same}
use Rattle.code_safety.proofs.Machines.{GoroutineFits, GoOn, FunctionFits, CallFits, CalleeFits, LaterFits, BuiltInFits, closes, panics, recovers, works, IsThrown, StateFits, ResultsFit, ResultsFitWhere, GivesOf, DoneComes, Takes, AreBelow, AreFrames, Stands, begun, Safe}
use Rattle.code_safety.proofs.Members.{both}
use Rattle.code_safety.proofs.Opening.{open_with, frames_closed, spawned_fits, rest_of}
use Rattle.code_safety.proofs.Operands.{values_are}
use Rattle.code_safety.proofs.Readied.{LaterComes, readied_comes, deferred_comes}
use Rattle.code_safety.proofs.Sames.{is_of_alike}
use Rattle.code_safety.proofs.Shapes.{Alike, zip_joined}
use Rattle.code_safety.proofs.Sites.{SiteFits, Reads, IsRegister}
use Rattle.code_safety.proofs.Stores.{parts_of_items}
use Rattle.code_safety.proofs.Throwing.{MayThrow, there_safe, panics_safe, switches_safe, moved_fits, begun_as}
use Rattle.code_safety.proofs.Values.{Typing, Fits, IsOf, AreOf, under_of}
use Rattle.code_safety.proofs.Waiting.{close_safe}
use Rattle.go_base.specs.declared.ids.FuncId.{FuncId}
use Rattle.go_base.specs.declared.ids.TypeId.{TypeId}
use Rattle.go_sched.specs.declared.scheduling.Point.TheVariants as point
use Rattle.go_store.specs.Arrays.{array_of}
use Rattle.go_type.specs.declared.operators.Builtin.TheVariants as builtin
use Rattle.go_type.specs.declared.term.TypeTerm.TheVariants as term
use Rattle.go_value.specs.Values.{Val, nil_interface}
use Rattle.go_value.specs.declared.faults.Fault.TheVariants as fault
use Rattle.ssa_ir.specs.Blocks.{is_end_op}
use Rattle.ssa_ir.specs.declared.code.Code.{Code}
use Rattle.ssa_ir.specs.declared.code.Function.{Function}
use Rattle.ssa_ir.specs.declared.code.FunctionKind.TheVariants as kind
use Rattle.ssa_ir.specs.declared.operands.Operand.{Operand}
use Rattle.ssa_ir.specs.declared.ops.Call.{Call}
use Rattle.ssa_ir.specs.declared.ops.Instr.{Instr}
use Rattle.ssa_ir.specs.declared.ops.Op.{Op}
use Rattle.ssa_ir.specs.declared.ops.Op.TheVariants as op
use Rattle.ssa_mean.specs.BuiltIns.{built_in_call}
use Rattle.ssa_mean.specs.Calls.{enters, entry_of, readied, results_of, given, with_new}
use Rattle.ssa_mean.specs.Comes.{Comes, to, faults, nowhere}
use Rattle.ssa_mean.specs.Operands.{function_at, values_of}
use Rattle.ssa_mean.specs.State.{BuiltIn, appends_items, appends_slice, appends_text, clears_slice, plain, Callee, of_function, of_built_in, of_nil, Later, of_value, of_text, FrameState, running, returning, panicking, Frame, Goroutine, goes, with_frames, with_result, advanced}
use Rattle.ssa_mean.specs.Step.{Site, acts, with_later, calls, calls_built_in, starts_call, defers_call, behind_call, returning_where, returns, goes_behind, recovers as recovers_at}
use Rattle.ssa_mean.specs.Unwinding.{recovered, recovering, recovered_state, recovered_value, is_wrapper, may_recover}
use Rattle.ssa_sane.specs.Sane.{is_new}
use Rattle.ssa_typed.specs.Calls.{fits_call, fits_deferred}
use Rattle.ssa_typed.specs.Forms.{FitsOp, FitsGiving, fits_giving, fits_alone}
use Rattle.ssa_typed.specs.Operands.{is_operand}
use Rattle.ssa_typed.specs.Typed as typed_code
use Rattle.ssa_typed.specs.Typed.{IsTypedInstr, is_allowed}

-- ---- what typed code says of the instructions

call_typed : (t : Typing) (s : Site) (instr : Instr) (site : SiteFits t s instr) (it : Call) → instr.op ≡ op.Call it
    → fits_call s.code s.function it site.of ≡ true
unfolding FitsGiving fits_giving fits_alone
call_typed t s instr site it is = by site.of (subst (λ at. FitsOp s.code s.function at site.of) is site.typed)
  where
    by : (of : Option TypeId) → FitsOp s.code s.function (op.Call it) of → fits_call s.code s.function it of ≡ true
    by None h = h
    by (Some of) h = h

-- an instruction that gives no register
none_of : (t : Typing) (s : Site) (instr : Instr) (site : SiteFits t s instr) (at : Op)
    → ((of : TypeId) → FitsOp s.code s.function at (Some of) → ⊥) → instr.op ≡ at → (site.of ≡ None) × FitsOp s.code s.function at None
none_of t s instr site at never is = by site.of refl (subst (λ at. FitsOp s.code s.function at site.of) is site.typed)
  where
    by : (of : Option TypeId) → site.of ≡ of → FitsOp s.code s.function at of → (site.of ≡ None) × FitsOp s.code s.function at None
    by None e h = (e, h)
    by (Some of) e h = absurd (never of h)

go_typed : (t : Typing) (s : Site) (instr : Instr) (site : SiteFits t s instr) (it : Call) → instr.op ≡ op.Go it
    → (site.of ≡ None) × (fits_deferred s.code s.function it ≡ true)
unfolding FitsGiving fits_giving fits_alone
go_typed t s instr site it is = none_of t s instr site (op.Go it) (λ of h. true≢false (sym h)) is

defer_typed : (t : Typing) (s : Site) (instr : Instr) (site : SiteFits t s instr) (it : Call) → instr.op ≡ op.Defer it
    → (site.of ≡ None) × (fits_deferred s.code s.function it ≡ true)
unfolding FitsGiving fits_giving fits_alone
defer_typed t s instr site it is = none_of t s instr site (op.Defer it) (λ of h. true≢false (sym h)) is

run_defers_typed : (t : Typing) (s : Site) (instr : Instr) (site : SiteFits t s instr) → instr.op ≡ op.RunDefers → site.of ≡ None
unfolding FitsGiving fits_giving fits_alone
run_defers_typed t s instr site is = (none_of t s instr site op.RunDefers (λ of h. true≢false (sym h)) is).0

return_typed : (t : Typing) (s : Site) (instr : Instr) (site : SiteFits t s instr) (results : List Operand)
    → instr.op ≡ op.Return results → pointwise (is_operand s.code s.function) results s.function.results ≡ true
unfolding FitsGiving fits_giving fits_alone
return_typed t s instr site results is =
    (none_of t s instr site (op.Return results) (λ of h. true≢false (sym h)) is).1

-- ---- the frames behind an instruction that gives nothing

nothing_given : (register : Option ℕ) (frame : Frame) → with_result register None frame ≡ frame
nothing_given (Some register) frame = refl
nothing_given None frame = refl

plain_behind : (t : Typing) (s : Site) (instr : Instr) (site : SiteFits t s instr) → is_end_op instr.op ≡ false → site.of ≡ None
    → AreFrames s.code t (advanced s.frame ∷ s.below)
plain_behind t s instr site goes_on none =
    subst (λ frame. AreFrames s.code t (advanced frame ∷ s.below)) (nothing_given instr.register s.frame)
    (behind_fit t t s instr site (grows_self t) goes_on None (subst (GivesOf s.code t None) (sym none) tt))

-- the goroutine behind its call
behind_goroutine : Site → Goroutine
behind_goroutine s = record (s.goroutine) { frames = advanced s.frame ∷ s.below }

behind_is : (t : Typing) (s : Site) (instr : Instr) → SiteFits t s instr → AreFrames s.code t (advanced s.frame ∷ s.below)
    → GoroutineFits s.code t (behind_goroutine s)
unfolding behind_goroutine
behind_is t s instr site are =
    record { frames = subst (λ f. GoOn s.code t f (advanced s.frame ∷ s.below)) (sym site.calm) are; begin = site.begin }

-- ---- calls of functions

-- the frames that wait for a call
waiting_below : (t : Typing) (s : Site) (instr : Instr) (site : SiteFits t s instr) → is_end_op instr.op ≡ false
    → is_new instr ≡ false → AreBelow s.code t instr.register (advanced s.frame ∷ s.below)
waiting_below t s instr site goes_on other = (
  record {
    function = s.function;
    fits = moved_fits s.code t s.function s.frame s.frame.block (suc s.frame.place) s.frame.state site.fits site.fits.state;
    stands = pending_stands s.function s.frame instr site.stands site.at site.sane goes_on;
    begun = begun_as s.function s.frame (advanced s.frame) refl
        (begun_at s.function s.frame instr site.stands site.started site.at other);
    takes = site.takes;
  },
  site.lower,
)

call_takes : (c : Code) (f callee : Function) (frame : Frame) (below : List Frame) (register : Option ℕ) (of : Option TypeId)
    → function_at c frame.function ≡ Some f → IsRegister f register of → ResultsFitWhere c callee.results of
    → Takes c callee register (advanced frame ∷ below)
call_takes c f callee frame below None of there is fits = tt
call_takes c f callee frame below (Some register) of there is fits =
    record { function = f; there = there; of = is.0; is = is.1.1; fits = subst (ResultsFitWhere c callee.results) is.1.0 fits }

-- a function without a body gives no results
no_results : (c : Code) → IsSafe c → (n : ℕ) (f : Function) → slice_get c.functions n ≡ Some f → f.kind ≡ kind.External
    → (of : Option TypeId) → ResultsFitWhere c f.results of → of ≡ None
no_results c safe n f there e of fits =
    by f.results (both (length f.results == 0) _ (subst (λ it. fits_external c.types f it ≡ true) e (safe.runnable.externals n f there))).0
    of fits
  where
    by : (results : List TypeId) → (length results == 0) ≡ true → (of : Option TypeId) → ResultsFitWhere c results of → of ≡ None
    by results h None fits = refl
    by [] h (Some of) fits = absurd fits
    by (one ∷ results) h (Some of) fits =
        absurd (let e = (unsigned_Decides (length (one ∷ results)) 0).0 h in omega arith)

function_safe : (t : Typing) (s : Site) (instr : Instr) (site : SiteFits t s instr) → is_end_op instr.op ≡ false
    → is_new instr ≡ false → (it : Later) (id : FuncId) (free : List Val)
    → (fits : FunctionFits s.code t id free it.arguments) → ResultsFitWhere s.code fits.function.results site.of
    → Safe s.code (enters s.code (behind_call s) (entry_of s.code s.machine id free it false instr.register))
unfolding behind_goroutine
function_safe t s instr site goes_on other it id free fits results =
    enters_safe s.code site.safe t (behind_call s) (behind_goroutine s)
    (entry_of s.code s.machine id free it false instr.register)
    (open_with s.code t s.machine (behind_goroutine s) site.machine)
    (get_set s.machine.goroutines s.machine.sched.current.number (behind_goroutine s) s.goroutine site.there)
    site.begin site.calm fits (waiting_below t s instr site goes_on other)
    (call_takes s.code s.function fits.function s.frame s.below instr.register site.of site.fits.there site.register results)
    (λ e. plain_behind t s instr site goes_on (no_results s.code site.safe id.number fits.function fits.there e site.of results))

-- ---- `recover`

recovered_fits : (c : Code) (t : Typing) (state : FrameState) → StateFits c t state → IsThrown c t (recovered_value state)
recovered_fits c t running h = tt
recovered_fits c t returning h = tt
recovered_fits c t (panicking (of_value it)) h = h.0
recovered_fits c t (panicking (of_text words)) h = tt

below_recovered : (c : Code) (t : Typing) (pending : Option ℕ) (frames : List Frame) → AreBelow c t pending frames
    → IsThrown c t (recovered c frames)
below_recovered c t pending [] h = tt
below_recovered c t pending (frame ∷ frames) h = by (is_wrapper c frame) (below_recovered c t frame.result frames h.1)
  where
    by : (b : Bool) → IsThrown c t (recovered c frames)
        → IsThrown c t (if b then recovered c frames else recovered_value frame.state)
    by true rest = rest
    by false rest = recovered_fits c t frame.state h.0.fits.state

state_recovered : (c : Code) (t : Typing) (state : FrameState) → StateFits c t state → StateFits c t (recovered_state state)
state_recovered c t running h = h
state_recovered c t returning h = h
state_recovered c t (panicking (of_value it)) h = tt
state_recovered c t (panicking (of_text words)) h = h

takes_recovering : (c : Code) (f : Function) (result : Option ℕ) (frames : List Frame) → Takes c f result frames
    → Takes c f result (recovering c frames)
takes_recovering c f None frames h = tt
takes_recovering c f (Some register) [] h = tt
takes_recovering c f (Some register) (frame ∷ frames) h = by (is_wrapper c frame)
  where
    by : (b : Bool)
        → Takes c f (Some register) (if b then frame ∷ recovering c frames else record frame { state = recovered_state frame.state } ∷ frames)
    by true = h
    by false = record { function = h.function; there = h.there; of = h.of; is = h.is; fits = h.fits }

recovering_below : (c : Code) (t : Typing) (pending : Option ℕ) (frames : List Frame) → AreBelow c t pending frames
    → AreBelow c t pending (recovering c frames)
recovering_below c t pending [] h = tt
recovering_below c t pending (frame ∷ frames) h = by (is_wrapper c frame) (recovering_below c t frame.result frames h.1)
  where
    by : (b : Bool) → AreBelow c t frame.result (recovering c frames)
        → AreBelow c t pending (if b then frame ∷ recovering c frames else record frame { state = recovered_state frame.state } ∷ frames)
    by true rest = (
      record {
        function = h.0.function;
        fits = h.0.fits;
        stands = h.0.stands;
        begun = h.0.begun;
        takes = takes_recovering c h.0.function frame.result frames h.0.takes;
      },
      rest,
    )
    by false rest = (
      record {
        function = h.0.function;
        fits = moved_fits c t h.0.function frame frame.block frame.place (recovered_state frame.state) h.0.fits
            (state_recovered c t frame.state h.0.fits.state);
        stands = state_stands h.0.function frame pending (recovered_state frame.state) frame.defers h.0.stands;
        begun = begun_as h.0.function frame (record frame { state = recovered_state frame.state }) refl h.0.begun;
        takes = h.0.takes;
      },
      h.1,
    )

-- a value of `interface{}` for the register
any_gives : (c : Code) (t : Typing) (it : Val) (of : Option TypeId)
    → ((id : TypeId) → of ≡ Some id → under_of c id ≡ Some (term.Interface [])) → IsThrown c t it → GivesOf c t (Some it) of
any_gives c t it None is h = tt
any_gives c t it (Some of) is h = subst (Fits c t it) (sym (is of refl)) h

-- ---- the instructions

let_go : (c : Code) (t : Typing) (later : Later) → CallFits c t None later.callee later.arguments → LaterFits c t later
let_go c t later h = by later.callee h
  where
    by : (callee : Callee) → CallFits c t None callee later.arguments → CalleeFits c t callee later.arguments
    by (of_function id free) h = h.0
    by (of_built_in called) h = h
    by of_nil h = tt

-- the next place, where the instruction gives nothing
next_plain : (t : Typing) (s : Site) (instr : Instr) (site : SiteFits t s instr) → is_end_op instr.op ≡ false → site.of ≡ None
    → Stands s.function (advanced s.frame) None
next_plain t s instr site goes_on none =
    subst (λ register. Stands s.function (advanced s.frame) register) (no_register instr.register site.of site.register none)
    (pending_stands s.function s.frame instr site.stands site.at site.sane goes_on)
  where
    no_register : (register : Option ℕ) (of : Option TypeId) → IsRegister s.function register of → of ≡ None → register ≡ None
    no_register None of is none = refl
    no_register (Some register) of is none = absurd (none-some is.0 (sym none ∙ is.1.0))

-- ---- results

items_fit : (c : Code) (t : Typing) (items : List Val) (results : List TypeId) (of : TypeId) → AreOf c t items results
    → ResultsFit c results of → GivesOf c t (results_of items) (Some of)
items_fit c t [] [] of are fits = absurd fits
items_fit c t (it ∷ []) (one ∷ []) of are fits = is_of_alike c t it one of fits are.0
items_fit c t (it ∷ other ∷ items) (one ∷ two ∷ rest) of are fits =
    subst (Fits c t (array_of (it ∷ other ∷ items))) (sym fits.1.0) (
      fits.0,
      (
        refl,
        parts_of_items c t (it ∷ other ∷ items) fits.0
            (zip_joined (IsOf c t) (Alike c.types) (IsOf c t) (λ v a b h k. is_of_alike c t v a b k h) (it ∷ other ∷ items)
            (one ∷ two ∷ rest) fits.0 are fits.1.1),
      ),
    )
items_fit c t [] (one ∷ rest) of are fits = absurd are
items_fit c t (it ∷ items) [] of are fits = absurd are
items_fit c t (it ∷ []) (one ∷ two ∷ rest) of are fits = absurd are.1
items_fit c t (it ∷ other ∷ items) (one ∷ []) of are fits = absurd are.1

-- the register that takes the results, with its type
pub record TakenBy (c : Code) (t : Typing) (f : Function) (register : Option ℕ) (items : List Val) : Type 0 where
  pub of : Option TypeId
  pub is : IsRegister f register of
  pub gives : GivesOf c t (results_of items) of

taken_by : (c : Code) (t : Typing) (f caller : Function) (register : Option ℕ) (frame : Frame) (below : List Frame) (items : List Val)
    → function_at c frame.function ≡ Some caller → AreOf c t items f.results → Takes c f register (frame ∷ below)
    → TakenBy c t caller register items
taken_by c t f caller None frame below items there are takes = record { of = None; is = refl; gives = tt }
taken_by c t f caller (Some register) frame below items there are takes =
    record {
      of = Some takes.of;
      is = (
        takes.of,
        (
          refl,
          subst (λ f. slice_get f.registers register ≡ Some takes.of) (some_same takes.function caller (sym takes.there ∙ there)) takes.is,
        ),
      );
      gives = items_fit c t items f.results takes.of are takes.fits;
    }

given_frames : (c : Code) (t : Typing) (f : Function) (top : Frame) (items : List Val) (below : List Frame)
    → AreOf c t items f.results → Takes c f top.result below → AreBelow c t top.result below
    → AreFrames c t (given top items below)
given_frames c t f top items [] are takes lower = tt
given_frames c t f top items (caller ∷ below) are takes lower =
    let taken = taken_by c t f lower.0.function top.result caller below items lower.0.fits.there are takes in
    let new : Frame = with_result top.result (results_of items) caller in (
      record {
        function = lower.0.function;
        fits = result_fits c t lower.0.function caller top.result (results_of items) taken.of taken.is taken.gives lower.0.fits;
        stands = begun
            (given_stands lower.0.function caller top.result (results_of items) lower.0.stands
            (result_written c t lower.0.function caller top.result (results_of items) taken.of taken.is taken.gives lower.0.fits))
            (begun_with lower.0.function caller top.result (results_of items) lower.0.begun);
        takes = subst (λ r. Takes c lower.0.function r below) (sym (result_same top.result (results_of items) caller)) lower.0.takes;
      },
      subst (λ r. AreBelow c t r below) (sym (result_same top.result (results_of items) caller)) lower.1,
    )

-- `recover`, which an instruction calls
pub recovers_safe : (t : Typing) (s : Site) (instr : Instr) (site : SiteFits t s instr) → is_end_op instr.op ≡ false
    → is_new instr ≡ false → ((id : TypeId) → site.of ≡ Some id → under_of s.code id ≡ Some (term.Interface []))
    → Safe s.code (recovers_at s instr.register)
recovers_safe t s instr site goes_on other is = by (may_recover s.code s.frame)
  where
    value : IsThrown s.code t (recovered s.code s.below)
    value = below_recovered s.code t s.frame.result s.below site.lower

    gives : GivesOf s.code t (Some (recovered s.code s.below)) site.of
    gives = any_gives s.code t (recovered s.code s.below) site.of is value

    top : AreFrames s.code t (advanced (with_result instr.register (Some (recovered s.code s.below)) s.frame) ∷ s.below)
    top = behind_fit t t s instr site (grows_self t) goes_on (Some (recovered s.code s.below)) gives

    by : (b : Bool)
        → Safe s.code (if b
        then goes (with_frames s.goroutine
        (advanced (with_result instr.register (Some (recovered s.code s.below)) s.frame) ∷ recovering s.code s.below) s.machine)
        else goes_behind s instr.register (Some nil_interface) s.machine)
    by true = (
      t,
      frames_closed s.code t s.machine s.goroutine
          (advanced (with_result instr.register (Some (recovered s.code s.below)) s.frame) ∷ recovering s.code s.below) site.there
          site.machine site.begin site.calm (
            record {
              function = top.0.function;
              fits = top.0.fits;
              stands = top.0.stands;
              takes = takes_recovering s.code top.0.function
                  (advanced (with_result instr.register (Some (recovered s.code s.below)) s.frame)).result s.below top.0.takes;
            },
            recovering_below s.code t (advanced (with_result instr.register (Some (recovered s.code s.below)) s.frame)).result s.below top.1,
          ),
    )
    by false =
        goes_behind_safe t t s instr site (grows_self t) goes_on (Some nil_interface) s.machine site.machine site.there
        (any_gives s.code t nil_interface site.of is tt)

pub call_safe : (t : Typing) (s : Site) (instr : Instr) → SiteFits t s instr → (it : Call) → instr.op ≡ op.Call it
    → Safe s.code (acts s instr.register (op.Call it))
unfolding acts behind_goroutine
call_safe t s instr site it is =
    by (readied s.code s.function s.frame it)
    (readied_comes t s (op.Call it) it (subst (Reads t s) is (site_reads t s instr site)) refl refl site.of
    (call_typed t s instr site it is))
  where
    goes_on : is_end_op instr.op ≡ false
    goes_on = ap is_end_op is

    other : is_new instr ≡ false
    other = ap (λ (at : Op). is_new (record instr { op = at })) is

    works_safe : (called : BuiltIn) (items : List Val)
        → DoneComes s.code t site.of (built_in_call s.answers s.machine.store s.machine.sched called items)
        → Safe s.code (calls_built_in s instr.register called items)
    works_safe (appends_items leaves) items h = finishes_safe t s instr site goes_on other
        (built_in_call s.answers s.machine.store s.machine.sched (appends_items leaves) items) h
    works_safe (appends_slice leaves) items h = finishes_safe t s instr site goes_on other
        (built_in_call s.answers s.machine.store s.machine.sched (appends_slice leaves) items) h
    works_safe (appends_text leaves) items h = finishes_safe t s instr site goes_on other
        (built_in_call s.answers s.machine.store s.machine.sched (appends_text leaves) items) h
    works_safe (clears_slice it) items h = finishes_safe t s instr site goes_on other
        (built_in_call s.answers s.machine.store s.machine.sched (clears_slice it) items) h
    works_safe (plain builtin.Close) items h = absurd h
    works_safe (plain builtin.Panic) items h = absurd h
    works_safe (plain builtin.Recover) items h = absurd h
    works_safe (plain called) items h = finishes_safe t s instr site goes_on other
        (built_in_call s.answers s.machine.store s.machine.sched (plain called) items) h

    built_in_safe : (called : BuiltIn) (items : List Val) (of : Option TypeId) → site.of ≡ of → BuiltInFits s.code t called items of
        → Safe s.code (calls_built_in s instr.register called items)
    built_in_safe called items of e (closes id) =
        close_safe s.code site.safe t s.machine s.goroutine (behind_goroutine s) id site.machine site.there site.begin site.calm
        (subst (MayThrow s.code t) (sym site.frames) (site_throws t s instr site other))
        (behind_is t s instr site (plain_behind t s instr site goes_on e)) site.calm
    built_in_safe called items of e (panics it thrown) =
        panics_safe s.code site.safe t s.machine s.goroutine site.machine site.there site.begin site.calm
        (subst (MayThrow s.code t) (sym site.frames) (site_throws t s instr site other)) it thrown
    built_in_safe called items of e (recovers its id any) =
        recovers_safe t s instr site goes_on other (λ id h. any id (sym e ∙ h))
    built_in_safe called items of e (works it its id each) =
        works_safe it its
        (subst (λ of. DoneComes s.code t of (built_in_call s.answers s.machine.store s.machine.sched it its)) (sym e)
        (each t (grows_self t) s.answers s.machine.store s.machine.sched site.machine.store))

    by_callee : (later : Later) (callee : Callee) → CallFits s.code t site.of callee later.arguments
        → Safe s.code (calls s instr.register later callee)
    by_callee later (of_function id free) h = function_safe t s instr site goes_on other later id free h.0 h.1
    by_callee later (of_built_in called) h = built_in_safe called later.arguments site.of refl h
    by_callee later of_nil h = site_meets t s instr site other fault.NilPointer

    by : (it : Comes Later) → LaterComes s.code t site.of it
        → Safe s.code (with_later s it (λ later. calls s instr.register later later.callee))
    by (to later) h = by_callee later later.callee h
    by (faults it) h = site_meets t s instr site other it
    by nowhere h = absurd h

pub go_safe : (t : Typing) (s : Site) (instr : Instr) → SiteFits t s instr → (it : Call) → instr.op ≡ op.Go it
    → Safe s.code (acts s instr.register (op.Go it))
unfolding acts behind_goroutine
go_safe t s instr site it is =
    by (readied s.code s.function s.frame it)
    (deferred_comes t s (op.Go it) it (subst (Reads t s) is (site_reads t s instr site)) refl refl typed.1)
  where
    typed : (site.of ≡ None) × (fits_deferred s.code s.function it ≡ true)
    typed = go_typed t s instr site it is

    goes_on : is_end_op instr.op ≡ false
    goes_on = ap is_end_op is

    other : is_new instr ≡ false
    other = ap (λ (at : Op). is_new (record instr { op = at })) is

    starts : (later : Later) → LaterFits s.code t later → Safe s.code (starts_call s later)
    starts later h =
        let closed = frames_closed s.code t s.machine s.goroutine (advanced s.frame ∷ s.below) site.there site.machine site.begin
        site.calm (plain_behind t s instr site goes_on typed.0) in
        let new : Goroutine = record { frames = []; begin = Some later; fault = None } in
        switches_safe s.code site.safe t (with_new later (behind_call s))
        (rest_of s.code t (with_new later (behind_call s))
        (record {
          opened = spawned_fits s.code t (behind_call s) new (record { frames = tt; begin = h }) closed.opened;
          g = closed.g;
          there = get_front (behind_call s).goroutines (new ∷ []) s.machine.sched.current.number closed.g closed.there;
          fits = closed.fits;
          calm = closed.calm;
        })) point.After

    by : (it : Comes Later) → LaterComes s.code t None it → Safe s.code (with_later s it (starts_call s))
    by (to later) h = starts later (let_go s.code t later h)
    by (faults it) h = site_meets t s instr site other it
    by nowhere h = absurd h

pub defer_safe : (t : Typing) (s : Site) (instr : Instr) → SiteFits t s instr → (it : Call) → instr.op ≡ op.Defer it
    → Safe s.code (acts s instr.register (op.Defer it))
unfolding acts
defer_safe t s instr site it is =
    by (readied s.code s.function s.frame it)
    (deferred_comes t s (op.Defer it) it (subst (Reads t s) is (site_reads t s instr site)) refl refl typed.1)
  where
    typed : (site.of ≡ None) × (fits_deferred s.code s.function it ≡ true)
    typed = defer_typed t s instr site it is

    goes_on : is_end_op instr.op ≡ false
    goes_on = ap is_end_op is

    other : is_new instr ≡ false
    other = ap (λ (at : Op). is_new (record instr { op = at })) is

    may_recover_here : is_some s.function.recover ≡ true
    may_recover_here =
        let allowed = ((typed_of s.code site.safe s.frame.function.number s.function site.fits.there).instrs s.frame.block s.frame.place instr site.at).0 in
        (both (not (typed_code.is_wrapper s.function.kind)) (is_some s.function.recover)
        (subst (λ at. is_allowed s.function at ≡ true) is allowed)).1

    puts : (later : Later) → LaterFits s.code t later → Safe s.code (defers_call s later)
    puts later h =
        let behind = plain_behind t s instr site goes_on typed.0 in
        let begun' = begun_at s.function s.frame instr site.stands site.started site.at other in
        let new : Frame = advanced (record (s.frame) { defers = later ∷ s.frame.defers }) in (
          t,
          frames_closed s.code t s.machine s.goroutine (new ∷ s.below) site.there site.machine site.begin site.calm (
            record {
              function = s.function;
              fits = record {
                there = site.fits.there;
                parameters = site.fits.parameters;
                free = site.fits.free;
                count = site.fits.count;
                registers = site.fits.registers;
                defers = λ n it found. deferred n it found;
                recovers = may_recover_here;
                state = site.fits.state;
              };
              stands = begun (state_stands s.function (advanced s.frame) None s.frame.state (later ∷ s.frame.defers)
                  (next_plain t s instr site goes_on typed.0))
                  (begun_as s.function s.frame new refl begun');
              takes = site.takes;
            },
            site.lower,
          ),
        )
      where
        deferred : (n : ℕ) (it : Later) → slice_get (later ∷ s.frame.defers) n ≡ Some it → LaterFits s.code t it
        deferred zero it found = subst (LaterFits s.code t) (some_same later it found) h
        deferred (suc n) it found = site.fits.defers n it found

    by : (it : Comes Later) → LaterComes s.code t None it → Safe s.code (with_later s it (defers_call s))
    by (to later) h = puts later (let_go s.code t later h)
    by (faults it) h = site_meets t s instr site other it
    by nowhere h = absurd h

pub run_defers_safe : (t : Typing) (s : Site) (instr : Instr) → SiteFits t s instr → instr.op ≡ op.RunDefers
    → Safe s.code (acts s instr.register op.RunDefers)
unfolding acts
run_defers_safe t s instr site is = (
  t,
  frames_closed s.code t s.machine s.goroutine (advanced (returning_where s.frame s.frame.defers) ∷ s.below) site.there
      site.machine site.begin site.calm (by s.frame.defers),
)
  where
    goes_on : is_end_op instr.op ≡ false
    goes_on = ap is_end_op is

    other : is_new instr ≡ false
    other = ap (λ (at : Op). is_new (record instr { op = at })) is

    none : site.of ≡ None
    none = run_defers_typed t s instr site is

    by : (defers : List Later) → AreFrames s.code t (advanced (returning_where s.frame defers) ∷ s.below)
    by [] = plain_behind t s instr site goes_on none
    by (it ∷ others) = (
      record {
        function = s.function;
        fits = moved_fits s.code t s.function s.frame s.frame.block (suc s.frame.place) returning site.fits tt;
        stands = begun (state_stands s.function (advanced s.frame) None returning s.frame.defers
            (next_plain t s instr site goes_on none))
            (begun_as s.function s.frame (advanced (record (s.frame) { state = returning })) refl
            (begun_at s.function s.frame instr site.stands site.started site.at other));
        takes = site.takes;
      },
      site.lower,
    )

pub return_safe : (t : Typing) (s : Site) (instr : Instr) → SiteFits t s instr → (results : List Operand)
    → instr.op ≡ op.Return results → Safe s.code (acts s instr.register (op.Return results))
unfolding acts
return_safe t s instr site results is =
    let reads = subst (Reads t s) is (site_reads t s instr site) in
    let items = values_are t s site.safe.held results s.function.results reads.values (return_typed t s instr site results is) in
    there_safe s.code (returns s) (values_of s.code s.frame results) items.0 items.1.0 (
      t,
      frames_closed s.code t s.machine s.goroutine (given s.frame items.0 s.below) site.there site.machine site.begin site.calm
          (given_frames s.code t s.function s.frame items.0 s.below items.1.1 site.takes site.lower),
    )
