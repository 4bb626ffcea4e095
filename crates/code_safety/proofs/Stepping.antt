-- Each step of a machine that fits is safe, and so is each number of steps of the first machine.
use Rattle.std.proofs.Common.{◌≡◌, ◌⊎◌, inl, inr, ⊎_elim, ◌<◌, ◌+◌, ◌==◌, arith, ℕ, zero, suc, Bool, true, false, not, ◌||◌, List, [], ◌∷◌, length, map, if◌then◌else◌, Option, Some, None, refl, sym, subst, ap, ◌∙◌, slice_get, option_map, bytes_eq, codes, true≢false}
use Rattle.std.proofs.lemmas.Option.{none-some}
use Rattle.std.specs.Bool.{beq}
use Rattle.std.specs.Cmp.{unsigned_Decides}
use Rattle.std.specs.List.{AllZip}
use Rattle.code_safety.specs.Safety.{IsSafe, NeverStuck}
use Rattle.code_safety.proofs.Available.{sane_of, typed_of, elsewhere, written_with, begun_with}
use Rattle.code_safety.proofs.Calling.{call_safe, go_safe, defer_safe, run_defers_safe, return_safe}
use Rattle.code_safety.proofs.Converting.{convert_comes, change_type_comes, make_interface_comes, change_interface_comes, assert_comes, make_closure_comes}
use Rattle.code_safety.proofs.Entering.{begins_safe, unwinds_safe}
use Rattle.code_safety.proofs.Going.{site_reads, site_plain, site_throws, behind_fit, goes_behind_safe, gives_stored_safe, gives_new_safe, gives_value_safe, changes_store_safe, gives_channel_safe, result_fits}
use Rattle.code_safety.proofs.Growing.{grows_self}
use Rattle.code_safety.proofs.Jumping.{jump_safe, if_safe}
use Rattle.code_safety.proofs.Lists.{below_get, get_set, some_same}
use Rattle.code_safety.proofs.Machines.{OpenFits, MachineFits, GoroutineFits, AreFrames, IsTop, TopStands, fresh, begun, lost, Stands, IsBegun, IsFresh, AreBelow, MayThrow, LaterFitsWhere, IsIn, StoresCome, GivesOf, StartFits, is_panicking, Safe}
use Rattle.code_safety.proofs.Making.{new_comes, make_map_comes, make_slice_comes, make_chan_comes}
use Rattle.code_safety.proofs.Mapping.{look_up_comes, update_comes}
use Rattle.code_safety.proofs.Members.{both, member_split}
use Rattle.code_safety.proofs.Opening.{open_with, store_changed, frames_closed, frames_of}
use Rattle.code_safety.proofs.Operands.{any_value}
use Rattle.code_safety.proofs.Operators.{binary_comes, unary_comes}
use Rattle.code_safety.proofs.Places.{load_comes, store_comes, field_comes, extract_comes, field_address_comes, index_comes, index_address_comes, slice_comes}
use Rattle.code_safety.proofs.Ranging.{SameSched, TurnComes, range_comes, next_comes}
use Rattle.code_safety.proofs.Sites.{SiteFits, Reads, IsRegister}
use Rattle.code_safety.proofs.Throwing.{there_safe, panics_safe, spends_safe, sched_smaller}
use Rattle.code_safety.proofs.Values.{Typing, one, HomeFits, IsOf}
use Rattle.code_safety.proofs.Waiting.{send_safe, receive_safe, select_safe}
use Rattle.code_safety.proofs.Zeros.{zero_fits}
use Rattle.go_base.specs.declared.ids.FuncId.{FuncId}
use Rattle.go_base.specs.declared.ids.TypeId.{TypeId}
use Rattle.go_sched.specs.Goroutines.{State, started}
use Rattle.go_store.specs.Stores.{made}
use Rattle.go_value.specs.Values.{Val, pointer}
use Rattle.ssa_ir.specs.Blocks.{instrs_at, is_end_op}
use Rattle.ssa_ir.specs.declared.code.Code.{Code}
use Rattle.ssa_ir.specs.declared.code.CodeVariable.{CodeVariable}
use Rattle.ssa_ir.specs.declared.code.Function.{Function}
use Rattle.ssa_ir.specs.declared.code.FunctionKind.{FunctionKind}
use Rattle.ssa_ir.specs.declared.code.FunctionKind.TheVariants as kind
use Rattle.ssa_ir.specs.declared.operands.Operand.{Operand}
use Rattle.ssa_ir.specs.declared.ops.Instr.{Instr}
use Rattle.ssa_ir.specs.declared.ops.Op.{Op}
use Rattle.ssa_ir.specs.declared.ops.Op.TheVariants as op
use Rattle.ssa_mean.specs.Answers.{Answers, AreAnswers}
use Rattle.ssa_mean.specs.Comes.{to, then_to, of_option}
use Rattle.ssa_mean.specs.Operands.{function_at, with_value}
use Rattle.ssa_mean.specs.Places.{new_pointer}
use Rattle.ssa_mean.specs.Runs as runs_of
use Rattle.ssa_mean.specs.Runs.{first_machine, steps, then_step, starts_of, those_from, is_init_kind, is_main, is_none_left, new_goroutine}
use Rattle.ssa_mean.specs.State.{FrameState, running, returning, panicking, Frame, Goroutine, Machine, Next, goes, ends, stuck, with_register, with_result, with_current, advanced, current}
use Rattle.ssa_mean.specs.Step.{Site, acts, step, steps_on, moves, runs, does, new_map, gives_stored, goes_behind, next_of, turns, value}
use Rattle.ssa_mean.specs.Unwinding.{is_phi, is_source_kind, panics_with}
use Rattle.ssa_mean.specs.Zeros.{zero_of}
use Rattle.ssa_sane.specs.Sane.{is_new}
use Rattle.ssa_typed.specs.Forms.{FitsOp, FitsGiving, fits_giving, fits_alone}
use Rattle.ssa_typed.specs.Operands.{register_at}
use Rattle.ssa_typed.specs.Typed.{FitsRegister, FitsTyped, fits_header, is_bare, is_init, is_external, are_value_types, has_rest}

-- ---- instructions that give a register, and those that give none

record Gives (t : Typing) (s : Site) (instr : Instr) (site : SiteFits t s instr) (at : Op) : Type 0 where
  of : TypeId
  is : site.of ≡ Some of
  typed : FitsGiving s.code s.function at of
  reads : Reads t s at
  goes_on : is_end_op instr.op ≡ is_end_op at
  other : is_new instr ≡ is_new (record instr { op = at })

giving : (t : Typing) (s : Site) (instr : Instr) (site : SiteFits t s instr) (at : Op) → fits_alone s.code s.function at ≡ false
    → instr.op ≡ at → Gives t s instr site at
giving t s instr site at never is = by site.of refl (subst (λ at. FitsOp s.code s.function at site.of) is site.typed)
  where
    by : (of : Option TypeId) → site.of ≡ of → FitsOp s.code s.function at of → Gives t s instr site at
    by None e h = absurd (true≢false (sym h ∙ never))
    by (Some of) e h =
        record {
          of = of;
          is = e;
          typed = h;
          reads = subst (Reads t s) is (site_reads t s instr site);
          goes_on = ap is_end_op is;
          other = ap (λ (at : Op). is_new (record instr { op = at })) is;
        }

record Alone (t : Typing) (s : Site) (instr : Instr) (site : SiteFits t s instr) (at : Op) : Type 0 where
  none : site.of ≡ None
  register : instr.register ≡ None
  typed : fits_alone s.code s.function at ≡ true
  reads : Reads t s at
  goes_on : is_end_op instr.op ≡ is_end_op at
  other : is_new instr ≡ is_new (record instr { op = at })

no_register : (s : Site) (register : Option ℕ) (of : Option TypeId) → IsRegister s.function register of → of ≡ None
    → register ≡ None
no_register s None of is none = refl
no_register s (Some register) of is none = absurd (none-some is.0 (sym none ∙ is.1.0))

alone : (t : Typing) (s : Site) (instr : Instr) (site : SiteFits t s instr) (at : Op)
    → ((of : TypeId) → FitsGiving s.code s.function at of → ⊥) → instr.op ≡ at → Alone t s instr site at
alone t s instr site at never is = by site.of refl (subst (λ at. FitsOp s.code s.function at site.of) is site.typed)
  where
    by : (of : Option TypeId) → site.of ≡ of → FitsOp s.code s.function at of → Alone t s instr site at
    by None e h =
        record {
          none = e;
          register = no_register s instr.register site.of site.register e;
          typed = h;
          reads = subst (Reads t s) is (site_reads t s instr site);
          goes_on = ap is_end_op is;
          other = ap (λ (at : Op). is_new (record instr { op = at })) is;
        }
    by (Some of) e h = absurd (never of h)

-- ---- a new cell

new_safe : (t : Typing) (s : Site) (instr : Instr) (site : SiteFits t s instr) (base : TypeId) → instr.op ≡ op.New base
    → Safe s.code (acts s instr.register (op.New base))
unfolding acts fits_alone
new_safe t s instr site base is =
    let g = giving t s instr site (op.New base) refl is in
    by g (zero_of s.code base) (new_comes t s base g.reads g.of g.typed)
  where
    by : (g : Gives t s instr site (op.New base)) (found : Option Val)
        → StoresCome s.code t g.of
        (then_to (λ (it : Val). record { value = pointer (new_pointer s.machine.store); store = made s.machine.store it }) (of_option found))
        → Safe s.code (gives_stored s instr.register
        (then_to (λ (it : Val). record { value = pointer (new_pointer s.machine.store); store = made s.machine.store it }) (of_option found)))
    by g None h = absurd h
    by g (Some it) h =
        gives_new_safe t s instr site g.goes_on g.of g.is
        (record { value = pointer (new_pointer s.machine.store); store = made s.machine.store it }) h

-- ---- ranges

sched_same : (c : Code) (t : Typing) (m : Machine) (new : State) → SameSched m.sched new → OpenFits c t m
    → OpenFits c t (record m { sched = new })
sched_same c t m new same fits =
    record {
      others = λ n g is other.
          fits.others n g is (λ e. other (e ∙ ap (λ (id : _). id.number) (sym same.current)));
      variables = fits.variables;
      store = fits.store;
      sched = sched_smaller c t m.goroutines m.sched new fits.sched same.goroutines same.channels
          (λ n h. subst (IsIn n) same.runnable h);
      current = subst (λ id. IsIn id.number new.runnable) (sym same.current)
          (subst (IsIn m.sched.current.number) (sym same.runnable) fits.current);
      starts = fits.starts;
    }

-- the site with a register written
record_site : Site → ℕ → Val → Site
record_site s register it =
    record s {
      frame = with_register register it s.frame;
      goroutine = record (s.goroutine) { frames = with_register register it s.frame ∷ s.below };
      machine = with_current (record (s.goroutine) { frames = with_register register it s.frame ∷ s.below }) s.machine;
    }

rewritten_site : (t : Typing) (s : Site) (instr : Instr) → SiteFits t s instr → (register : ℕ) (it : Val) (of : TypeId)
    → slice_get s.function.registers register ≡ Some of → IsOf s.code t it of → SiteFits t (record_site s register it) instr
unfolding record_site
rewritten_site t s instr site register it of held fits =
    record {
      safe = site.safe;
      told = site.told;
      machine = open_with s.code t s.machine (record (s.goroutine) { frames = with_register register it s.frame ∷ s.below }) site.machine;
      there = get_set s.machine.goroutines s.machine.sched.current.number
          (record (s.goroutine) { frames = with_register register it s.frame ∷ s.below }) s.goroutine site.there;
      frames = refl;
      begin = site.begin;
      calm = site.calm;
      fits = result_fits s.code t s.function s.frame (Some register) (Some it) (Some of) (of, (refl, held)) fits site.fits;
      is_running = site.is_running;
      stands = elsewhere s.function s.frame (with_register register it s.frame) None None site.stands refl refl
          (λ n h. ⊎_elim (λ e. inl e) (λ old. inr (written_with s.frame (Some register) (Some it) n old)) h);
      started = ⊎_elim (λ started. inl (begun_with s.function s.frame (Some register) (Some it) started))
          (λ (new : IsFresh s.function s.frame). inr (record { runs = new.runs; first = new.first; news = new.news })) site.started;
      takes = site.takes;
      lower = site.lower;
      at = site.at;
      of = site.of;
      register = site.register;
      typed = site.typed;
      sane = site.sane;
      runnable = site.runnable;
    }

next_safe : (t : Typing) (s : Site) (instr : Instr) → SiteFits t s instr → (it : Operand) → instr.op ≡ op.Next it
    → Safe s.code (acts s instr.register (op.Next it))
unfolding acts fits_alone record_site rewritten_site
next_safe t s instr site it is = by g (next_comes t s it g.reads g.of g.typed)
  where
    g : Gives t s instr site (op.Next it)
    g = giving t s instr site (op.Next it) refl is

    by : (g : Gives t s instr site (op.Next it)) → TurnComes t s it g.of → Safe s.code (next_of s instr.register it)
    by g h =
        subst (λ it. Safe s.code (next_of s instr.register it)) (sym h.is)
        (there_safe s.code (turns s instr.register h.range) _ h.turn h.comes (
          t,
          frames_closed s.code t (record (s.machine) { sched = h.turn.sched }) s.goroutine
              (advanced (with_result instr.register (Some h.turn.value) (with_register h.range h.turn.range s.frame)) ∷ s.below)
              (ap (λ (id : _). slice_get s.machine.goroutines id.number) h.same.current ∙ site.there)
              (sched_same s.code t s.machine h.turn.sched h.same site.machine) site.begin site.calm
              (behind_fit t t (record_site s h.range h.turn.range) instr
              (rewritten_site t s instr site h.range h.turn.range h.state h.held h.range_fits) (grows_self t) g.goes_on
              (Some h.turn.value) (subst (GivesOf s.code t (Some h.turn.value)) (sym g.is) h.value_fits)),
        ))

-- ---- ticks and panics

tick_safe : (t : Typing) (s : Site) (instr : Instr) → SiteFits t s instr → instr.op ≡ op.Tick
    → Safe s.code (acts s instr.register op.Tick)
unfolding acts FitsGiving fits_giving fits_alone
tick_safe t s instr site is =
    let a = alone t s instr site op.Tick (λ of h. true≢false (sym h)) is in
    spends_safe s.code s.machine (goes_behind s None None)
    (λ n. subst (λ (register : Option ℕ). Safe s.code (goes_behind s register None (record (s.machine) { ticks = n }))) a.register
    (goes_behind_safe t t s instr site (grows_self t) a.goes_on None (record (s.machine) { ticks = n })
    (store_changed s.code t t s.machine s.machine.store n s.machine.output (grows_self t) refl site.machine.store site.machine)
    site.there (subst (GivesOf s.code t None) (sym a.none) tt)))

panic_safe : (t : Typing) (s : Site) (instr : Instr) → SiteFits t s instr → (it : Operand) → instr.op ≡ op.Panic it
    → Safe s.code (acts s instr.register (op.Panic it))
unfolding acts FitsGiving fits_giving fits_alone
panic_safe t s instr site it is =
    let a = alone t s instr site (op.Panic it) (λ of h. true≢false (sym h)) is in
    let v = any_value t s site.safe.held it (a.reads.values it (inl refl)) a.typed in
    there_safe s.code (panics_with s.code s.machine) (value s it) v.0 v.1.0
    (panics_safe s.code site.safe t s.machine s.goroutine site.machine site.there site.begin site.calm
    (subst (MayThrow s.code t) (sym site.frames) (site_throws t s instr site a.other)) v.0 v.1.1)

-- ---- each instruction

act_safe : (t : Typing) (s : Site) (instr : Instr) (site : SiteFits t s instr) (at : Op) → instr.op ≡ at
    → Safe s.code (acts s instr.register at)
unfolding acts FitsGiving fits_giving fits_alone
act_safe t s instr site (op.New base) is = new_safe t s instr site base is
act_safe t s instr site (op.Phi edges) is = absurd (true≢false (sym (ap is_phi is) ∙ site_plain t s instr site))
act_safe t s instr site (op.Binary o left right) is =
    let g = giving t s instr site (op.Binary o left right) refl is in
    gives_value_safe t s instr site g.goes_on g.other g.of g.is _ (binary_comes t s o left right g.reads g.of g.typed)
act_safe t s instr site (op.Unary o it) is =
    let g = giving t s instr site (op.Unary o it) refl is in
    gives_value_safe t s instr site g.goes_on g.other g.of g.is _ (unary_comes t s o it g.reads g.of g.typed)
act_safe t s instr site (op.Load at) is =
    let g = giving t s instr site (op.Load at) refl is in
    gives_value_safe t s instr site g.goes_on g.other g.of g.is _ (load_comes t s at g.reads g.of g.typed)
act_safe t s instr site (op.Store at it) is =
    let a = alone t s instr site (op.Store at it) (λ of h. true≢false (sym h)) is in
    changes_store_safe t s instr site a.goes_on a.other a.register _ (store_comes t s at it a.reads a.typed)
act_safe t s instr site (op.Field it field) is =
    let g = giving t s instr site (op.Field it field) refl is in
    gives_value_safe t s instr site g.goes_on g.other g.of g.is _ (field_comes t s it field g.reads g.of g.typed)
act_safe t s instr site (op.FieldAddress it field) is =
    let g = giving t s instr site (op.FieldAddress it field) refl is in
    gives_value_safe t s instr site g.goes_on g.other g.of g.is _ (field_address_comes t s it field g.reads g.of g.typed)
act_safe t s instr site (op.Index it index) is =
    let g = giving t s instr site (op.Index it index) refl is in
    gives_value_safe t s instr site g.goes_on g.other g.of g.is _ (index_comes t s it index g.reads g.of g.typed)
act_safe t s instr site (op.IndexAddress it index) is =
    let g = giving t s instr site (op.IndexAddress it index) refl is in
    gives_value_safe t s instr site g.goes_on g.other g.of g.is _ (index_address_comes t s it index g.reads g.of g.typed)
act_safe t s instr site (op.Lookup it key comma_ok) is =
    let g = giving t s instr site (op.Lookup it key comma_ok) refl is in
    gives_value_safe t s instr site g.goes_on g.other g.of g.is _ (look_up_comes t s it key comma_ok g.reads g.of g.typed)
act_safe t s instr site (op.Update it key new) is =
    let a = alone t s instr site (op.Update it key new) (λ of h. true≢false (sym h)) is in
    changes_store_safe t s instr site a.goes_on a.other a.register _ (update_comes t s it key new a.reads a.typed)
act_safe t s instr site (op.Slice it low high max) is =
    let g = giving t s instr site (op.Slice it low high max) refl is in
    gives_value_safe t s instr site g.goes_on g.other g.of g.is _ (slice_comes t s it low high max g.reads g.of g.typed)
act_safe t s instr site (op.Convert into it) is =
    let g = giving t s instr site (op.Convert into it) refl is in
    gives_stored_safe t s instr site g.goes_on g.other g.of g.is _ (convert_comes t s into it g.reads g.of g.typed)
act_safe t s instr site (op.ChangeType into it) is =
    let g = giving t s instr site (op.ChangeType into it) refl is in
    gives_value_safe t s instr site g.goes_on g.other g.of g.is _ (change_type_comes t s into it g.reads g.of g.typed)
act_safe t s instr site (op.MakeInterface into it) is =
    let g = giving t s instr site (op.MakeInterface into it) refl is in
    gives_value_safe t s instr site g.goes_on g.other g.of g.is _ (make_interface_comes t s into it g.reads g.of g.typed)
act_safe t s instr site (op.ChangeInterface into it) is =
    let g = giving t s instr site (op.ChangeInterface into it) refl is in
    gives_value_safe t s instr site g.goes_on g.other g.of g.is _ (change_interface_comes t s into it g.reads g.of g.typed)
act_safe t s instr site (op.MakeClosure id captured) is =
    let g = giving t s instr site (op.MakeClosure id captured) refl is in
    gives_value_safe t s instr site g.goes_on g.other g.of g.is _ (make_closure_comes t s id captured g.reads g.of g.typed)
act_safe t s instr site (op.MakeMap of) is =
    let g = giving t s instr site (op.MakeMap of) refl is in
    gives_stored_safe t s instr site g.goes_on g.other g.of g.is (to (new_map s)) (make_map_comes t s of g.reads g.of g.typed)
act_safe t s instr site (op.MakeChan of size) is =
    let g = giving t s instr site (op.MakeChan of size) refl is in
    gives_channel_safe t s instr site g.goes_on g.other g.of g.is _
    (make_chan_comes t s of size g.reads g.of g.typed site.machine.sched.chans)
act_safe t s instr site (op.MakeSlice of len most) is =
    let g = giving t s instr site (op.MakeSlice of len most) refl is in
    gives_stored_safe t s instr site g.goes_on g.other g.of g.is _ (make_slice_comes t s of len most g.reads g.of g.typed)
act_safe t s instr site (op.TypeAssert it wanted comma_ok) is =
    let g = giving t s instr site (op.TypeAssert it wanted comma_ok) refl is in
    gives_value_safe t s instr site g.goes_on g.other g.of g.is _ (assert_comes t s it wanted comma_ok g.reads g.of g.typed)
act_safe t s instr site (op.Call call) is = call_safe t s instr site call is
act_safe t s instr site (op.Go call) is = go_safe t s instr site call is
act_safe t s instr site (op.Defer call) is = defer_safe t s instr site call is
act_safe t s instr site op.RunDefers is = run_defers_safe t s instr site is
act_safe t s instr site (op.Send channel it) is = send_safe t s instr site channel it is
act_safe t s instr site (op.Receive channel comma_ok) is = receive_safe t s instr site channel comma_ok is
act_safe t s instr site (op.Select blocking cases) is = select_safe t s instr site blocking cases is
act_safe t s instr site (op.Range it) is =
    let g = giving t s instr site (op.Range it) refl is in
    gives_value_safe t s instr site g.goes_on g.other g.of g.is _ (range_comes t s it g.reads g.of g.typed)
act_safe t s instr site (op.Next it) is = next_safe t s instr site it is
act_safe t s instr site (op.Extract it part) is =
    let g = giving t s instr site (op.Extract it part) refl is in
    gives_value_safe t s instr site g.goes_on g.other g.of g.is _ (extract_comes t s it part g.reads g.of g.typed)
act_safe t s instr site op.Tick is = tick_safe t s instr site is
act_safe t s instr site (op.Jump block) is = jump_safe t s instr site block is
act_safe t s instr site (op.If test block other) is = if_safe t s instr site test block other is
act_safe t s instr site (op.Return results) is = return_safe t s instr site results is
act_safe t s instr site (op.Panic it) is = panic_safe t s instr site it is

pub acts_safe : (t : Typing) (s : Site) (instr : Instr) → SiteFits t s instr → Safe s.code (acts s instr.register instr.op)
acts_safe t s instr site = act_safe t s instr site instr.op refl

is_running : FrameState → Bool
is_running running = true
is_running _ = false

not_running : (state : FrameState) → state ≡ running → is_running state ≡ false → ⊥
unfolding is_running
not_running state e other = true≢false (sym (ap is_running e) ∙ other)

-- ---- a step

-- the type of the register that an instruction gives
record TypedAs (c : Code) (f : Function) (at : Op) (register : Option ℕ) : Type 0 where
  of : Option TypeId
  is : IsRegister f register of
  typed : FitsOp c f at of

typed_as : (c : Code) (f : Function) (at : Op) (before : List ℕ) (register : Option ℕ) → FitsRegister c f at before register
    → TypedAs c f at register
typed_as c f at before None h = record { of = None; is = refl; typed = h }
typed_as c f at before (Some register) h = by (register_at f register) refl h.0
  where
    by : (found : Option TypeId) → register_at f register ≡ found → FitsTyped c f at found → TypedAs c f at (Some register)
    by None e h = absurd h
    by (Some of) e h = record { of = Some of; is = (of, (refl, e)); typed = h }

runs_safe : (c : Code) → IsSafe c → (answers : Answers) → AreAnswers c.types answers → (t : Typing) (m : Machine) (g : Goroutine)
    (top : Frame) (below : List Frame) → OpenFits c t m → slice_get m.goroutines m.sched.current.number ≡ Some g
    → g.frames ≡ top ∷ below → LaterFitsWhere c t g.begin → g.fault ≡ None → (is : IsTop c t top below)
    → AreBelow c t top.result below → top.state ≡ running
    → Safe c (runs answers c m g top below (function_at c top.function))
runs_safe c safe answers told t m g top below fits there frames begin calm is lower state =
    subst (λ found. Safe c (runs answers c m g top below found)) (sym is.fits.there)
    (by (standing is.stands))
  where
    standing : TopStands is.function top
        → Stands is.function top None × (IsBegun is.function top ⊎ IsFresh is.function top)
    standing (fresh stands new) = (stands, inr new)
    standing (begun stands started) = (stands, inl started)
    standing (lost thrown none defers) = absurd (true≢false (sym thrown ∙ ap is_panicking state))

    by : Stands is.function top None × (IsBegun is.function top ⊎ IsFresh is.function top)
        → Safe c (runs answers c m g top below (Some is.function))
    by stands =
        let found = below_get (instrs_at is.function top.block) top.place stands.0.within in
        let s : Site = record {
          code = c;
          answers = answers;
          machine = m;
          goroutine = g;
          below = below;
          frame = top;
          function = is.function;
        } in
        let typed = (typed_of c safe top.function.number is.function is.fits.there).instrs top.block top.place found.0 found.1 in
        let known = typed_as c is.function found.0.op _ found.0.register typed.1 in
        subst (λ found. Safe c (does s found)) (sym found.1)
        (acts_safe t s found.0
        (record {
          safe = safe;
          told = told;
          machine = fits;
          there = there;
          frames = frames;
          begin = begin;
          calm = calm;
          fits = is.fits;
          is_running = state;
          stands = stands.0;
          started = stands.1;
          takes = is.takes;
          lower = lower;
          at = found.1;
          of = known.of;
          register = known.is;
          typed = known.typed;
          sane = (sane_of c safe top.function.number is.function is.fits.there).instrs top.block top.place found.0 found.1;
          runnable = safe.runnable.instrs top.function.number top.block top.place is.function found.0 is.fits.there found.1;
        }))

pub step_safe : (c : Code) → IsSafe c → (answers : Answers) → AreAnswers c.types answers → (t : Typing) (m : Machine)
    → MachineFits c t m → Safe c (step answers c m)
unfolding step is_running
step_safe c safe answers told t m fits =
    there_safe c (λ (g : Goroutine). steps_on answers c m g g.frames) (current m) fits.g fits.there
    (by fits.g.frames refl (frames_of c t m fits))
  where
    moving : (top : Frame) (below : List Frame) → fits.g.frames ≡ top ∷ below → IsTop c t top below → AreBelow c t top.result below
        → (state : FrameState) → top.state ≡ state → Safe c (moves answers c m fits.g top below state)
    moving top below e is lower running state =
        runs_safe c safe answers told t m fits.g top below fits.opened fits.there e fits.fits.begin fits.calm is lower state
    moving top below e is lower returning state =
        unwinds_safe c safe answers told t m fits.g top below fits.opened fits.there e fits.fits.begin fits.calm is lower
        (λ runs. not_running returning (sym state ∙ runs) refl)
    moving top below e is lower (panicking thrown) state =
        unwinds_safe c safe answers told t m fits.g top below fits.opened fits.there e fits.fits.begin fits.calm is lower
        (λ runs. not_running (panicking thrown) (sym state ∙ runs) refl)

    by : (frames : List Frame) → fits.g.frames ≡ frames → AreFrames c t frames → Safe c (steps_on answers c m fits.g frames)
    by [] e are = begins_safe c safe answers told t m fits.g fits fits.there e
    by (top ∷ below) e are = moving top below e are.0 are.1 top.state refl

-- ---- the first machine

first_typing : Code → Typing
first_typing c = record { cells = map (λ (it : CodeVariable). one it.of) c.variables; maps = []; chans = [] }

cells_fit : (c : Code) (t : Typing) (variables : List CodeVariable) (cells : List Val) → runs_of.first_cells c variables ≡ Some cells
    → AllZip (HomeFits c t) cells (map (λ (it : CodeVariable). one it.of) variables)
cells_fit c t [] cells is = subst (λ cells. AllZip (HomeFits c t) cells []) (some_same [] cells is) tt
cells_fit c t (it ∷ variables) cells is =
    by (zero_of c it.of) refl (runs_of.first_cells c variables) is (cells_fit c t variables)
  where
    by : (zero_value : Option Val) → zero_of c it.of ≡ zero_value → (rest : Option (List Val)) → with_value zero_value rest ≡ Some cells
        → ((others : List Val) → rest ≡ Some others
        → AllZip (HomeFits c t) others (map (λ (it : CodeVariable). one it.of) variables))
        → AllZip (HomeFits c t) cells (one it.of ∷ map (λ (it : CodeVariable). one it.of) variables)
    by None e rest is each = absurd (none-some cells is)
    by (Some v) e None is each = absurd (none-some cells is)
    by (Some v) e (Some others) is each =
        subst (λ cells. AllZip (HomeFits c t) cells (one it.of ∷ map (λ (it : CodeVariable). one it.of) variables))
        (some_same (v ∷ others) cells is) (zero_fits c t it.of v e, each others refl)

variables_there : (variables : List CodeVariable) (n : ℕ) (it : CodeVariable) → slice_get variables n ≡ Some it
    → slice_get (map (λ (it : CodeVariable). one it.of) variables) n ≡ Some (one it.of)
variables_there [] n it is = absurd (none-some it is)
variables_there (v ∷ variables) zero it is = ap (λ (it : CodeVariable). Some (one it.of)) (some_same v it is)
variables_there (v ∷ variables) (suc n) it is = variables_there variables n it is

-- the functions of numbers that pass a test
record Passes (test : Function → Bool) (functions : List Function) (first : ℕ) (id : FuncId) : Type 0 where
  place : ℕ
  function : Function
  there : slice_get functions place ≡ Some function
  number : id.number ≡ first + place
  passes : test function ≡ true

passing : (test : Function → Bool) (functions : List Function) (first k : ℕ) (id : FuncId)
    → slice_get (those_from first test functions) k ≡ Some id → Passes test functions first id
passing test [] first k id is = absurd (none-some id is)
passing test (function ∷ functions) first k id is =
    by (test function) refl k is (λ k is. passing test functions (suc first) k id is)
  where
    later : Passes test functions (suc first) id → Passes test (function ∷ functions) first id
    later h =
        record {
          place = suc h.place;
          function = h.function;
          there = h.there;
          number = omega (arith, h.number);
          passes = h.passes;
        }

    by : (b : Bool) → test function ≡ b → (k : ℕ)
        → slice_get (if b then record { number = first } ∷ those_from (suc first) test functions
        else those_from (suc first) test functions) k ≡ Some id
        → ((k : ℕ) → slice_get (those_from (suc first) test functions) k ≡ Some id → Passes test functions (suc first) id)
        → Passes test (function ∷ functions) first id
    by true e zero is rest =
        record {
          place = 0;
          function = function;
          there = refl;
          number = ap (λ (id : FuncId). id.number) (sym (some_same (record { number = first }) id is)) ∙ omega arith;
          passes = e;
        }
    by true e (suc k) is rest = later (rest k is)
    by false e k is rest = later (rest k is)

none_left : {A : Type 0} (xs : List A) → is_none_left xs ≡ true → xs ≡ []
none_left [] h = refl
none_left (x ∷ xs) h = absurd (true≢false (sym h))

no_length : {A : Type 0} (xs : List A) → (length xs == 0) ≡ true → xs ≡ []
no_length [] h = refl
no_length (x ∷ xs) h = absurd (let e = (unsigned_Decides (length (x ∷ xs)) 0).0 h in omega arith)

init_bare : (c : Code) (f : Function) → fits_header c f ≡ true → is_init_kind f.kind ≡ true → (f.params ≡ []) × (f.free ≡ [])
init_bare c f header init =
    let one = both (are_value_types c.types f.params) _ header in
    let two = both (are_value_types c.types f.free) _ one.1 in
    let three = both (are_value_types c.types f.results) _ two.1 in
    let four = both (has_rest c.types f.variadic f.params) _ three.1 in
    let five = both (beq (is_external f.kind) (length f.blocks == 0)) _ four.1 in
    let bare = is_bare_of f.kind init five.1 in
    let params = both (length f.params == 0) _ bare in
    let free = both (length f.free == 0) _ params.1 in
    (no_length f.params params.0, no_length f.free free.0)
  where
    is_bare_of : (it : FunctionKind) → is_init_kind it ≡ true → (not (is_init it) || is_bare f) ≡ true → is_bare f ≡ true
    is_bare_of kind.Init init h = h
    is_bare_of _ init h = absurd (true≢false (sym init))

start_fits : (c : Code) → IsSafe c → (n : ℕ) (id : FuncId) → slice_get (starts_of c) n ≡ Some id → StartFits c id
start_fits c safe n id is =
    ⊎_elim (λ m. init (passing (λ f. is_init_kind f.kind) c.functions 0 m.0 id m.1))
    (λ m. main (passing is_main c.functions 0 m.0 id m.1))
    (member_split (those_from 0 (λ f. is_init_kind f.kind) c.functions) (those_from 0 is_main c.functions) id (n, is))
  where
    found : (test : Function → Bool) (h : Passes test c.functions 0 id) → slice_get c.functions id.number ≡ Some h.function
    found test h = ap (slice_get c.functions) (h.number ∙ omega arith) ∙ h.there

    init : Passes (λ f. is_init_kind f.kind) c.functions 0 id → StartFits c id
    init h =
        let there = found (λ f. is_init_kind f.kind) h in
        let bare = init_bare c h.function (typed_of c safe id.number h.function there).header h.passes in
        record { function = h.function; there = there; params = bare.0; free = bare.1 }

    main : Passes is_main c.functions 0 id → StartFits c id
    main h =
        let one = both (is_source_kind h.function.kind) _ h.passes in
        let two = both (bytes_eq h.function.name (codes "main.main")) _ one.1 in
        let three = both (is_none_left h.function.params) _ two.1 in
        let four = both (is_none_left h.function.free) _ three.1 in
        record {
          function = h.function;
          there = found is_main h;
          params = none_left h.function.params three.0;
          free = none_left h.function.free four.0;
        }

begun_machine : Code → List ℕ → ℕ → List Val → Machine
begun_machine c choices bound cells =
    record {
      goroutines = new_goroutine ∷ [];
      starts = starts_of c;
      store = record { cells = cells; maps = [] };
      sched = started choices false;
      ticks = bound;
      output = [];
    }

begun_fits : (c : Code) → IsSafe c → (choices : List ℕ) (bound : ℕ) (cells : List Val)
    → runs_of.first_cells c c.variables ≡ Some cells → MachineFits c (first_typing c) (begun_machine c choices bound cells)
unfolding begun_machine first_typing
begun_fits c safe choices bound cells is =
    record {
      opened = record {
        others = λ n g there other. alone_there n g there other;
        variables = variables_there c.variables;
        store = record { cells = cells_fit c (first_typing c) c.variables cells is; maps = tt };
        sched = record {
          count = refl;
          below = λ n h. ⊎_elim (λ e. subst (λ n. n < 1) e (omega arith)) (λ nothing. absurd nothing) h;
          chans = refl;
          channels = λ k chan elem there held. absurd (none-some chan there);
        };
        current = inl refl;
        starts = start_fits c safe;
      };
      g = new_goroutine;
      there = refl;
      fits = record { frames = tt; begin = tt };
      calm = refl;
    }
  where
    alone_there : (n : ℕ) (g : Goroutine) → slice_get (new_goroutine ∷ []) n ≡ Some g → (n ≡ 0 → ⊥) → GoroutineFits c (first_typing c) g
    alone_there zero g there other = absurd (other refl)
    alone_there (suc n) g there other = absurd (none-some g there)

pub first_fits : (c : Code) → IsSafe c → (choices : List ℕ) (bound : ℕ) (m : Machine) → first_machine c choices bound ≡ Some m
    → (t : Typing) × MachineFits c t m
unfolding first_machine begun_machine
first_fits c safe choices bound m is = by (runs_of.first_cells c c.variables) refl is
  where
    by : (found : Option (List Val)) → runs_of.first_cells c c.variables ≡ found
        → option_map (begun_machine c choices bound) found ≡ Some m → (t : Typing) × MachineFits c t m
    by None e is = absurd (none-some m is)
    by (Some cells) e is = (
      first_typing c,
      subst (MachineFits c (first_typing c)) (some_same (begun_machine c choices bound cells) m is)
          (begun_fits c safe choices bound cells e),
    )

-- ---- runs

pub steps_safe : (c : Code) → IsSafe c → (answers : Answers) → AreAnswers c.types answers → (count : ℕ) (t : Typing) (m : Machine)
    → MachineFits c t m → Safe c (steps count answers c m)
steps_safe c safe answers told zero t m fits = (t, fits)
steps_safe c safe answers told (suc n) t m fits =
    then_safe (step answers c m) (step_safe c safe answers told t m fits) (steps_safe c safe answers told n)
  where
    then_safe : (next : Next) → Safe c next → ((t : Typing) (m : Machine) → MachineFits c t m → Safe c (steps n answers c m))
        → Safe c (then_step (steps n answers c) next)
    then_safe (goes next) h each = each h.0 next h.1
    then_safe (ends ending output) h each = tt
    then_safe stuck h each = h

pub never_stuck : NeverStuck
never_stuck code choices bound answers safe told is =
    let first = first_fits code safe choices bound is.first is.begins in
    subst (Safe code) is.leads (steps_safe code safe answers told is.count first.0 is.first first.1)
