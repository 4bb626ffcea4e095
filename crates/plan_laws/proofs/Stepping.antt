-- Steps: the code's machine makes one, and the plan's one or none.
use Rattle.std.proofs.Common.{arith, ◌≡◌, ℕ, suc, Bool, true, false, List, [], ◌∷◌, ◌++◌, Option, Some, None, ap, refl, sym, subst, subst₂, ◌∙◌, pred, zero}
use Rattle.std.proofs.lemmas.Option.{none-some}
use Rattle.std.specs.Prelude.{◌<◌, drop, length, slice_get}
use Rattle.std.specs.Option.{option_map}
use Rattle.code_plan.specs.Forms as forms
use Rattle.code_plan.specs.Forms.{IsStep, LeadsOn, on, jump_of, next_of}
use Rattle.code_plan.specs.Plans.{Goes, here, late, made}
use Rattle.code_plan.specs.Registers.{Marks, Pending, before, behind, may_give}
use Rattle.code_plan.specs.declared.steps.PlannedBlock.{PlannedBlock}
use Rattle.code_plan.specs.declared.steps.Step.{Step}
use Rattle.code_plan.specs.declared.steps.Step.TheVariants as act
use Rattle.go_base.specs.declared.ids.BlockId.{BlockId}
use Rattle.go_store.specs.Stores.{Stored}
use Rattle.go_value.specs.Values.{Val}
use Rattle.plan_laws.proofs.Acting.{Acting, IsActing, site_of, plan_site, acting_on}
use Rattle.plan_laws.proofs.Alike.{Known, IsKnown, IsMachine, Follows, IsAround, AreFrames, ArePendingIn, RunsWhere, IsLaterWhere, IsTopFrame, AreBelow}
use Rattle.plan_laws.proofs.Alike.{IsPlaced, standing, on_way, IsTop, placed, lost, sources_in, shown_state, is_panicking}
use Rattle.plan_laws.proofs.Alike.{ArePending}
use Rattle.plan_laws.proofs.Lists.{at_drop, past_drop, some_same}
use Rattle.plan_laws.proofs.Calling.{call_alike, defer_alike}
use Rattle.plan_laws.proofs.Closing.{make_closure_alike}
use Rattle.plan_laws.proofs.Mapping.{lookup_alike, update_alike, range_alike, tick_alike}
use Rattle.plan_laws.proofs.Ranging.{next_alike}
use Rattle.plan_laws.proofs.Converting.{change_type_alike, change_interface_alike, make_interface_alike, assert_alike, convert_alike}
use Rattle.plan_laws.proofs.Beginning.{begins_alike}
use Rattle.plan_laws.proofs.Blocks.{function_of, planned_block, begins}
use Rattle.plan_laws.proofs.Frames.{frame_moved}
use Rattle.plan_laws.proofs.Jumping.{jump_alike, if_alike, no_front}
use Rattle.plan_laws.proofs.Making.{new_alike, make_chan_alike, make_map_alike, make_slice_alike}
use Rattle.plan_laws.proofs.Operators.{binary_alike, unary_alike}
use Rattle.plan_laws.proofs.Places.{load_alike, store_alike, field_alike, extract_alike, field_address_alike, index_alike, index_address_alike, slice_alike}
use Rattle.plan_laws.proofs.Late.{IsRunning, Moves, waits, follows, after_load, late_running, late_step, planned_on, site_at}
use Rattle.plan_laws.proofs.Reading.{one_value}
use Rattle.plan_laws.proofs.Starting.{go_alike}
use Rattle.plan_laws.proofs.Throwing.{panics_alike}
use Rattle.plan_laws.proofs.Unwinding.{return_alike, run_defers_alike}
use Rattle.plan_laws.proofs.Values.{IsAlike}
use Rattle.plan_laws.proofs.Waiting.{send_alike, receive_alike, select_alike}
use Rattle.plan_mean.specs.Unwinding as planned_unwinding
use Rattle.ssa_ir.specs.declared.operands.Operand.{Operand}
use Rattle.ssa_mean.specs.Operands.{value_of}
use Rattle.ssa_mean.specs.Unwinding as steps_of
use Rattle.plan_laws.proofs.Around.{around_with, there_with}
use Rattle.plan_laws.proofs.Lists.{same_count}
use Rattle.plan_laws.proofs.Slots.{none_pending}
use Rattle.plan_laws.proofs.Unwinding.{unwinds_alike}
use Rattle.plan_mean.specs.Slots.{top_of, below_top}
use Rattle.plan_mean.specs.State as plans
use Rattle.plan_mean.specs.Step as planned
use Rattle.ssa_ir.specs.Blocks.{instrs_at}
use Rattle.ssa_ir.specs.declared.code.Code.{Code}
use Rattle.ssa_ir.specs.declared.code.Function.{Function}
use Rattle.ssa_ir.specs.declared.operands.Operand.TheVariants as operand
use Rattle.ssa_ir.specs.declared.ops.Instr.{Instr}
use Rattle.ssa_ir.specs.declared.ops.Op.{Op}
use Rattle.ssa_ir.specs.declared.ops.Op.TheVariants as op
use Rattle.ssa_mean.specs.State as codes
use Rattle.ssa_mean.specs.State.{FrameState, running, returning, panicking}
use Rattle.ssa_mean.specs.Places.{load}
use Rattle.ssa_mean.specs.Step as steps
use Rattle.ssa_mean.specs.Unwinding.{is_source, phis_first}

-- after some steps of the code alone, both machines make a step that leads them to what is alike
pub data Soon (k : Known) : codes.Machine → plans.Machine → Type 0 where
  now : (m : codes.Machine) (q : plans.Machine)
      → Follows k (steps.step k.w.answers k.code m) (planned.step k.w q) → Soon k m q
  later : (m next : codes.Machine) (q : plans.Machine)
      → steps.step k.w.answers k.code m ≡ codes.goes next → Soon k next q → Soon k m q

-- ---- nothing is pending where the top frame does not run

none_late : (pending : Pending) (frame : codes.Frame) → RunsWhere pending frame → (frame.state ≡ running → ⊥) → pending ≡ []
none_late [] frame runs other = refl
none_late (load ∷ loads) frame runs other = absurd (other runs)

-- ---- a frame that returns or panics

other_state : (k : Known) → IsKnown k → (pending : Pending) (m : codes.Machine) (q : plans.Machine) (g : codes.Goroutine)
    (frame : codes.Frame) (below : List codes.Frame) (it : plans.Frame) (others : List plans.Frame) → IsAround k m q
    → slice_get m.goroutines m.sched.current.number ≡ Some g → IsTopFrame k pending frame (top_of q.current.slots) it below
    → AreBelow k below (below_top q.current.slots) others → IsLaterWhere g.begin q.current.begin → q.current.fault ≡ g.fault
    → q.current.sources ≡ sources_in k (frame ∷ below) → RunsWhere pending frame → (frame.state ≡ running → ⊥)
    → Follows k (steps.unwinds k.w.answers k.code m g frame below frame.defers)
    (planned.unwinds k.w (record q { current = record (q.current) { frames = it ∷ others } }) it others it.defers)
other_state k known pending m q g frame below it others around there top lower begin fault sources runs other =
    unwinds_alike k known m q g frame below it others (record {
      around = around;
      there = there;
      top = subst (λ pending. IsTopFrame k pending frame (top_of q.current.slots) it below) (none_late pending frame runs other)
          top;
      lower = lower;
      begin = begin;
      fault = fault;
      sources = sources;
    })

is_running : FrameState → Bool
is_running running = true
is_running _ = false

-- ---- an instruction and its step

-- what is pending where operands are read
pending_before : (it : Op) (marks : Marks) (store : Stored) (pending : Pending) (frame : codes.Frame)
    → ArePending marks store pending frame → ArePending marks store (before it pending) frame
pending_before (op.Send channel value) marks store pending frame are = none_pending marks store frame
pending_before (op.Receive channel comma_ok) marks store pending frame are = none_pending marks store frame
pending_before (op.Select blocking cases) marks store pending frame are = none_pending marks store frame
pending_before _ marks store pending frame are = are

abbrev pub acting_at : codes.Machine → plans.Machine → codes.Goroutine → Function → codes.Frame → List codes.Frame → plans.Frame
    → List plans.Frame → Pending → Acting
acting_at m q g function frame below it others pending =
    record {
      m = m;
      g = g;
      frame = frame;
      below = below;
      function = function;
      q = q;
      planned = it;
      others = others;
      pending = pending;
    }

is_acting : (k : Known) (pending : Pending) (m : codes.Machine) (q : plans.Machine) (g : codes.Goroutine)
    (function : Function) (frame : codes.Frame) (below : List codes.Frame) (it : plans.Frame) (others : List plans.Frame)
    → IsRunning k pending m q g function frame below it others → (instr : Op) (step : Step)
    → IsPlaced k function (behind step (before instr pending)) (codes.advanced frame) (plans.advanced it)
    → IsActing k (acting_at m q g function frame below it others (before instr pending)) step
is_acting k pending m q g function frame below it others is instr step place =
    record {
      top = record {
        is = is.is;
        result = is.result;
        below = is.lower;
        around = is.around;
        there = is.there;
        frames = is.frames;
        begin = is.begin;
        fault = is.fault;
        sources = is.sources;
      };
      runs = is.runs;
      held = pending_before instr (k.marks frame.function.number) m.store pending frame is.held;
      place = place;
    }

-- a panic with a value
panic_alike : (it : Operand) → IsAlike (op.Panic it)
unfolding steps.acts planned.acts
panic_alike it k known a register (act.Panic arg) may is acting =
    subst (λ (found : Option Val). Follows k (codes.where_there (steps_of.panics_with k.code a.m) (value_of k.code a.frame it))
    (plans.where_there (planned_unwinding.panics_with k.w (acting_on a)) found))
    (sym (one_value k a (act.Panic arg) acting it arg is))
    (where_value (value_of k.code a.frame it))
  where
    where_value : (found : Option Val)
        → Follows k (codes.where_there (steps_of.panics_with k.code a.m) found)
        (plans.where_there (planned_unwinding.panics_with k.w (acting_on a)) found)
    where_value None = tt
    where_value (Some value) = panics_alike k known a (act.Panic arg) acting value
panic_alike it k known a register _ may is acting = absurd is

-- whether a goroutine may wait at an instruction
abbrev pub may_wait : Op → Bool
may_wait (op.Send channel value) = true
may_wait (op.Receive channel comma_ok) = true
may_wait (op.Select blocking cases) = true
may_wait _ = false

-- each instruction that is no late load
acts_alike : (k : Known) → IsKnown k → (a : Acting) (register : Option ℕ) (it : Op) (step : Step)
    → may_give (k.marks a.frame.function.number) it register ≡ true → IsStep (plan_site k a) register it step
    → IsActing k a step → (may_wait it ≡ true → IsPlaced k a.function [] a.frame a.planned)
    → Follows k (steps.acts (site_of k a) register it) (planned.acts k.w (acting_on a) step)
unfolding steps.acts
acts_alike k known a register (op.New of) step may is acting stays = new_alike of k known a register step may is acting
acts_alike k known a register (op.Phi edges) step may is acting stays = tt
acts_alike k known a register (op.Binary o left right) step may is acting stays = binary_alike o left right k known a register step may is acting
acts_alike k known a register (op.Unary o it) step may is acting stays = unary_alike o it k known a register step may is acting
acts_alike k known a register (op.Load at) step may is acting stays = load_alike at k known a register step may is acting
acts_alike k known a register (op.Store at it) step may is acting stays = store_alike at it k known a register step may is acting
acts_alike k known a register (op.Field it field) step may is acting stays = field_alike it field k known a register step may is acting
acts_alike k known a register (op.FieldAddress it field) step may is acting stays = field_address_alike it field k known a register step may is acting
acts_alike k known a register (op.Index it index) step may is acting stays = index_alike it index k known a register step may is acting
acts_alike k known a register (op.IndexAddress it index) step may is acting stays = index_address_alike it index k known a register step may is acting
acts_alike k known a register (op.Lookup it key comma_ok) step may is acting stays = lookup_alike it key comma_ok k known a register step may is acting
acts_alike k known a register (op.Update it key new) step may is acting stays = update_alike it key new k known a register step may is acting
acts_alike k known a register (op.Slice it low high max) step may is acting stays = slice_alike it low high max k known a register step may is acting
acts_alike k known a register (op.Convert of it) step may is acting stays = convert_alike of it k known a register step may is acting
acts_alike k known a register (op.ChangeType of it) step may is acting stays = change_type_alike of it k known a register step may is acting
acts_alike k known a register (op.MakeInterface of it) step may is acting stays = make_interface_alike of it k known a register step may is acting
acts_alike k known a register (op.ChangeInterface of it) step may is acting stays = change_interface_alike of it k known a register step may is acting
acts_alike k known a register (op.MakeClosure id captured) step may is acting stays = make_closure_alike id captured k known a register step may is acting
acts_alike k known a register (op.MakeMap of) step may is acting stays = make_map_alike of k known a register step may is acting
acts_alike k known a register (op.MakeChan of size) step may is acting stays = make_chan_alike of size k known a register step may is acting
acts_alike k known a register (op.MakeSlice of len cap) step may is acting stays = make_slice_alike of len cap k known a register step may is acting
acts_alike k known a register (op.TypeAssert it of comma_ok) step may is acting stays = assert_alike it of comma_ok k known a register step may is acting
acts_alike k known a register (op.Call call) step may is acting stays = call_alike call k known a register step may is acting
acts_alike k known a register (op.Go call) step may is acting stays = go_alike call k known a register step may is acting
acts_alike k known a register (op.Defer call) step may is acting stays = defer_alike call k known a register step may is acting
acts_alike k known a register op.RunDefers step may is acting stays = run_defers_alike k known a register step may is acting
acts_alike k known a register (op.Send channel it) step may is acting stays = send_alike channel it k known a register step may is acting (stays refl)
acts_alike k known a register (op.Receive channel comma_ok) step may is acting stays = receive_alike channel comma_ok k known a register step may is acting (stays refl)
acts_alike k known a register (op.Select blocking cases) step may is acting stays = select_alike blocking cases k known a register step may is acting (stays refl)
acts_alike k known a register (op.Range it) step may is acting stays = range_alike it k known a register step may is acting
acts_alike k known a register (op.Next it) step may is acting stays = next_alike it k known a register step may is acting
acts_alike k known a register (op.Extract it part) step may is acting stays = extract_alike it part k known a register step may is acting
acts_alike k known a register op.Tick step may is acting stays = tick_alike k known a register step may is acting
acts_alike k known a register (op.Jump block) step may is acting stays = jump_alike block k known a register step may is acting
acts_alike k known a register (op.If test one other) step may is acting stays = if_alike test one other k known a register step may is acting
acts_alike k known a register (op.Return results) step may is acting stays = return_alike results k known a register step may is acting
acts_alike k known a register (op.Panic it) step may is acting stays = panic_alike it k known a register step may is acting

-- an instruction at which a goroutine may wait is planned with nothing pending, whatever was
waits_at : (k : Known) (function : Function) (pending last : Pending) (frame : codes.Frame) (it : plans.Frame) (first : Instr)
    (instrs : List Instr) (step : Step) (rest : List Step) → may_wait first.op ≡ true
    → may_give (k.marks frame.function.number) first.op first.register ≡ true
    → IsStep (record { code = k.code; function = function; marks = k.marks frame.function.number; pending = before first.op pending })
    first.register first.op step
    → Goes k.code function (k.marks frame.function.number) (behind step (before first.op pending)) instrs rest last
    → Goes k.code function (k.marks frame.function.number) [] (first ∷ instrs) (step ∷ rest) last
waits_at k function pending last frame it first instrs step rest may_stay may is_step goes =
    let none : before first.op pending ≡ before first.op [] = both_none first.op may_stay in
    made [] last first instrs step rest may
    (subst (λ p. IsStep (record { code = k.code; function = function; marks = k.marks frame.function.number; pending = p })
    first.register first.op step) none is_step)
    (subst (λ p. Goes k.code function (k.marks frame.function.number) (behind step p) instrs rest last) none goes)
  where
    both_none : (it : Op) → may_wait it ≡ true → before it pending ≡ before it []
    both_none (op.Send channel value) stays = refl
    both_none (op.Receive channel comma_ok) stays = refl
    both_none (op.Select blocking cases) stays = refl
    both_none _ stays = let clash : false ≡ true = stays in absurd cc

-- where a frame stands, and its planned frame, whatever comes behind
pub record StandsAt (frame : codes.Frame) (it : plans.Frame) : Type 0 where
  pub same : it.block ≡ frame.block
  pub block : PlannedBlock
  pub is : slice_get it.function.blocks.items frame.block ≡ Some block
  pub steps : it.steps ≡ block.steps.items

-- a machine whose top frame runs does what stands there
step_is : (k : Known) (pending : Pending) (m : codes.Machine) (q : plans.Machine) (g : codes.Goroutine)
    (function : Function) (frame : codes.Frame) (below : List codes.Frame) (it : plans.Frame) (others : List plans.Frame)
    → IsRunning k pending m q g function frame below it others
    → steps.step k.w.answers k.code m
    ≡ steps.does (site_at k m g function frame below) (slice_get (instrs_at function frame.block) frame.place)
unfolding steps.step
step_is k pending m q g function frame below it others is =
    ap (codes.where_there (λ g. steps.steps_on k.w.answers k.code m g g.frames)) is.there
    ∙ ap (steps.steps_on k.w.answers k.code m g) is.frames
    ∙ ap (steps.moves k.w.answers k.code m g frame below) is.runs
    ∙ ap (steps.runs k.w.answers k.code m g frame below) is.is.there

planned_step_is : (k : Known) (pending : Pending) (m : codes.Machine) (q : plans.Machine) (g : codes.Goroutine)
    (function : Function) (frame : codes.Frame) (below : List codes.Frame) (it : plans.Frame) (others : List plans.Frame)
    → IsRunning k pending m q g function frame below it others
    → planned.step k.w (planned_on q it others)
    ≡ planned.does k.w (planned_on q it others) it others (slice_get it.steps it.step)
unfolding planned.step
planned_step_is k pending m q g function frame below it others is =
    ap (planned.moves k.w (planned_on q it others) it others) (is.is.state ∙ ap shown_state is.runs)

soon_running : (k : Known) (pending : Pending) (m : codes.Machine) (q : plans.Machine) (g : codes.Goroutine)
    (function : Function) (frame : codes.Frame) (below : List codes.Frame) (it : plans.Frame) (others : List plans.Frame)
    → IsRunning k pending m q g function frame below it others
    → Moves k (λ m. Soon k m (planned_on q it others))
    (steps.does (site_at k m g function frame below) (slice_get (instrs_at function frame.block) frame.place))
    (planned.does k.w (planned_on q it others) it others (slice_get it.steps it.step))
    → Soon k m (planned_on q it others)
soon_running k pending m q g function frame below it others is (waits m' same rest) =
    later m m' (planned_on q it others) (step_is k pending m q g function frame below it others is ∙ same) rest
soon_running k pending m q g function frame below it others is (follows alike) =
    now m (planned_on q it others)
    (subst (Follows k (steps.step k.w.answers k.code m))
    (sym (planned_step_is k pending m q g function frame below it others is))
    (subst (λ next. Follows k next (planned.does k.w (planned_on q it others) it others (slice_get it.steps it.step)))
    (sym (step_is k pending m q g function frame below it others is)) alike))

-- what comes first of the instructions of a block, and of their steps
pub data First (code : Code) (function : Function) (marks : Marks) (pending : Pending) (all : List Instr) (its : List Step)
    (last : Pending) : Type 0 where
  nothing : all ≡ [] → First code function marks pending all its last
  loads : (instr : Instr) (rest : List Instr) (register cell : ℕ) → all ≡ instr ∷ rest
      → instr.op ≡ op.Load (operand.Register cell) → instr.register ≡ Some register → marks.late register ≡ true
      → marks.cell register ≡ false → register < length function.registers → marks.cell cell ≡ true
      → marks.late cell ≡ false → Goes code function marks (pending ++ (register, cell) ∷ []) rest its last
      → First code function marks pending all its last
  does : (instr : Instr) (rest : List Instr) (step : Step) (more : List Step) → all ≡ instr ∷ rest → its ≡ step ∷ more
      → may_give marks instr.op instr.register ≡ true
      → IsStep (record { code = code; function = function; marks = marks; pending = before instr.op pending })
      instr.register instr.op step
      → Goes code function marks (behind step (before instr.op pending)) rest more last
      → First code function marks pending all its last

first_of : (code : Code) (function : Function) (marks : Marks) (pending : Pending) (all : List Instr) (its : List Step)
    (last : Pending) → Goes code function marks pending all its last → First code function marks pending all its last
first_of code function marks pending all its last (here _) = nothing refl
first_of code function marks pending all its last
    (late _ _ instr rest _ register cell of_cell gives is_late no_cell within is_cell slotted goes) =
    loads instr rest register cell refl of_cell gives is_late no_cell within is_cell slotted goes
first_of code function marks pending all its last (made _ _ instr rest step more may is_step goes) =
    does instr rest step more refl refl may is_step goes

-- the code's machine acts, with so many instructions to come in the block
does_alike : (n : ℕ) (k : Known) → IsKnown k → (pending : Pending) (m : codes.Machine) (q : plans.Machine) (g : codes.Goroutine)
    (function : Function) (frame : codes.Frame) (below : List codes.Frame) (it : plans.Frame) (others : List plans.Frame)
    → IsRunning k pending m q g function frame below it others → (at : StandsAt frame it)
    → (all : List Instr) (its : List Step) (p last : Pending)
    → First k.code function (k.marks frame.function.number) p all its last → length all ≡ n → p ≡ pending
    → drop frame.place (instrs_at function frame.block) ≡ all → drop it.step it.steps ≡ its
    → Moves k (λ m. Soon k m (planned_on q it others))
    (steps.does (site_at k m g function frame below) (slice_get (instrs_at function frame.block) frame.place))
    (planned.does k.w (planned_on q it others) it others (slice_get it.steps it.step))
does_alike n k known pending m q g function frame below it others is at all its p last (nothing empty) count same instrs steps_are =
    follows (subst (λ (found : Option Instr). Follows k (steps.does (site_at k m g function frame below) found)
    (planned.does k.w (planned_on q it others) it others (slice_get it.steps it.step)))
    (sym (past_drop (instrs_at function frame.block) frame.place (instrs ∙ empty))) tt)
does_alike zero k known pending m q g function frame below it others is at all its p last
    (loads instr rest register cell is_all of_cell gives is_late no_cell within is_cell slotted goes) count same instrs steps_are =
    let none : suc (length rest) ≡ 0 = ap length (sym is_all) ∙ count in absurd (omega arith)
does_alike (suc n) k known pending m q g function frame below it others is at all its p last
    (loads instr rest register cell is_all of_cell gives is_late no_cell within is_cell slotted goes) count same instrs steps_are =
    let both = at_drop (instrs_at function frame.block) frame.place instr rest (instrs ∙ is_all) in
    subst (λ (found : Option Instr). Moves k (λ m. Soon k m (planned_on q it others))
    (steps.does (site_at k m g function frame below) found)
    (planned.does k.w (planned_on q it others) it others (slice_get it.steps it.step)))
    (sym both.0)
    (late_step k (λ m. Soon k m (planned_on q it others)) m g function frame below register cell instr.register instr.op of_cell
    gives (is.is.cells cell is_cell)
    (λ at' value points held. soon_running k (pending ++ (register, cell) ∷ [])
    (codes.with_frames g (after_load register value frame ∷ below) m) q
    (record g { frames = after_load register value frame ∷ below }) function (after_load register value frame) below it others
    (late_running k pending m q g function frame below it others is register cell at' value within is_late no_cell is_cell slotted
    points held)
    (does_alike n k known (pending ++ (register, cell) ∷ []) (codes.with_frames g (after_load register value frame ∷ below) m) q
    (record g { frames = after_load register value frame ∷ below }) function (after_load register value frame) below it others
    (late_running k pending m q g function frame below it others is register cell at' value within is_late no_cell is_cell slotted
    points held)
    (record { same = at.same; block = at.block; is = at.is; steps = at.steps }) rest its (p ++ (register, cell) ∷ []) last
    (first_of k.code function (k.marks frame.function.number) (p ++ (register, cell) ∷ []) rest its last goes)
    (ap pred (ap length (sym is_all) ∙ count))
    (ap (λ loads. loads ++ (register, cell) ∷ []) same) both.1 steps_are))
    (planned.does k.w (planned_on q it others) it others (slice_get it.steps it.step)))
does_alike n k known pending m q g function frame below it others is at all its p last
    (does instr rest step more is_all is_its may is_step goes) count same instrs steps_are =
    let both = at_drop (instrs_at function frame.block) frame.place instr rest (instrs ∙ is_all) in
    let planned_both = at_drop it.steps it.step step more (steps_are ∙ is_its) in
    let is_step' : IsStep (record { code = k.code; function = function; marks = k.marks frame.function.number; pending = before instr.op pending })
    instr.register instr.op step =
    subst (λ (p : Pending). IsStep (record { code = k.code; function = function; marks = k.marks frame.function.number; pending = before instr.op p })
    instr.register instr.op step) same is_step in
    let goes' : Goes k.code function (k.marks frame.function.number) (behind step (before instr.op pending)) rest more last =
    subst (λ (p : Pending). Goes k.code function (k.marks frame.function.number) (behind step (before instr.op p)) rest more last)
    same goes in
    follows
    (subst (λ (found : Option Instr). Follows k (steps.does (site_at k m g function frame below) found)
    (planned.does k.w (planned_on q it others) it others (slice_get it.steps it.step)))
    (sym both.0)
    (subst (λ (found : Option Step). Follows k (steps.acts (site_at k m g function frame below) instr.register instr.op)
    (planned.does k.w (planned_on q it others) it others found))
    (sym planned_both.0)
    (acts_alike k known (acting_at m q g function frame below it others (before instr.op pending)) instr.register instr.op step
    may is_step'
    (is_acting k pending m q g function frame below it others is instr.op step
    (standing (behind step (before instr.op pending)) _ _ (record {
      same = at.same;
      block = at.block;
      is = at.is;
      steps = at.steps;
      last = last;
      goes = subst (λ (its : List Instr). Goes k.code function (k.marks frame.function.number) (behind step (before instr.op pending)) its
          (drop (suc it.step) it.steps) last) (sym both.1)
          (subst (λ (its : List Step). Goes k.code function (k.marks frame.function.number) (behind step (before instr.op pending)) rest its last)
          (sym planned_both.1) goes');
    })))
    (λ stays. standing [] _ _ (record {
      same = at.same;
      block = at.block;
      is = at.is;
      steps = at.steps;
      last = last;
      goes = subst (λ (its : List Instr). Goes k.code function (k.marks frame.function.number) [] its (drop it.step it.steps) last)
          (sym (instrs ∙ is_all))
          (subst (λ (its : List Step). Goes k.code function (k.marks frame.function.number) [] (instr ∷ rest) its last)
          (sym (steps_are ∙ is_its)) (waits_at k function pending last frame it instr rest step more stays may is_step' goes'));
    })))))

-- ---- a block that does nothing but jump: the code's frame jumps, and the plan waits

-- the machine then
way_running : (k : Known) (m : codes.Machine) (q : plans.Machine) (g : codes.Goroutine)
    (function : Function) (frame : codes.Frame) (below : List codes.Frame) (it : plans.Frame) (others : List plans.Frame)
    → IsRunning k [] m q g function frame below it others → (n : ℕ)
    → IsRunning k [] (codes.with_frames g (steps_of.at_block function n frame ∷ below) m) q
    (record g { frames = steps_of.at_block function n frame ∷ below }) function (steps_of.at_block function n frame) below it others
way_running k m q g function frame below it others is n =
    record {
      around = around_with k m q is.around (record g { frames = steps_of.at_block function n frame ∷ below }) q.current;
      there = there_with m (record g { frames = steps_of.at_block function n frame ∷ below }) g is.there;
      is = frame_moved k function frame (top_of q.current.slots) it is.is n (phis_first (instrs_at function n)) frame.state
          frame.defers it.block it.steps it.step it.state it.defers is.is.state is.is.defers is.is.recovers;
      runs = is.runs;
      frames = refl;
      result = is.result;
      lower = is.lower;
      begin = is.begin;
      fault = is.fault;
      sources = is.sources ∙ same_count (is_source k.code) frame (steps_of.at_block function n frame) below refl;
      held = none_pending (k.marks frame.function.number) m.store (steps_of.at_block function n frame);
    }

-- the jump itself
jump_op : (it : Op) (next : BlockId) → jump_of it ≡ Some next → it ≡ op.Jump next
jump_op (op.Jump block) next same = ap op.Jump (some_same block next same)
jump_op _ next same = absurd (none-some next same)

only_jump : (instrs : List Instr) (number : ℕ) → option_map (λ b. b.number) (next_of instrs) ≡ Some number
    → (only : Instr) × ((next : BlockId) × ((slice_get instrs 0 ≡ Some only) × ((only.op ≡ op.Jump next) × (next.number ≡ number))))
only_jump [] number same = absurd (none-some number same)
only_jump (first ∷ second ∷ others) number same = absurd (none-some number same)
only_jump (only ∷ []) number same = found (jump_of only.op) refl same
  where
    found : (next : Option BlockId) → jump_of only.op ≡ next → option_map (λ b. b.number) next ≡ Some number
        → (it : Instr) × ((next : BlockId) × ((Some only ≡ Some it) × ((it.op ≡ op.Jump next) × (next.number ≡ number))))
    found None is same = absurd (none-some number same)
    found (Some next) is same = (only, (next, (refl, (jump_op only.op next is, some_same next.number number same))))

-- the code's frame jumps, and the plan's stands where the jump leads in the end
way_jumps : (k : Known) (Waits : codes.Machine → Type 0) (m : codes.Machine) (g : codes.Goroutine) (function : Function)
    (frame : codes.Frame) (below : List codes.Frame) → frame.place ≡ 0 → (number : ℕ)
    → option_map (λ b. b.number) (next_of (instrs_at function frame.block)) ≡ Some number
    → phis_first (instrs_at function number) ≡ 0
    → Waits (codes.with_frames g (steps_of.at_block function number frame ∷ below) m) → (next : plans.Next)
    → Moves k Waits (steps.does (site_at k m g function frame below) (slice_get (instrs_at function frame.block) frame.place)) next
unfolding steps.acts
way_jumps k Waits m g function frame below first number jumps phis rest next =
    let only = only_jump (instrs_at function frame.block) number jumps in
    waits (codes.with_frames g (steps_of.at_block function number frame ∷ below) m)
    (ap (λ (n : ℕ). steps.does (site_at k m g function frame below) (slice_get (instrs_at function frame.block) n)) first
    ∙ ap (steps.does (site_at k m g function frame below)) only.1.1.0
    ∙ ap (λ (o : Op). steps.acts (site_at k m g function frame below) only.0.register o) only.1.1.1.0
    ∙ ap (λ (n : ℕ). codes.where_there (λ f. codes.goes (codes.with_frames g (steps_of.at_block function n f ∷ below) m))
    (steps.with_phis (site_at k m g function frame below) (steps.front_phis (instrs_at function n)) frame)) only.1.1.1.1
    ∙ ap (λ (front : List Instr). codes.where_there (λ f. codes.goes (codes.with_frames g (steps_of.at_block function number f ∷ below) m))
    (steps.with_phis (site_at k m g function frame below) front frame)) (no_front (instrs_at function number) phis))
    rest

-- at the beginning of a block at which the plan stands
begins_soon : (k : Known) → IsKnown k → (m : codes.Machine) (q : plans.Machine) (g : codes.Goroutine)
    (function : Function) (frame : codes.Frame) (below : List codes.Frame) (it : plans.Frame) (others : List plans.Frame)
    → IsRunning k [] m q g function frame below it others → frame.place ≡ phis_first (instrs_at function frame.block)
    → it.block ≡ frame.block → (block : PlannedBlock) → slice_get it.function.blocks.items frame.block ≡ Some block
    → it.steps ≡ block.steps.items → it.step ≡ 0 → Soon k m (planned_on q it others)
begins_soon k known m q g function frame below it others is first same block there steps_are begin =
    let at = planned_block k.code (k.marks frame.function.number) function it.function
    (function_of k known function frame (top_of q.current.slots) it is.is) frame.block block there in
    soon_running k [] m q g function frame below it others is
    (does_alike (length (drop (phis_first (instrs_at function frame.block)) (instrs_at function frame.block)))
    k known [] m q g function frame below it others is
    (record { same = same; block = block; is = there; steps = steps_are })
    (drop (phis_first (instrs_at function frame.block)) (instrs_at function frame.block)) at.it.steps.items [] at.is.last
    (first_of k.code function (k.marks frame.function.number) []
    (drop (phis_first (instrs_at function frame.block)) (instrs_at function frame.block)) at.it.steps.items at.is.last
    (begins k.code (k.marks frame.function.number) function it.function frame.block at)) refl refl
    (ap (λ (n : ℕ). drop n (instrs_at function frame.block)) first)
    (ap (λ (n : ℕ). drop n it.steps) begin ∙ steps_are
    ∙ ap (λ (b : PlannedBlock). b.steps.items) (some_same block at.it (sym there ∙ at.planned_there))))

-- at a block from which jumps lead on to the one at which the plan stands
leads_soon : (k : Known) → IsKnown k → (function : Function) (n end : ℕ) → LeadsOn function n end
    → (m : codes.Machine) (q : plans.Machine) (g : codes.Goroutine) (frame : codes.Frame) (below : List codes.Frame)
    (it : plans.Frame) (others : List plans.Frame) → IsRunning k [] m q g function frame below it others → frame.block ≡ n
    → frame.place ≡ phis_first (instrs_at function frame.block) → it.block ≡ end → (block : PlannedBlock)
    → slice_get it.function.blocks.items end ≡ Some block → it.steps ≡ block.steps.items → it.step ≡ 0
    → phis_first (instrs_at function n) ≡ 0 → Soon k m (planned_on q it others)
leads_soon k known function n end (forms.here b) m q g frame below it others is at_n first at_end block there steps_are begin phis =
    begins_soon k known m q g function frame below it others is first (at_end ∙ sym at_n) block
    (ap (slice_get it.function.blocks.items) at_n ∙ there) steps_are begin
leads_soon k known function n end (on b to' next jumps next_phis leads) m q g frame below it others is at_n first at_end block
    there steps_are begin phis =
    soon_running k [] m q g function frame below it others is
    (way_jumps k (λ m. Soon k m (planned_on q it others)) m g function frame below
    (first ∙ ap (λ (n : ℕ). phis_first (instrs_at function n)) at_n ∙ phis) next.number
    (ap (λ (n : ℕ). option_map (λ b. b.number) (next_of (instrs_at function n))) at_n ∙ ap (option_map (λ b. b.number)) jumps)
    next_phis
    (leads_soon k known function next.number to' leads
    (codes.with_frames g (steps_of.at_block function next.number frame ∷ below) m) q
    (record g { frames = steps_of.at_block function next.number frame ∷ below }) (steps_of.at_block function next.number frame)
    below it others (way_running k m q g function frame below it others is next.number) refl refl at_end block there steps_are
    begin next_phis)
    (planned.does k.w (planned_on q it others) it others (slice_get it.steps it.step)))

-- ---- the frame on top

-- where it returns or panics
moves_other : (k : Known) (m : codes.Machine) (g : codes.Goroutine) (frame : codes.Frame) (below : List codes.Frame)
    (state : FrameState) → (is_running state ≡ true → ⊥)
    → steps.moves k.w.answers k.code m g frame below state ≡ steps.unwinds k.w.answers k.code m g frame below frame.defers
unfolding is_running
moves_other k m g frame below running other = absurd (other refl)
moves_other k m g frame below returning other = refl
moves_other k m g frame below (panicking thrown) other = refl

planned_other : (k : Known) (q : plans.Machine) (it : plans.Frame) (others : List plans.Frame)
    (state : FrameState) → (is_running state ≡ true → ⊥)
    → planned.moves k.w q it others (shown_state state) ≡ planned.unwinds k.w q it others it.defers
unfolding is_running
planned_other k q it others running other = absurd (other refl)
planned_other k q it others returning other = refl
planned_other k q it others (panicking thrown) other = refl

unwinds_soon : (k : Known) → IsKnown k → (pending : Pending) (m : codes.Machine) (q : plans.Machine) (g : codes.Goroutine)
    (frame : codes.Frame) (below : List codes.Frame) (it : plans.Frame) (others : List plans.Frame) → IsAround k m q
    → slice_get m.goroutines m.sched.current.number ≡ Some (record g { frames = frame ∷ below })
    → (top : IsTopFrame k pending frame (top_of q.current.slots) it below)
    → AreBelow k below (below_top q.current.slots) others → IsLaterWhere g.begin q.current.begin → q.current.fault ≡ g.fault
    → q.current.sources ≡ sources_in k (frame ∷ below) → RunsWhere pending frame → (frame.state ≡ running → ⊥)
    → (state : FrameState) → frame.state ≡ state → (is_running state ≡ true → ⊥) → Soon k m (planned_on q it others)
unfolding steps.step planned.step
unwinds_soon k known pending m q g frame below it others around there top lower begin fault sources runs other state same
    not_running =
    now m (planned_on q it others)
    (subst₂ (Follows k)
    (sym (ap (codes.where_there (λ g. steps.steps_on k.w.answers k.code m g g.frames)) there
    ∙ ap (steps.moves k.w.answers k.code m (record g { frames = frame ∷ below }) frame below) same
    ∙ moves_other k m (record g { frames = frame ∷ below }) frame below state not_running))
    (sym (ap (planned.moves k.w (planned_on q it others) it others) (top.is.state ∙ ap shown_state same)
    ∙ planned_other k (planned_on q it others) it others state not_running))
    (other_state k known pending m q (record g { frames = frame ∷ below }) frame below it others around there top lower begin
    fault sources runs other))

-- where it runs
running_soon : (k : Known) → IsKnown k → (pending : Pending) (m : codes.Machine) (q : plans.Machine) (g : codes.Goroutine)
    (function : Function) (frame : codes.Frame) (below : List codes.Frame) (it : plans.Frame) (others : List plans.Frame)
    → IsRunning k pending m q g function frame below it others → IsTop k function pending frame it
    → Soon k m (planned_on q it others)
running_soon k known pending m q g function frame below it others is (lost l) =
    let clash : false ≡ true = sym (ap is_panicking is.runs) ∙ l.panics in absurd cc
running_soon k known pending m q g function frame below it others is (placed p) = by_place p is
  where
    by_place : {pending : Pending} → IsPlaced k function pending frame it
        → IsRunning k pending m q g function frame below it others → Soon k m (planned_on q it others)
    by_place (standing pending f p at) is =
        soon_running k pending m q g function frame below it others is
        (does_alike (length (drop frame.place (instrs_at function frame.block))) k known pending m q g function frame below it
        others is (record { same = at.same; block = at.block; is = at.is; steps = at.steps })
        (drop frame.place (instrs_at function frame.block)) (drop it.step it.steps) pending at.last
        (first_of k.code function (k.marks frame.function.number) pending (drop frame.place (instrs_at function frame.block))
        (drop it.step it.steps) at.last at.goes) refl refl refl refl)
    by_place (on_way f p way) is =
        soon_running k [] m q g function frame below it others is
        (way_jumps k (λ m. Soon k m (planned_on q it others)) m g function frame below way.first way.number way.next way.phis
        (leads_soon k known function way.number it.block way.leads
        (codes.with_frames g (steps_of.at_block function way.number frame ∷ below) m) q
        (record g { frames = steps_of.at_block function way.number frame ∷ below })
        (steps_of.at_block function way.number frame) below it others
        (way_running k m q g function frame below it others is way.number) refl refl refl way.block way.is way.steps way.begin
        way.phis)
        (planned.does k.w (planned_on q it others) it others (slice_get it.steps it.step)))

-- whatever it is about
top_soon : (k : Known) → IsKnown k → (pending : Pending) (m : codes.Machine) (q : plans.Machine) (g : codes.Goroutine)
    (frame : codes.Frame) (below : List codes.Frame) (it : plans.Frame) (others : List plans.Frame) → IsAround k m q
    → slice_get m.goroutines m.sched.current.number ≡ Some (record g { frames = frame ∷ below })
    → (top : IsTopFrame k pending frame (top_of q.current.slots) it below)
    → AreBelow k below (below_top q.current.slots) others → IsLaterWhere g.begin q.current.begin → q.current.fault ≡ g.fault
    → q.current.sources ≡ sources_in k (frame ∷ below) → ArePendingIn k m.store pending (frame ∷ below)
    → (state : FrameState) → frame.state ≡ state → Soon k m (planned_on q it others)
unfolding is_running
top_soon k known pending m q g frame below it others around there top lower begin fault sources held running same =
    running_soon k known pending m q (record g { frames = frame ∷ below }) top.function frame below it others (record {
      around = around;
      there = there;
      is = top.is;
      runs = same;
      frames = refl;
      result = top.result;
      lower = lower;
      begin = begin;
      fault = fault;
      sources = sources;
      held = held.0;
    }) top.top
top_soon k known pending m q g frame below it others around there top lower begin fault sources held returning same =
    unwinds_soon k known pending m q g frame below it others around there top lower begin fault sources held.1
    (λ runs. let clash : false ≡ true = sym (ap is_running same) ∙ ap is_running runs in absurd cc) returning same
    (λ other. let clash : false ≡ true = other in absurd cc)
top_soon k known pending m q g frame below it others around there top lower begin fault sources held (panicking thrown) same =
    unwinds_soon k known pending m q g frame below it others around there top lower begin fault sources held.1
    (λ runs. let clash : false ≡ true = sym (ap is_running same) ∙ ap is_running runs in absurd cc) (panicking thrown) same
    (λ other. let clash : false ≡ true = other in absurd cc)

-- ---- a step

steps_soon : (k : Known) → IsKnown k → (pending : Pending) (m : codes.Machine) (q : plans.Machine) (g : codes.Goroutine)
    (frames : List codes.Frame) (others : List plans.Frame) → IsAround k m q
    → slice_get m.goroutines m.sched.current.number ≡ Some (record g { frames = frames })
    → AreFrames k pending frames q.current.slots others → IsLaterWhere g.begin q.current.begin → q.current.fault ≡ g.fault
    → q.current.sources ≡ sources_in k frames → ArePendingIn k m.store pending frames
    → Soon k m (record q { current = record (q.current) { frames = others } })
unfolding steps.step planned.step
steps_soon k known pending m q g [] [] around there alike begin fault sources held =
    now m (record q { current = record (q.current) { frames = [] } })
    (subst (λ (found : Option codes.Goroutine). Follows k
    (codes.where_there (λ g. steps.steps_on k.w.answers k.code m g g.frames) found)
    (planned.begins k.w (record q { current = record (q.current) { frames = [] } }) q.current.begin))
    (sym there)
    (begins_alike k known m q g
    (record { around = around; there = there; begin = begin; fault = fault; sources = sources })))
steps_soon k known pending m q g (frame ∷ below) (it ∷ others) around there alike begin fault sources held =
    top_soon k known pending m q g frame below it others around there alike.0 alike.1 begin fault sources held frame.state refl
steps_soon k known pending m q g [] (it ∷ others) around there alike begin fault sources held = absurd alike
steps_soon k known pending m q g (frame ∷ below) [] around there alike begin fault sources held = absurd alike

pub soon_alike : (k : Known) → IsKnown k → (pending : Pending) (m : codes.Machine) (q : plans.Machine) → IsMachine k pending m q
    → Soon k m q
soon_alike k known pending m q is =
    steps_soon k known pending m q is.g is.g.frames q.current.frames is.around is.there is.is.frames is.is.begin is.is.fault
    is.is.sources is.held
