-- Entries into functions, in both machines.
use Rattle.std.proofs.Common.{◌≡◌, ℕ, zero, suc, ◌+◌, ◌≤◌, Bool, true, false, List, [], ◌∷◌, Option, Some, None, ap}
use Rattle.std.proofs.Common.{refl, sym, subst, ◌∙◌, arith}
use Rattle.std.proofs.lemmas.Bool.{eqb-true, ltb-false}
use Rattle.std.proofs.lemmas.List.{length-replicate}
use Rattle.std.proofs.lemmas.Option.{same_Some}
use Rattle.std.specs.Prelude.{if◌then◌else◌, cond, drop, length, nat_le, nat_lt, replicate, slice_get, ◌&&◌, ◌==◌}
use Rattle.std.specs.Prelude.{codes as bytes_of}
use Rattle.std.specs.List.{filter}
use Rattle.std.specs.Option.{option_flatten, option_map_or}
use Rattle.std.specs.Str.{bytes_eq}
use Rattle.code_plan.specs.Plans.{Goes, IsFunction, role_of}
use Rattle.code_plan.specs.declared.steps.PlannedBlock.{PlannedBlock}
use Rattle.code_plan.specs.declared.steps.PlannedFunction.{PlannedFunction}
use Rattle.code_plan.specs.declared.steps.Role.{Role}
use Rattle.code_plan.specs.declared.steps.Role.TheVariants as role
use Rattle.go_base.specs.declared.ending.Ending.TheVariants as ending
use Rattle.go_sched.specs.declared.scheduling.Point.TheVariants as point
use Rattle.go_value.specs.Values as vals
use Rattle.go_value.specs.Values.{Val}
use Rattle.plan_laws.proofs.Settled.{settled_machine}
use Rattle.plan_laws.proofs.Acting.{IsSettled}
use Rattle.plan_laws.proofs.Alike.{Known, IsKnown, IsAround, IsAt, IsFunctionAt, IsFrame, HasSlots, HasCells, IsBelow}
use Rattle.plan_laws.proofs.Alike.{standing, AreBelow, IsWholeWhere, Follows, GetsResult}
use Rattle.plan_laws.proofs.Around.{around_with, there_with}
use Rattle.plan_laws.proofs.Blocks.{planned_block, begins}
use Rattle.plan_laws.proofs.Entered.{entered_row, entered_rows, entered_count, entered_parameter, entered_free}
use Rattle.plan_laws.proofs.Entered.{entered_other, not_written}
use Rattle.plan_laws.proofs.Readying.{follows_stuck, same_source}
use Rattle.plan_laws.proofs.Waiting.{switches_alike}
use Rattle.plan_mean.specs.Calls as planned_calls
use Rattle.plan_mean.specs.Slots.{with_slots_from}
use Rattle.plan_mean.specs.State as plans
use Rattle.plan_mean.specs.Unwinding as planned_unwinding
use Rattle.ssa_ir.specs.Blocks.{instrs_at}
use Rattle.ssa_ir.specs.declared.code.Function.{Function}
use Rattle.ssa_ir.specs.declared.code.FunctionKind.{FunctionKind}
use Rattle.ssa_ir.specs.declared.code.FunctionKind.TheVariants as kind
use Rattle.ssa_mean.specs.Calls as calls
use Rattle.ssa_mean.specs.Calls.{most_frames, most_passed}
use Rattle.ssa_mean.specs.Operands.{function_at}
use Rattle.ssa_mean.specs.State as codes
use Rattle.ssa_mean.specs.Unwinding as unwinding
use Rattle.ssa_mean.specs.Unwinding.{is_source, is_source_kind}

-- an entry into a function, from frames that are below it then
pub record IsEntry (k : Known) (below : List codes.Frame) (entry : calls.Entry) (it : planned_calls.Entry) : Type 0 where
  pub function : it.function ≡ entry.function.number
  pub free : it.free ≡ entry.free
  pub arguments : it.arguments ≡ entry.arguments
  pub deferred : it.deferred ≡ entry.deferred
  pub chain : it.chain ≡ entry.chain
  pub result : GetsResult k entry.result it.result below

-- ---- the new frame

-- what is known where a frame is to be pushed
record IsNew (k : Known) (function : Function) (planned : PlannedFunction) (entry : calls.Entry) : Type 0 where
  there : function_at k.code entry.function ≡ Some function
  planned_there : slice_get k.w.plan.functions.items entry.function.number ≡ Some planned
  made : IsFunction k.code (k.marks entry.function.number) function planned
  passed : entry.chain ≤ most_passed
  arguments : length entry.arguments ≡ length function.params
  free : length entry.free ≡ length function.free

row_of : PlannedFunction → calls.Entry → List (Option Val)
row_of planned entry = entered_row planned.params planned.slots entry.arguments entry.free

has_slots : (k : Known) (function : Function) (planned : PlannedFunction) (entry : calls.Entry) → IsNew k function planned entry
    → HasSlots function (k.marks entry.function.number) (calls.entered function entry) (row_of planned entry)
unfolding row_of
has_slots k function planned entry new =
    let params : planned.params ≡ length function.params = new.made.params in
    let slots : planned.slots ≡ length function.params + (length function.free + length function.registers) = new.made.slots in
    let arguments : length entry.arguments ≡ length function.params = new.arguments in
    let free : length entry.free ≡ length function.free = new.free in
    record {
      parameters = new.arguments;
      frees = new.free;
      registers = length-replicate (length function.registers) None;
      count = entered_count planned.params planned.slots entry.arguments entry.free ∙ slots;
      parameter = λ n h. entered_parameter planned.params planned.slots entry.arguments entry.free (omega arith) (omega arith) n
          (omega arith);
      free = λ n h. ap (λ (m : ℕ). option_flatten (slice_get (row_of planned entry) (m + n))) (sym params)
          ∙ entered_free planned.params planned.slots entry.arguments entry.free (omega arith) n (omega arith);
      register = λ n late. entered_other planned.params planned.slots entry.arguments entry.free (omega arith)
          (length function.params + (length function.free + n)) (omega arith)
          ∙ sym (not_written (length function.registers) n);
    }

has_cells : (k : Known) (function : Function) (entry : calls.Entry)
    → HasCells (k.marks entry.function.number) (calls.entered function entry)
has_cells k function entry n cell = subst IsWholeWhere (sym (not_written (length function.registers) n)) tt

is_frame : (k : Known) (function : Function) (planned : PlannedFunction) (entry : calls.Entry) (below : List codes.Frame)
    (it : planned_calls.Entry) (block : PlannedBlock) → IsNew k function planned entry → IsEntry k below entry it
    → IsFrame k function (calls.entered function entry) (row_of planned entry)
    (planned_calls.new_frame planned it block.steps.items)
is_frame k function planned entry below it block new is =
    record {
      there = new.there;
      planned_there = new.planned_there;
      slots = has_slots k function planned entry new;
      cells = has_cells k function entry;
      deferred = is.deferred;
      state = refl;
      chain = is.chain;
      passed = new.passed;
      defers = tt;
      recovers = tt;
    }

is_at : (k : Known) (function : Function) (planned : PlannedFunction) (entry : calls.Entry) (it : planned_calls.Entry)
    (block : PlannedBlock) → slice_get planned.blocks.items 0 ≡ Some block → IsNew k function planned entry
    → IsAt k function [] (calls.entered function entry) (planned_calls.new_frame planned it block.steps.items)
is_at k function planned entry it block there new =
    let at = planned_block k.code (k.marks entry.function.number) function planned new.made 0 block there in
    record {
      same = refl;
      block = block;
      is = there;
      steps = refl;
      last = at.is.last;
      goes = subst (λ (x : PlannedBlock). Goes k.code function (k.marks entry.function.number) []
          (drop (unwinding.phis_first (instrs_at function 0)) (instrs_at function 0)) x.steps.items at.is.last)
          (same_Some at.it block (sym at.planned_there ∙ there))
          (begins k.code (k.marks entry.function.number) function planned 0 at);
    }

is_below : (k : Known) (function : Function) (planned : PlannedFunction) (entry : calls.Entry) (below : List codes.Frame)
    (it : planned_calls.Entry) (block : PlannedBlock) → slice_get planned.blocks.items 0 ≡ Some block
    → IsNew k function planned entry → IsEntry k below entry it
    → IsBelow k (calls.entered function entry) (row_of planned entry)
    (planned_calls.new_frame planned it block.steps.items) below
is_below k function planned entry below it block there new is =
    record {
      function = function;
      is = is_frame k function planned entry below it block new is;
      placed = standing [] _ _ (is_at k function planned entry it block there new);
      result = is.result;
    }

-- ---- steps of both machines

-- where one of both asks for what the other does not ask for
pub follows_where : (k : Known) (b : Bool) (one : codes.Next) (other : plans.Next) → (b ≡ true → Follows k one other)
    → Follows k (if b then one else codes.stuck) other
follows_where k true one other h = h refl
follows_where k false one other h = tt

pub follows_planned : (k : Known) (b : Bool) (one : codes.Next) (other : plans.Next) → (b ≡ true → Follows k one other)
    → Follows k one (if b then other else plans.stuck)
follows_planned k true one other h = h refl
follows_planned k false one other h = follows_stuck k one

-- where both ask the same
pub follows_either : (k : Known) (b b' : Bool) → b' ≡ b → (one two : codes.Next) (one' two' : plans.Next)
    → (b ≡ true → Follows k one one') → (b ≡ false → Follows k two two')
    → Follows k (if b then one else two) (if b' then one' else two')
follows_either k true true same one two one' two' p q = p refl
follows_either k false false same one two one' two' p q = q refl
follows_either k _ _ same one two one' two' p q = cc

pub follows_there : {B : Type 0} (k : Known) (one : codes.Next) (other : B → plans.Next) (found : Option B)
    → ((it : B) → found ≡ Some it → Follows k one (other it)) → Follows k one (plans.where_there other found)
follows_there k one other None h = follows_stuck k one
follows_there k one other (Some it) h = h it refl

-- a tick is spent
ticked : (k : Known) (n n' : ℕ) → n' ≡ n → (m : codes.Machine) (q : plans.Machine) → q.output ≡ m.output
    → (next : codes.Machine → codes.Next) (next' : plans.Machine → plans.Next)
    → ((n : ℕ) → Follows k (next (record m { ticks = n })) (next' (record q { ticks = n })))
    → Follows k (unwinding.with_tick n m next) (planned_unwinding.with_tick n' q next')
ticked k zero zero same m q p next next' h = (refl, p)
ticked k (suc n) (suc n') same m q p next next' h =
    subst (λ (x : ℕ). Follows k (next (record m { ticks = n })) (next' (record q { ticks = x }))) (omega arith) (h n)
ticked k zero (suc n') same m q p next next' h = absurd (omega arith)
ticked k (suc n) zero same m q p next next' h = absurd (omega arith)

pub spends_alike : (k : Known) (m : codes.Machine) (q : plans.Machine) → IsAround k m q
    → (next : codes.Machine → codes.Next) (next' : plans.Machine → plans.Next)
    → ((n : ℕ) → Follows k (next (record m { ticks = n })) (next' (record q { ticks = n })))
    → Follows k (unwinding.spends m next) (planned_unwinding.spends q next')
spends_alike k m q around next next' h = ticked k m.ticks q.ticks around.ticks m q around.output next next' h

-- ---- frames are pushed

abbrev with_ticks : (k : Known) (m : codes.Machine) (q : plans.Machine) → IsSettled k m q → (n : ℕ)
    → IsSettled k (record m { ticks = n }) (record q { ticks = n })
with_ticks k m q settled n =
    record {
      around = record {
        others = settled.around.others;
        holder = settled.around.holder;
        count = settled.around.count;
        starts = settled.around.starts;
        store = settled.around.store;
        sched = settled.around.sched;
        ticks = refl;
        output = settled.around.output;
      };
      g = settled.g;
      there = settled.there;
      frames = settled.frames;
      begin = settled.begin;
      fault = settled.fault;
      sources = settled.sources;
    }

one_more : {A : Type 0} (b b' : Bool) → b' ≡ b → (n : ℕ) (x : A) (xs : List A) → n ≡ length xs
    → (if b' then suc n else n) ≡ length (cond b (x ∷ xs) xs)
one_more true true same n x xs p = ap suc p
one_more false false same n x xs p = p
one_more _ _ same n x xs p = cc

entered_same : (planned : PlannedFunction) (entry : calls.Entry) (it : planned_calls.Entry) (slots : List (List (Option Val)))
    → it.arguments ≡ entry.arguments → it.free ≡ entry.free
    → planned_calls.entered_slots planned it slots ≡ row_of planned entry ∷ slots
unfolding row_of
entered_same planned entry it slots p q =
    (λ i. with_slots_from planned.params (q i) (with_slots_from 0 (p i) (replicate planned.slots None ∷ slots)))
    ∙ entered_rows planned.params planned.slots entry.arguments entry.free slots

source_of : (k : Known) (function : Function) (planned : PlannedFunction) (entry : calls.Entry)
    → IsNew k function planned entry
    → planned_unwinding.is_source planned.role ≡ is_source k.code (calls.entered function entry)
source_of k function planned entry new =
    ap planned_unwinding.is_source new.made.role ∙ (same_source function function.kind
    ∙ sym (ap (λ (x : Option Function). option_map_or (λ (it : Function). is_source_kind it.kind) x false) new.there))

-- the frame on top of what is there
settled_new : (k : Known) (m : codes.Machine) (q : plans.Machine) (settled : IsSettled k m q) (function : Function)
    (planned : PlannedFunction) (entry : calls.Entry) (it : planned_calls.Entry) (block : PlannedBlock)
    → slice_get planned.blocks.items 0 ≡ Some block → IsNew k function planned entry
    → IsEntry k settled.g.frames entry it
    → IsSettled k (codes.with_frames settled.g (calls.entered function entry ∷ settled.g.frames) m)
    (plans.with_current (planned_calls.with_entry planned it (planned_calls.new_frame planned it block.steps.items) q.current) q)
settled_new k m q settled function planned entry it block there new is =
    let rows : planned_calls.entered_slots planned it q.current.slots ≡ row_of planned entry ∷ q.current.slots =
    entered_same planned entry it q.current.slots is.arguments is.free in
    record {
      around = around_with k m q settled.around _ _;
      g = record (settled.g) { frames = calls.entered function entry ∷ settled.g.frames };
      there = there_with m _ settled.g settled.there;
      frames = subst (λ (x : List (List (Option Val))). AreBelow k (calls.entered function entry ∷ settled.g.frames) x
          (planned_calls.new_frame planned it block.steps.items ∷ q.current.frames)) (sym rows)
          (is_below k function planned entry settled.g.frames it block there new is, settled.frames);
      begin = settled.begin;
      fault = settled.fault;
      sources = one_more (is_source k.code (calls.entered function entry)) (planned_unwinding.is_source planned.role)
          (source_of k function planned entry new) q.current.sources (calls.entered function entry)
          (filter (is_source k.code) settled.g.frames) settled.sources;
    }

-- as many arguments as parameters, and as many values as free variables
both_true : (a b : Bool) → (a && b) ≡ true → (a ≡ true) × (b ≡ true)
both_true true true h = (refl, refl)
both_true _ _ h = cc

pub pushed_alike : (k : Known) (m : codes.Machine) (q : plans.Machine) (settled : IsSettled k m q) (function : Function)
    (planned : PlannedFunction) (entry : calls.Entry) (it : planned_calls.Entry)
    → function_at k.code entry.function ≡ Some function
    → slice_get k.w.plan.functions.items entry.function.number ≡ Some planned
    → IsFunction k.code (k.marks entry.function.number) function planned → entry.chain ≤ most_passed
    → IsEntry k settled.g.frames entry it
    → Follows k (calls.pushed function entry m) (planned_calls.pushed planned it q)
pushed_alike k m q settled function planned entry it there planned_there made passed is =
    follows_where k (calls.fits_entry function entry) _ _ (λ fits.
    follows_planned k (length it.arguments == planned.params) _ _ (λ same.
    follows_there k _ _ (slice_get planned.blocks.items 0) (λ block at.
    subst (λ (x : Option codes.Goroutine). Follows k
    (codes.where_there (λ g. codes.goes (codes.with_frames g (calls.entered function entry ∷ g.frames) m)) x)
    (plans.goes (plans.with_current (planned_calls.with_entry planned it
    (planned_calls.new_frame planned it block.steps.items) q.current) q)))
    (sym settled.there) (
      [],
      settled_machine k _ _ (settled_new k m q settled function planned entry it block at
          (record {
            there = there;
            planned_there = planned_there;
            made = made;
            passed = passed;
            arguments = eqb-true _ _ (both_true _ _ fits).0;
            free = eqb-true _ _ (both_true _ _ fits).1;
          }) is),
    ))))

-- ---- by kinds of functions

exits_alike : (k : Known) (m : codes.Machine) (q : plans.Machine) → q.output ≡ m.output → (its : List Val)
    → Follows k (calls.exits m its) (planned_calls.exits q its)
exits_alike k m q p (vals.number status ∷ []) = (refl, p)
exits_alike k m q p _ = tt

-- what is known where a function is entered
record IsEntered (k : Known) (m : codes.Machine) (q : plans.Machine) (settled : IsSettled k m q) (function : Function)
    (planned : PlannedFunction) (entry : calls.Entry) (it : planned_calls.Entry) : Type 0 where
  there : function_at k.code entry.function ≡ Some function
  planned_there : slice_get k.w.plan.functions.items entry.function.number ≡ Some planned
  made : IsFunction k.code (k.marks entry.function.number) function planned
  passed : entry.chain ≤ most_passed
  is : IsEntry k settled.g.frames entry it

pushed_in : (k : Known) (m : codes.Machine) (q : plans.Machine) (settled : IsSettled k m q) (function : Function)
    (planned : PlannedFunction) (entry : calls.Entry) (it : planned_calls.Entry)
    → IsEntered k m q settled function planned entry it
    → Follows k (calls.pushed function entry m) (planned_calls.pushed planned it q)
pushed_in k m q settled function planned entry it in_it =
    pushed_alike k m q settled function planned entry it in_it.there in_it.planned_there in_it.made in_it.passed in_it.is

source_alike : (k : Known) (m : codes.Machine) (q : plans.Machine) (settled : IsSettled k m q) (function : Function)
    (planned : PlannedFunction) (entry : calls.Entry) (it : planned_calls.Entry)
    → IsEntered k m q settled function planned entry it
    → Follows k (calls.enters_source k.code m settled.g function entry) (planned_calls.enters_source planned it q)
source_alike k m q settled function planned entry it in_it =
    follows_either k (calls.is_full k.code settled.g) (nat_le most_frames q.current.sources) (ap (nat_le most_frames) settled.sources)
    _ _ _ _ (λ full. (refl, settled.around.output))
    (λ room. spends_alike k m q settled.around (calls.pushed function entry) (planned_calls.pushed planned it)
    (λ n. pushed_alike k (record m { ticks = n }) (record q { ticks = n }) (with_ticks k m q settled n) function planned entry it
    in_it.there in_it.planned_there in_it.made in_it.passed in_it.is))

external_alike : (k : Known) → IsKnown k → (m : codes.Machine) (q : plans.Machine) → IsSettled k m q → (b : Bool)
    → (planned : PlannedFunction) (its : List Val) (it : planned_calls.Entry) → it.arguments ≡ its
    → Follows k (if b then calls.exits m its else unwinding.switches k.code point.Yield m)
    (planned_calls.enters_role k.w planned (if b then role.Exit else role.Gosched) it q)
external_alike k known m q settled true planned its it p =
    subst (λ (x : List Val). Follows k (calls.exits m its) (planned_calls.exits q x)) (sym p)
    (exits_alike k m q settled.around.output its)
external_alike k known m q settled false planned its it p =
    switches_alike k known point.Yield m q (settled_machine k m q settled)

kind_alike : (k : Known) → IsKnown k → (m : codes.Machine) (q : plans.Machine) (settled : IsSettled k m q)
    (function : Function) (planned : PlannedFunction) (entry : calls.Entry) (it : planned_calls.Entry)
    → IsEntered k m q settled function planned entry it → (of : FunctionKind)
    → Follows k (calls.enters_kind k.code m settled.g function of entry)
    (planned_calls.enters_role k.w planned (role_of function of) it q)
kind_alike k known m q settled function planned entry it in_it kind.Source =
    source_alike k m q settled function planned entry it in_it
kind_alike k known m q settled function planned entry it in_it kind.Init =
    pushed_in k m q settled function planned entry it in_it
kind_alike k known m q settled function planned entry it in_it kind.Wrapper =
    pushed_in k m q settled function planned entry it in_it
kind_alike k known m q settled function planned entry it in_it kind.External =
    external_alike k known m q settled (bytes_eq function.name (bytes_of "os.Exit")) planned entry.arguments it in_it.is.arguments

-- ---- entries

found_alike : (k : Known) → IsKnown k → (m : codes.Machine) (q : plans.Machine) (settled : IsSettled k m q)
    (entry : calls.Entry) (it : planned_calls.Entry) → IsEntry k settled.g.frames entry it
    → (found : Option Function) (other : Option PlannedFunction)
    → IsFunctionAt k.code (k.marks entry.function.number) found other → function_at k.code entry.function ≡ found
    → slice_get k.w.plan.functions.items entry.function.number ≡ other
    → Follows k (if nat_lt most_passed entry.chain then codes.ends ending.StackOverflow m.output
    else codes.where_there (λ function. calls.enters_kind k.code m settled.g function function.kind entry) found)
    (plans.where_there (λ function. if nat_lt most_passed it.chain then plans.ends ending.StackOverflow q.output
    else planned_calls.enters_role k.w function function.role it q) other)
found_alike k known m q settled entry it is None None at p r = follows_stuck k _
found_alike k known m q settled entry it is (Some function) (Some planned) at p r =
    follows_either k (nat_lt most_passed entry.chain) (nat_lt most_passed it.chain) (ap (nat_lt most_passed) is.chain) _ _ _ _
    (λ many. (refl, settled.around.output))
    (λ few. subst (λ (x : Role). Follows k (calls.enters_kind k.code m settled.g function function.kind entry)
    (planned_calls.enters_role k.w planned x it q)) (sym at.role)
    (kind_alike k known m q settled function planned entry it
    (record { there = p; planned_there = r; made = at; passed = ltb-false _ _ few; is = is }) function.kind))
found_alike k known m q settled entry it is _ _ at p r = absurd at

pub enters_alike : (k : Known) → IsKnown k → (m : codes.Machine) (q : plans.Machine) → (settled : IsSettled k m q)
    → (entry : calls.Entry) (it : planned_calls.Entry) → IsEntry k settled.g.frames entry it
    → Follows k (calls.enters k.code m entry) (planned_calls.enters k.w it q)
enters_alike k known m q settled entry it is =
    subst (λ (x : Option codes.Goroutine). Follows k (if nat_lt most_passed entry.chain then codes.ends ending.StackOverflow m.output
    else codes.where_there (λ g. codes.where_there (λ function. calls.enters_kind k.code m g function function.kind entry)
    (function_at k.code entry.function)) x) (planned_calls.enters k.w it q)) (sym settled.there)
    (subst (λ (n : ℕ). Follows k (if nat_lt most_passed entry.chain then codes.ends ending.StackOverflow m.output
    else codes.where_there (λ function. calls.enters_kind k.code m settled.g function function.kind entry)
    (function_at k.code entry.function))
    (plans.where_there (λ function. if nat_lt most_passed it.chain then plans.ends ending.StackOverflow q.output
    else planned_calls.enters_role k.w function function.role it q) (slice_get k.w.plan.functions.items n))) (sym is.function)
    (found_alike k known m q settled entry it is _ _ (known.functions entry.function.number) refl refl))
