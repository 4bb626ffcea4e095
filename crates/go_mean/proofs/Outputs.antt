-- What was written stays: a step writes behind it.
use Rattle.std.proofs.Common.{◌≡◌, ℕ, zero, suc, Bool, true, false, List, [], ◌∷◌, Option, Some, None, refl, subst}
use Rattle.std.specs.Prelude.{if◌then◌else◌, option_map, ℤ, reverse, Result, Ok, Err, is_some, take, drop, length, nat_le}
use Rattle.std.specs.Option.{option_and_then}
use Rattle.go_base.specs.declared.ending.Ending.{Ending}
use Rattle.go_base.specs.declared.ending.Ending.TheVariants as ending
use Rattle.go_base.specs.declared.ids.FuncId.{FuncId}
use Rattle.go_base.specs.declared.ids.GoId.{GoId}
use Rattle.go_base.specs.declared.ids.TypeId.{TypeId}
use Rattle.go_sched.specs.Operations.{Woken, Answer, Outcome, done, default, blocks, sends, receives, closes, selects}
use Rattle.go_sched.specs.declared.scheduling.Point.{Point}
use Rattle.go_sched.specs.declared.scheduling.Point.TheVariants as point
use Rattle.go_tree.specs.declared.functions.FunctionDecl.{FunctionDecl}
use Rattle.go_tree.specs.declared.functions.FunctionForm.{FunctionForm}
use Rattle.go_tree.specs.declared.functions.FunctionForm.TheVariants as form
use Rattle.go_tree.specs.declared.program.Body.{Body}
use Rattle.go_tree.specs.declared.program.Program.{Program}
use Rattle.go_tree.specs.declared.stmts.SelectClause.{SelectClause}
use Rattle.go_value.specs.Values.{Val, Typed}
use Rattle.go_value.specs.Values as vals
use Rattle.go_value.specs.declared.address.Pointer.{Pointer}
use Rattle.go_value.specs.declared.faults.Fault.{Fault}
use Rattle.go_value.specs.declared.faults.Fault.TheVariants as fault
use Rattle.ssa_mean.proofs.Outputs.{Stands, stays}
use Rattle.ssa_mean.specs.Comes.{Comes, to, faults, nowhere}
use Rattle.ssa_mean.specs.Conversions.{Stores}
use Rattle.ssa_mean.specs.State.{Thrown}
use Rattle.go_mean.specs.Calls as calls_of
use Rattle.go_mean.specs.Calls.{Selected, enters}
use Rattle.go_mean.specs.Channels as chans_of
use Rattle.go_mean.specs.Flow as flow_of
use Rattle.go_mean.specs.Places.{Changed}
use Rattle.go_mean.specs.State as parts
use Rattle.go_mean.specs.State.{Setting, Manner, Called, Callee, Readied, RangeLoop, Ranging, Loop, Test, Choosing, Piece, Later, Frame, Goroutine, Machine, Next, goes, ends, stuck, where_there, current, with_current, with_frames, Site, with_frame, goes_as, finding}
use Rattle.go_mean.specs.Taking as taking_of
use Rattle.go_mean.specs.Unwinding as unwinding_of

unfoldable pub Grows : List ℕ → Next → Type 0
Grows out (goes m) = Stands out m.output
Grows out (ends ending m) = Stands out m.output
Grows out stuck = Unit {0}

pub goes_grows : (out : List ℕ) (m : Machine) → Stands out m.output → Grows out (goes m)
unfolding Grows
goes_grows out m h = h

pub ends_grows : (out : List ℕ) (m : Machine) (it : Ending) → Stands out m.output → Grows out (ends it m)
unfolding Grows
ends_grows out m it h = h

pub stuck_grows : (out : List ℕ) → Grows out stuck
unfolding Grows
stuck_grows out = tt

pub some_grows : {A : Type 0} (out : List ℕ) (onward : A → Next) (it : Option A) → ((a : A) → Grows out (onward a))
    → Grows out (where_there onward it)
some_grows out onward None h = stuck_grows _
some_grows out onward (Some a) h = h a

pub either_grows : (out : List ℕ) (b : Bool) (one other : Next) → Grows out one → Grows out other
    → Grows out (if b then one else other)
either_grows out true one other p q = p
either_grows out false one other p q = q

-- the frame of a site goes on
pub as_grows : (s : Site) (frame : Frame) → Grows s.machine.output (goes_as s frame)
as_grows s frame = goes_grows _ _ (stays s.machine.output)

-- ---- panics and switch points

pub from_grows : (s : Setting) (m : Machine) (g : Goroutine) (frames : List Frame) (thrown : Thrown)
    → Grows m.output (unwinding_of.throws_from s m g frames thrown)
from_grows s m g [] thrown =
    some_grows m.output (λ (words : List ℕ). ends (ending.Panicked words) m) (unwinding_of.thrown_text s.program thrown)
    (λ words. ends_grows _ m _ (stays m.output))
from_grows s m g (top ∷ below) thrown = goes_grows _ _ (stays m.output)

pub throws_grows : (s : Setting) (m : Machine) (thrown : Thrown) → Grows m.output (unwinding_of.throws s m thrown)
throws_grows s m thrown = some_grows m.output _ _ (λ g. from_grows s m g g.frames thrown)

pub meets_grows : (s : Setting) (m : Machine) (it : Fault) → Grows m.output (unwinding_of.meets s m it)
meets_grows s m it = throws_grows s m _

pub panics_grows : (s : Setting) (m : Machine) (it : Val) → Grows m.output (unwinding_of.panics_with s m it)
panics_grows s m vals.nil_interface = meets_grows s m fault.PanicNil
panics_grows s m it = throws_grows s m _

pub tick_grows : (n : ℕ) (m : Machine) (onward : Machine → Next)
    → ((k : ℕ) → Grows m.output (onward (record m { ticks = k }))) → Grows m.output (unwinding_of.with_tick n m onward)
tick_grows zero m onward h = ends_grows _ m _ (stays m.output)
tick_grows (suc n) m onward h = h n

pub goes_with_grows : (s : Setting) (m : Machine) (g : Goroutine) (it : Option Fault)
    → Grows m.output (unwinding_of.goes_with s m g it)
goes_with_grows s m g None = goes_grows _ _ (stays m.output)
goes_with_grows s m g (Some it) = meets_grows s (with_current (record g { fault = None }) m) it

pub goes_on_grows : (s : Setting) (m : Machine) → Grows m.output (unwinding_of.goes_on s m)
goes_on_grows s m = some_grows m.output _ _ (λ g. goes_with_grows s m g g.fault)

pub chosen_grows : (s : Setting) (it : Option GoId) (m : Machine) → Grows m.output (unwinding_of.chosen s it m)
chosen_grows s None m = ends_grows _ m _ (stays m.output)
chosen_grows s (Some it) m = goes_on_grows s m

pub switches_grows : (s : Setting) (at : Point) (m : Machine) → Grows m.output (unwinding_of.switches s at m)
switches_grows s at m = tick_grows m.ticks m _ (λ k. chosen_grows s _ (record m { ticks = k; sched = _ }))

-- ---- calls

pub pushed_grows : (frame : Frame) (m : Machine) → Grows m.output (calls_of.pushed frame m)
pushed_grows frame m =
    some_grows m.output (λ (g : Goroutine). goes (with_frames g (frame ∷ g.frames) m)) (current m)
    (λ g. goes_grows _ _ (stays m.output))

pub body_grows : (s : Setting) (m : Machine) (id : FuncId) (body : Body) (captured : List Pointer) (arguments : List Val)
    (deferred : Bool) (g : Goroutine) → Grows m.output (calls_of.enters_body s m id body captured arguments deferred g)
body_grows s m id body captured arguments deferred g =
    either_grows m.output _ _ _ (ends_grows _ m _ (stays m.output))
    (tick_grows m.ticks m _ (λ k. some_grows m.output (calls_of.enters_with id body deferred (record m { ticks = k }))
    (calls_of.begun_body s.program id body captured arguments m.store)
    (λ at. pushed_grows _ (record m { ticks = k; store = at.store }))))

pub exits_grows : (m : Machine) (arguments : List Val) → Grows m.output (calls_of.exits m arguments)
exits_grows m [] = stuck_grows _
exits_grows m (vals.number status ∷ []) = ends_grows _ m _ (stays m.output)
exits_grows m _ = stuck_grows _

pub function_grows : (s : Setting) (m : Machine) (id : FuncId) (body : Option Body) (captured : List Pointer)
    (arguments : List Val) (deferred : Bool)
    → Grows m.output (calls_of.enters_function s m id body captured arguments deferred)
function_grows s m id None captured arguments deferred =
    either_grows m.output _ _ _ (exits_grows m arguments)
    (either_grows m.output _ _ _ (switches_grows s point.Yield m) (stuck_grows _))
function_grows s m id (Some body) captured arguments deferred =
    some_grows m.output _ (current m) (λ g. body_grows s m id body captured arguments deferred g)

pub enters_grows : (s : Setting) (m : Machine) (id : FuncId) (captured : List Pointer) (arguments : List Val)
    (deferred : Bool) → Grows m.output (calls_of.enters s m id captured arguments deferred)
unfolding enters
enters_grows s m id captured arguments deferred =
    function_grows s m id (calls_of.body_at s.program id) captured arguments deferred

pub calls_grows : (s : Setting) (m : Machine) (it : Readied) (deferred : Bool) (id : FuncId) (captured : List Pointer)
    (arguments : List Val) → Grows m.output (calls_of.calls s m it deferred id captured arguments)
calls_grows s m it deferred id captured arguments = enters_grows s (calls_of.noted id it m) id captured arguments deferred

pub selected_grows : (s : Setting) (m : Machine) (it : Readied) (deferred : Bool) (arguments : List Val) (which : Selected)
    → Grows m.output (calls_of.calls_selected s m it deferred arguments which)
selected_grows s m it deferred arguments (calls_of.selects id receiver) = calls_grows s m it deferred id [] (receiver ∷ arguments)
selected_grows s m it deferred arguments (calls_of.selects_fault of) = meets_grows s m of
selected_grows s m it deferred arguments calls_of.selects_too_deep = ends_grows _ m _ (stays m.output)
selected_grows s m it deferred arguments calls_of.selects_nothing = stuck_grows _

pub method_grows : (s : Setting) (m : Machine) (it : Readied) (deferred : Bool) (select : Val → Selected)
    (arguments : List Val) → Grows m.output (calls_of.calls_method s m it deferred select arguments)
method_grows s m it deferred select [] = stuck_grows _
method_grows s m it deferred select (receiver ∷ arguments) =
    selected_grows s m it deferred arguments (select receiver)

pub starts_with_grows : (s : Setting) (m : Machine) (id : FuncId) (declared : FunctionDecl) (which : FunctionForm)
    → Grows m.output (calls_of.starts_with s m id declared which)
starts_with_grows s m id declared form.PackageInit = pushed_grows _ m
starts_with_grows s m id declared form.Function = enters_grows s m id [] [] false
starts_with_grows s m id declared form.Method = enters_grows s m id [] [] false
starts_with_grows s m id declared form.Init = enters_grows s m id [] [] false
starts_with_grows s m id declared (form.Literal within) = enters_grows s m id [] [] false

-- ---- channels: those that go on write nothing

pub SameOutput : List ℕ → Option Machine → Type 0
SameOutput out None = Unit {0}
SameOutput out (Some m) = m.output ≡ out

some_same : (out : List ℕ) (m : Machine) → m.output ≡ out → SameOutput out (Some m)
unfolding SameOutput
some_same out m h = h

none_same : (out : List ℕ) → SameOutput out None
unfolding SameOutput
none_same out = tt

pub same_grows : (out : List ℕ) (onward : Machine → Next) (it : Option Machine) → SameOutput out it
    → ((m : Machine) → Grows m.output (onward m)) → Grows out (where_there onward it)
unfolding SameOutput
same_grows out onward None same h = stuck_grows _
same_grows out onward (Some m) same h = subst (λ front. Grows front (onward m)) same (h m)

same_and_then : (out : List ℕ) (onward : Machine → Option Machine) (it : Option Machine) → SameOutput out it
    → ((m : Machine) → SameOutput m.output (onward m)) → SameOutput out (option_and_then onward it)
unfolding SameOutput
same_and_then out onward None same h = none_same out
same_and_then out onward (Some m) same h = subst (λ front. SameOutput front (onward m)) same (h m)

mapped_same : {A : Type 0} (out : List ℕ) (f : A → Machine) (it : Option A) → ((a : A) → (f a).output ≡ out)
    → SameOutput out (option_map f it)
mapped_same out f None h = none_same out
mapped_same out f (Some a) h = some_same out (f a) (h a)

woken_same : (p : Program) (it : Woken) (m : Machine) → SameOutput m.output (chans_of.woken p it m)
woken_same p it m = mapped_same m.output _ _ (λ g. refl)

all_woken_same : (p : Program) (others : List Woken) (m : Machine) → SameOutput m.output (chans_of.all_woken p others m)
all_woken_same p [] m = some_same m.output m refl
all_woken_same p (it ∷ others) m =
    same_and_then m.output (chans_of.all_woken p others) (chans_of.woken p it m) (woken_same p it m)
    (all_woken_same p others)

pub completed_grows : (s : Setting) (others : List Woken) (m : Machine) → Grows m.output (chans_of.completed s others m)
completed_grows s others m =
    same_grows m.output _ _ (all_woken_same s.program others m) (switches_grows s point.After)

pub answered_grows : (s : Setting) (m : Machine) (onward : ℕ → Option Val → Option Machine) (otherwise : Option Machine)
    (answer : Answer) → ((index : ℕ) (it : Option Val) → SameOutput m.output (onward index it))
    → SameOutput m.output otherwise → Grows m.output (chans_of.answered s m onward otherwise answer)
answered_grows s m onward otherwise (done index it others) h none =
    same_grows m.output _ _ (h index it) (completed_grows s others)
answered_grows s m onward otherwise default h none = same_grows m.output _ _ none (switches_grows s point.After)
answered_grows s m onward otherwise blocks h none = switches_grows s point.Blocked m

pub came_grows : (s : Setting) (m : Machine) (onward : ℕ → Option Val → Option Machine) (otherwise : Option Machine)
    (it : Result Answer Fault) → ((index : ℕ) (it : Option Val) → SameOutput m.output (onward index it))
    → SameOutput m.output otherwise → Grows m.output (chans_of.came_to s m onward otherwise it)
came_grows s m onward otherwise (Ok answer) h none = answered_grows s m onward otherwise answer h none
came_grows s m onward otherwise (Err it) h none = meets_grows s m it

pub operated_grows : (s : Site) (piece : Piece) (otherwise : Option Machine) (outcome : Outcome)
    → SameOutput s.machine.output otherwise → Grows s.machine.output (chans_of.operated s piece otherwise outcome)
operated_grows s piece otherwise outcome none =
    came_grows s.setting (chans_of.with_sched outcome.after s.machine) (chans_of.behind s piece outcome.after) otherwise
    outcome.answer
    (λ index it. mapped_same s.machine.output
    (λ frame. chans_of.with_sched outcome.after (with_frame s frame))
    (chans_of.behind_piece s.setting.program index it piece s.frame) (λ frame. refl)) none

pub sends_grows : (s : Site) (found : List Val) → Grows s.machine.output (chans_of.sends_found s found)
sends_grows s (it ∷ vals.chan_number id ∷ found) = operated_grows s parts.send None (sends 0 it s.machine.sched id) (none_same _)
sends_grows s _ = stuck_grows _

pub receives_grows : (s : Site) (of : TypeId) (comma_ok : Bool) (found : List Val)
    → Grows s.machine.output (chans_of.receives_found s of comma_ok found)
receives_grows s of comma_ok (vals.chan_number id ∷ found) = operated_grows s (parts.receive of comma_ok) None (receives 0 s.machine.sched id) (none_same _)
receives_grows s of comma_ok _ = stuck_grows _

pub selects_grows : (s : Site) (clauses : List SelectClause) → Grows s.machine.output (chans_of.selects_found s clauses)
selects_grows s clauses =
    some_grows s.machine.output
    (λ cases. chans_of.selects_with s clauses (selects s.machine.sched cases (is_some (chans_of.default_of clauses))))
    (chans_of.cases_of clauses (reverse s.frame.found))
    (λ cases. let outcome : Outcome = selects s.machine.sched cases (is_some (chans_of.default_of clauses)) in
    operated_grows s (parts.select clauses)
    (option_map (chans_of.defaults s outcome.after) (chans_of.default_of clauses)) outcome
    (mapped_same s.machine.output (chans_of.defaults s outcome.after) (chans_of.default_of clauses) (λ clause. refl)))

pub closes_grows : (s : Setting) (m behind : Machine) (arguments : List Val) → behind.output ≡ m.output
    → Grows m.output (chans_of.closes_of s m behind arguments)
closes_grows s m behind [] same = stuck_grows _
closes_grows s m behind (vals.chan_number id ∷ []) same =
    let outcome : Outcome = closes m.sched id in
    came_grows s m (λ index it. Some (chans_of.with_sched outcome.after behind)) None outcome.answer
    (λ index it. some_same m.output (chans_of.with_sched outcome.after behind) same) (none_same _)
closes_grows s m behind _ same = stuck_grows _

-- ---- what was found

pub last_grows : (s : Site) (found : List Val) (onward : Val → Site → Next)
    → ((it : Val) (found : List Val) → Grows s.machine.output (onward it (taking_of.having s found)))
    → Grows s.machine.output (taking_of.last_of s found onward)
last_grows s [] onward h = stuck_grows _
last_grows s (it ∷ found) onward h = h it found

pub one_grows : (s : Site) (onward : Val → Site → Next)
    → ((it : Val) (found : List Val) → Grows s.machine.output (onward it (taking_of.having s found)))
    → Grows s.machine.output (taking_of.with_one s onward)
one_grows s onward h = last_grows s s.frame.found onward h

pub two_grows : (s : Site) (onward : Val → Val → Site → Next)
    → ((a b : Val) (found : List Val) → Grows s.machine.output (onward a b (taking_of.having s found)))
    → Grows s.machine.output (taking_of.with_two s onward)
two_grows s onward h =
    one_grows s _ (λ b found. one_grows (taking_of.having s found) (λ a s. onward a b s) (λ a found. h a b found))

pub with_last_grows : (s : Site) (n : ℕ) (onward : List Val → Site → Next)
    → ((items found : List Val) → Grows s.machine.output (onward items (taking_of.having s found)))
    → Grows s.machine.output (taking_of.with_last s n onward)
with_last_grows s n onward h =
    either_grows s.machine.output (nat_le n (length s.frame.found)) _ _
    (h (reverse (take n s.frame.found)) (drop n s.frame.found)) (stuck_grows _)

pub integer_grows : (out : List ℕ) (it : Val) (onward : ℤ → Next) → ((n : ℤ) → Grows out (onward n))
    → Grows out (taking_of.on_integer it onward)
integer_grows out (vals.number n) onward h = h n
integer_grows out _ onward h = stuck_grows _

pub truth_grows : (out : List ℕ) (it : Val) (onward : Bool → Next) → ((b : Bool) → Grows out (onward b))
    → Grows out (flow_of.on_truth it onward)
truth_grows out (vals.truth b) onward h = h b
truth_grows out _ onward h = stuck_grows _

pub bound_grows : (has : Bool) (s : Site) (onward : Option ℤ → Site → Next)
    → ((n : Option ℤ) (found : List Val) → Grows s.machine.output (onward n (taking_of.having s found)))
    → Grows s.machine.output (onward None s) → Grows s.machine.output (taking_of.with_bound has s onward)
bound_grows false s onward h none = none
bound_grows true s onward h none =
    one_grows s _ (λ it found. integer_grows s.machine.output it _ (λ n. h (Some n) found))

pub pieces_grows : (s : Site) (work : List Piece) → Grows s.machine.output (taking_of.puts_pieces s work)
pieces_grows s work = as_grows s _

pub stored_grows : (s : Site) (it : Comes Stores) → Grows s.machine.output (taking_of.finds_stored s it)
stored_grows s (to it) = goes_grows _ _ (stays s.machine.output)
stored_grows s (faults it) = meets_grows s.setting s.machine it
stored_grows s nowhere = stuck_grows _

pub value_grows : (s : Site) (it : Comes Val) → Grows s.machine.output (taking_of.finds_value s it)
value_grows s (to it) = as_grows s _
value_grows s (faults it) = meets_grows s.setting s.machine it
value_grows s nowhere = stuck_grows _

pub changes_grows : (s : Site) (it : Comes Changed) → Grows s.machine.output (taking_of.changes s it)
changes_grows s (to it) = goes_grows _ _ (stays s.machine.output)
changes_grows s (faults it) = meets_grows s.setting s.machine it
changes_grows s nowhere = stuck_grows _
