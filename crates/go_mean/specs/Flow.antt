-- Where statements lead: conditions, clauses, loops and their turns. Go specification, "If statements", "Switch
-- statements", "For statements", "Select statements" and "Terminating statements".
use Rattle.std.specs.Prelude.{Bool, true, false, List, [], ◌∷◌, ◌++◌, map, drop, Option, Some, None}
use Rattle.std.specs.Prelude.{take, reverse, length, is_some, if◌then◌else◌}
use Rattle.std.specs.List.{flat_map}
use Rattle.go_base.specs.declared.ids.TypeId.{TypeId}
use Rattle.go_base.specs.declared.ids.VarId.{VarId}
use Rattle.go_tree.specs.declared.exprs.TypedExpr.{TypedExpr}
use Rattle.go_tree.specs.declared.program.Program.{Program}
use Rattle.go_tree.specs.declared.stmts.Comm.{Comm}
use Rattle.go_tree.specs.declared.stmts.Comm.TheVariants as comm
use Rattle.go_tree.specs.declared.stmts.RangeOver.{RangeOver}
use Rattle.go_tree.specs.declared.stmts.RangeOver.TheVariants as over_of
use Rattle.go_tree.specs.declared.stmts.ReceiveInto.{ReceiveInto}
use Rattle.go_tree.specs.declared.stmts.ReceiveInto.TheVariants as into_of
use Rattle.go_tree.specs.declared.stmts.TypeCase.{TypeCase}
use Rattle.go_tree.specs.declared.stmts.TypeCase.TheVariants as type_case
use Rattle.go_tree.specs.declared.stmts.TypeClause.{TypeClause}
use Rattle.go_tree.specs.declared.stmts.TypedArm.{TypedArm}
use Rattle.go_tree.specs.declared.stmts.TypedBlock.{TypedBlock}
use Rattle.go_tree.specs.declared.stmts.TypedCase.{TypedCase}
use Rattle.go_tree.specs.declared.stmts.TypedClause.{TypedClause}
use Rattle.go_tree.specs.declared.stmts.TypedStmt.{TypedStmt}
use Rattle.go_type.specs.declared.operators.CompareOp.TheVariants as comparison
use Rattle.go_value.specs.Interfaces.{converted, is_interface_type}
use Rattle.go_value.specs.Values.{Val, Typed, truth, nil_interface}
use Rattle.ssa_mean.specs.Arithmetic.{comparison_of}
use Rattle.ssa_mean.specs.Comes.{Comes, to, faults, nowhere, and_then, then_to, where_some, of_result}
use Rattle.ssa_mean.specs.Making.{held_as, pair_of}
use Rattle.go_mean.specs.Channels.{received, with_sched}
use Rattle.go_mean.specs.Places.{Changed, begun, begun_zeros, held_of, value_in}
use Rattle.go_mean.specs.Ranges.{loop_variables, begins_range, Taken, Sought, is_taken, is_over, asks, is_lost, sought}
use Rattle.go_mean.specs.Ranges.{turn_pieces, asked_of}
use Rattle.go_mean.specs.State.{Setting, Turned, RangeLoop, Ranging, Loop, Test, Choosing, Piece, evaluate, receive}
use Rattle.go_mean.specs.State.{put}
use Rattle.go_mean.specs.State.{Into, Held, in_cell, as_value, Binding, pick_default, pick_type_default, widen}
use Rattle.go_mean.specs.State.{match_tag}
use Rattle.go_mean.specs.State.{match_widened, match_truth, is_case, bind_clause, decide, begin_body, copy_variables}
use Rattle.go_mean.specs.State.{back}
use Rattle.go_mean.specs.State.{got, Later, rest, leave, leave_clause, cases, type_cases, again, behind_body, turn}
use Rattle.go_mean.specs.State.{next_turn, Frame, Machine, Next, goes, stuck, where_there, Site, with_frame, goes_as}
use Rattle.go_mean.specs.State.{finding}
use Rattle.go_mean.specs.State as pieces
use Rattle.go_mean.specs.Statements.{Begun, does, opens, breaks, continues, falls_through, begins_nothing, put_all}
use Rattle.go_mean.specs.Statements.{into_define, into_target, target_operands, arm_pieces, block_in, tests_from}
use Rattle.go_mean.specs.Statements.{type_tests_from, post_pieces, broken_to, continued_to, fallen_to}
use Rattle.go_mean.specs.Statements.{begun as begun_statement}
use Rattle.go_mean.specs.Taking.{with_one, puts_pieces, finds_value, at_store, program_of, types_of}
use Rattle.go_mean.specs.Taking.{store_of}
use Rattle.go_mean.specs.Unwinding.{meets}

-- the frame with what is left to do behind the statement
abbrev pub goes_later : Site → List Later → Next
goes_later s later = goes_as s (record (s.frame) { later = later })

-- with pieces, and what is left to do behind them
abbrev pub goes_both : Site → List Piece → List Later → Next
goes_both s work later = goes_as s (record (s.frame) { work = work ++ s.frame.work; later = later })

abbrev pub on_truth : Val → (Bool → Next) → Next
on_truth (truth it) onward = onward it
on_truth _ onward = stuck

-- ---- "If statements"

abbrev pub branches : Site → TypedBlock → List TypedArm → Option TypedBlock → Bool → Next
branches s body arms otherwise true = goes_later s (rest body.statements.items ∷ leave ∷ s.frame.later)
branches s body (arm ∷ arms) otherwise false = puts_pieces s (arm_pieces arm arms otherwise)
branches s body [] otherwise false = goes_later s (block_in otherwise ++ s.frame.later)

-- ---- "Switch statements": the cases from left to right and from top to bottom; the default where none is met

abbrev pub bodies_of : List TypedClause → List TypedBlock
bodies_of clauses = map (λ (it : TypedClause). it.body) clauses

-- the body of a clause; it may fall through into those that follow
abbrev pub takes_clause : Site → List TypedClause → List Later → Next
takes_clause s [] later = stuck
takes_clause s (clause ∷ clauses) later =
    goes_later s (rest clause.body.statements.items ∷ leave_clause (bodies_of clauses) ∷ later)

abbrev pub from_default : List TypedClause → List TypedClause
from_default [] = []
from_default (clause ∷ clauses) = if clause.is_default then clause ∷ clauses else from_default clauses

abbrev pub takes_default : Site → List TypedClause → List Later → Next
takes_default s [] later = goes_later s later
takes_default s clauses later = takes_clause s clauses later

-- a channel of one direction is the channel itself, so that only interfaces are made
abbrev pub compares_as : Bool → List Piece → List Piece
compares_as true value = widen ∷ value ++ match_widened ∷ []
compares_as false value = value ++ match_tag ∷ []

abbrev pub compares : Site → Option Typed → Option TypeId → List Piece → List Piece
compares s None tag_to value = value ++ match_truth ∷ []
compares s (Some tag) None value = value ++ match_tag ∷ []
compares s (Some tag) (Some wanted) value = compares_as (is_interface_type (types_of s) wanted) value

-- the next test, or the default
abbrev pub tests_next : Site → Choosing TypedCase TypedClause → List (Test TypedCase) → List Later → Next
tests_next s c [] later = takes_default s (from_default c.clauses) later
tests_next s c (test ∷ tests) later =
    goes_both s (compares s c.tag test.case.tag_to (evaluate test.case.value ∷ []))
    (cases (record c { tests = test ∷ tests }) ∷ later)

-- a switch without any test goes to its default
abbrev pub picks_first : Site → Choosing TypedCase TypedClause → List (Test TypedCase) → List TypedClause → Next
picks_first s c [] [] = goes_as s s.frame
picks_first s c [] (clause ∷ clauses) = goes_both s (pick_default ∷ []) (cases c ∷ s.frame.later)
picks_first s c (test ∷ tests) default = tests_next s c (test ∷ tests) s.frame.later

abbrev pub begins_tests : Site → Option Typed → List TypedClause → Next
begins_tests s tag clauses =
    picks_first s (record { tag = tag; tests = tests_from 0 clauses; clauses = clauses }) (tests_from 0 clauses)
    (from_default clauses)

abbrev pub picks_default : Site → List Later → Next
picks_default s (cases c ∷ later) = takes_default s (from_default c.clauses) later
picks_default s _ = stuck

abbrev pub met : Site → Choosing TypedCase TypedClause → List (Test TypedCase) → List Later → Bool → Next
met s c (test ∷ tests) later true = takes_clause s (drop test.clause c.clauses) later
met s c (test ∷ tests) later false = tests_next s c tests later
met s c [] later it = stuck

-- the test that stands first has an outcome
abbrev pub matches : Site → List Later → Bool → Next
matches s (cases c ∷ later) it = met s c c.tests later it
matches s _ it = stuck

abbrev pub tag_in : List Later → Option Typed
tag_in (cases c ∷ later) = c.tag
tag_in (type_cases c ∷ later) = c.tag
tag_in _ = None

abbrev pub matches_comes : Site → Comes Val → Next
matches_comes s (to it) = on_truth it (matches s s.frame.later)
matches_comes s (faults it) = meets s.setting s.machine it
matches_comes s nowhere = stuck

abbrev pub compared_with : Site → Val → Val → Next
compared_with s tag it = matches_comes s (comparison_of s.setting.answers comparison.Equal tag it)

abbrev pub compares_tag : Site → Val → Option Typed → Next
compares_tag s it None = stuck
compares_tag s it (Some tag) = compared_with s tag.value it

abbrev pub widens : Site → Option Typed → Next
widens s None = stuck
widens s (Some tag) = finds_value s (of_result (converted (types_of s) tag.of tag.value))

-- ---- "Type switches"

abbrev pub type_bodies_of : List TypeClause → List TypedBlock
type_bodies_of clauses = map (λ (it : TypeClause). it.body) clauses

-- in a clause with one case, which is a type, the variable has that type
abbrev pub asserted_as : Val → List TypeCase → Val → Val
asserted_as it (type_case.Of of ∷ []) held = held
asserted_as it _ held = it

abbrev pub binding_pieces : Option VarId → Val → List Piece
binding_pieces None it = []
binding_pieces (Some v) it = bind_clause v it ∷ []

abbrev pub takes_type_clause : Site → List TypeClause → Val → Val → List Later → Next
takes_type_clause s [] it held later = stuck
takes_type_clause s (clause ∷ clauses) it held later =
    goes_both s (binding_pieces clause.variable (asserted_as it clause.cases.items held))
    (rest clause.body.statements.items ∷ leave_clause [] ∷ later)

abbrev pub from_type_default : List TypeClause → List TypeClause
from_type_default [] = []
from_type_default (clause ∷ clauses) = if clause.is_default then clause ∷ clauses else from_type_default clauses

abbrev pub takes_type_default : Site → List TypeClause → Val → List Later → Next
takes_type_default s [] it later = goes_later s later
takes_type_default s clauses it later = takes_type_clause s clauses it it later

abbrev pub tests_type_next : Site → Choosing TypeCase TypeClause → Typed → List (Test TypeCase) → List Later → Next
tests_type_next s c tag [] later = takes_type_default s (from_type_default c.clauses) tag.value later
tests_type_next s c tag (test ∷ tests) later =
    goes_both s (is_case ∷ []) (type_cases (record c { tests = test ∷ tests }) ∷ later)

abbrev pub picks_type_first :
    Site → Choosing TypeCase TypeClause → Typed → List (Test TypeCase) → List TypeClause → Next
picks_type_first s c tag [] [] = goes_as s s.frame
picks_type_first s c tag [] (clause ∷ clauses) =
    goes_both s (pick_type_default ∷ []) (type_cases c ∷ s.frame.later)
picks_type_first s c tag (test ∷ tests) default = tests_type_next s c tag (test ∷ tests) s.frame.later

abbrev pub begins_type_tests : Site → Typed → List TypeClause → Next
begins_type_tests s tag clauses =
    picks_type_first s (record { tag = Some tag; tests = type_tests_from 0 clauses; clauses = clauses }) tag
    (type_tests_from 0 clauses) (from_type_default clauses)

abbrev pub picks_type_default : Site → List Later → Next
picks_type_default s (type_cases c ∷ later) =
    where_there (λ (tag : Typed). takes_type_default s (from_type_default c.clauses) tag.value later) c.tag
picks_type_default s _ = stuck

-- the operand as a value of the type of a case, where it is one; the case `nil` is a nil interface
abbrev pub case_value : Site → Val → TypeCase → Option Val
case_value s it (type_case.Of of) = held_as (types_of s) s.setting.answers it of
case_value s nil_interface type_case.Nil = Some nil_interface
case_value s it type_case.Nil = None

abbrev pub met_type :
    Site → Choosing TypeCase TypeClause → Typed → Test TypeCase → List (Test TypeCase) → List Later → Option Val → Next
met_type s c tag test tests later (Some held) =
    takes_type_clause s (drop test.clause c.clauses) tag.value held later
met_type s c tag test tests later None = tests_type_next s c tag tests later

abbrev pub tests_type : Site → Choosing TypeCase TypeClause → List Later → List (Test TypeCase) → Typed → Next
tests_type s c later [] tag = stuck
tests_type s c later (test ∷ tests) tag =
    met_type s c tag test tests later (case_value s tag.value test.case)

abbrev pub is_case_of : Site → List Later → Next
is_case_of s (type_cases c ∷ later) = where_there (tests_type s c later c.tests) c.tag
is_case_of s _ = stuck

-- ---- "For statements"

abbrev pub goes_again : Site → Loop → Option TypedExpr → Next
goes_again s loop None = puts_pieces s (begin_body ∷ [])
goes_again s loop (Some condition) = puts_pieces s (evaluate condition ∷ decide ∷ [])

-- where the condition is false the loop ends
abbrev pub decides : Site → List Later → Bool → Next
decides s (again loop ∷ later) true = puts_pieces s (begin_body ∷ [])
decides s (again loop ∷ later) false = goes_later s later
decides s _ it = stuck

-- a body begins
abbrev pub begins_body : Site → List Later → Next
begins_body s (again loop ∷ later) = goes_later s (rest loop.body.statements.items ∷ behind_body loop ∷ later)
begins_body s (turn loop at ∷ later) = goes_later s (rest loop.body.statements.items ∷ next_turn loop at ∷ later)
begins_body s _ = stuck

abbrev pub copies_pieces : List VarId → List Piece
copies_pieces [] = []
copies_pieces (v ∷ vs) = copy_variables (v ∷ vs) ∷ []

abbrev pub behind_pieces : List Piece → List Piece
behind_pieces [] = []
behind_pieces (piece ∷ work) = piece ∷ work ++ back ∷ []

-- behind a body: the variables of the next turn, and the post statement
abbrev pub goes_next : Site → List Later → Next
goes_next s (behind_body loop ∷ later) =
    goes_both s (behind_pieces (copies_pieces loop.fresh ++ post_pieces loop.post)) (again loop ∷ later)
goes_next s (next_turn loop at ∷ later) = goes_later s (turn loop at ∷ later)
goes_next s _ = stuck

-- "each iteration has its own separate declared variable": one that has a cell gets a new cell with the same value
abbrev pub copied_held : Site → VarId → Held → Comes Changed
copied_held s v (as_value it) = to (record { store = store_of s; env = s.frame.env })
copied_held s v (in_cell at) =
    then_to (λ it. begun (program_of s) s.frame.function v it (store_of s) s.frame.env)
    (value_in (store_of s) (in_cell at))

abbrev pub at_changed : Site → Changed → Site
at_changed s it = record (at_store it.store s) { frame = record (s.frame) { env = it.env } }

abbrev pub copies_all : Site → List VarId → Comes Changed
copies_all s [] = to (record { store = store_of s; env = s.frame.env })
copies_all s (v ∷ vs) =
    and_then (λ it. copies_all (at_changed s it) vs)
    (where_some (copied_held s v) (held_of (program_of s) s.frame v))

-- ---- ranges

abbrev pub with_variables : Site → Option Changed → (Site → Next) → Next
with_variables s None onward = stuck
with_variables s (Some it) onward = onward (at_changed s it)

abbrev pub enters_range : Site → RangeLoop → Val → Next
enters_range s loop it =
    where_there (λ at. with_variables s (begun_zeros (program_of s) s.frame.function (store_of s) s.frame.env
    (loop_variables loop.fresh loop.targets)) (λ s. goes_later s (turn loop at ∷ s.frame.later)))
    (begins_range (program_of s) (store_of s) loop.over loop.operand.of it)

-- a range over a constant number of turns has no operand
abbrev pub begins_loop : Site → RangeLoop → RangeOver → Next
begins_loop s loop (over_of.Constant len) = enters_range s loop nil_interface
begins_loop s loop over = with_one s (λ it s. enters_range s loop it)

abbrev pub takes_turn : Site → RangeLoop → List Later → Taken → Next
takes_turn s loop later it =
    goes_both (record s { machine = with_sched it.sched s.machine })
    (turn_pieces (program_of s) loop loop.targets it.about) (turn loop it.range ∷ later)

abbrev pub seeks : Site → RangeLoop → Ranging → List Later → Sought → Next
seeks s loop at later (is_taken it) = takes_turn s loop later it
seeks s loop at later is_over = goes_later s later
seeks s loop at later (asks channel) =
    goes_as s (record (finding channel s.frame) { work = receive loop.operand.of true ∷ got ∷ s.frame.work })
seeks s loop at later is_lost = stuck

abbrev pub turns : Site → RangeLoop → Ranging → List Later → Next
turns s loop at later = seeks s loop at later (sought (store_of s) s.machine.sched at)

-- what a channel gave: a value, or it is closed and empty
abbrev pub goes_received : Site → List Later → Option Val → Option Val → Next
goes_received s (turn loop at ∷ later) (Some it) (Some (truth true)) =
    puts_pieces s (turn_pieces (program_of s) loop loop.targets (pieces.received it))
goes_received s (turn loop at ∷ later) it (Some (truth false)) = goes_later s later
goes_received s _ it there = stuck

-- key and value become the tuple whose parts are asked for
abbrev pub values_of_turn : Site → RangeLoop → Comes Val → Next
values_of_turn s loop (to pair) =
    goes_as s (record (s.frame) { tuple = pair; found = asked_of loop.targets pair ++ s.frame.found })
values_of_turn s loop (faults it) = meets s.setting s.machine it
values_of_turn s loop nowhere = stuck

-- ---- "Select statements": the clause that was chosen

abbrev pub into_pieces : Program → ReceiveInto → List Piece
into_pieces p into_of.Nothing = []
into_pieces p (into_of.Define targets) = put_all (map (into_define p) targets.items)
into_pieces p (into_of.Assign targets each) =
    flat_map target_operands targets.items
    ++ (map evaluate each.items ++ put_all (map (into_target p) targets.items))

-- the value, and whether there was one, as far as they are asked for, the last first
abbrev pub received_asked : ReceiveInto → Val → Bool → List Val
received_asked (into_of.Define targets) it there = reverse (take (length targets.items) (it ∷ truth there ∷ []))
received_asked _ it there = []

abbrev pub gives_received : Site → TypedBlock → ReceiveInto → Bool → Val → Next
gives_received s body into there it =
    goes_as s (record (s.frame) {
      tuple = pair_of it (truth there);
      found = received_asked into it there;
      work = into_pieces (program_of s) into ++ s.frame.work;
      later = rest body.statements.items ∷ leave_clause [] ∷ s.frame.later;
    })

abbrev pub goes_chosen : Site → TypedBlock → Comm → Option (Option Val) → Next
goes_chosen s body (comm.Receive channel into) (Some it) =
    where_there (gives_received s body into (is_some it)) (received (program_of s) channel.of false it)
goes_chosen s body (comm.Receive channel into) None = stuck
goes_chosen s body _ it = goes_later s (rest body.statements.items ∷ leave_clause [] ∷ s.frame.later)

-- ---- statements

abbrev pub leaves_to : Site → Option (List Later) → Next
leaves_to s None = stuck
leaves_to s (Some later) = goes_later s later

abbrev pub nexts_to : Site → Option (List Later) → Next
nexts_to s None = stuck
nexts_to s (Some later) = goes_next s later

-- a statement begins, with what is left to do behind it
abbrev pub begins : Site → List Later → Begun → Next
begins s later (does work) = goes_both s work later
begins s later (opens entries) = goes_later s (entries ++ later)
begins s later (breaks levels) = leaves_to s (broken_to levels later)
begins s later (continues levels) = nexts_to s (continued_to levels later)
begins s later falls_through = leaves_to s (fallen_to later)
begins s later begins_nothing = stuck

abbrev pub goes_rest : Site → List TypedStmt → List Later → Next
goes_rest s [] later = goes_later s later
goes_rest s (stmt ∷ stmts) later = begins s (rest stmts ∷ later) (begun_statement (program_of s) stmt)
