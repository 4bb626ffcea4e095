-- One step of a run: a piece of what the frame that runs is still to do, or what a frame that returns or
-- panics does, or what a goroutine without frames does. Each piece stands for what the Go specification says of the
-- form that put it.
use Rattle.std.specs.Prelude.{ℕ, Bool, true, false, List, [], ◌∷◌, ◌++◌, reverse, take, drop, length, ℤ, pos}
use Rattle.std.specs.Prelude.{Option, Some, None}
use Rattle.go_base.specs.declared.ids.TypeId.{TypeId}
use Rattle.go_base.specs.declared.ids.VarId.{VarId}
use Rattle.go_store.specs.Cells.{value_at}
use Rattle.go_tree.specs.declared.exprs.TypedExpr.{TypedExpr}
use Rattle.go_value.specs.Interfaces.{converted}
use Rattle.go_value.specs.Values.{Val, truth, number, pointer, map_number}
use Rattle.ssa_mean.specs.Arithmetic.{binary, unary_of}
use Rattle.ssa_mean.specs.Comes.{Comes, to, faults, nowhere, then_to, where_some, of_option, of_result}
use Rattle.ssa_mean.specs.Conversions.{Stores, kept}
use Rattle.ssa_mean.specs.Making.{Channels, held_as, assertion, leaves_of, made_chan, made_slice}
use Rattle.ssa_mean.specs.MapCalls.{made_map}
use Rattle.ssa_mean.specs.Places.{load, followed, field_of, field_address, index_address, part_between}
use Rattle.ssa_mean.specs.State.{FrameState, running}
use Rattle.go_mean.specs.Channels.{sends_found, receives_found, selects_found, with_sched}
use Rattle.go_mean.specs.Expressions.{Opened, puts, finds, opened, addressed, operands_of, item_of, look_up}
use Rattle.go_mean.specs.Expressions.{converted_to}
use Rattle.go_mean.specs.Expressions.{bound_value, literal_value, literal_of, making_count, in_new_cell}
use Rattle.go_mean.specs.Expressions.{where_addressed}
use Rattle.go_mean.specs.Flow.{branches, on_truth, begins_tests, begins_type_tests, picks_default, picks_type_default}
use Rattle.go_mean.specs.Flow.{widens, compares_tag, compared_with, tag_in, matches, is_case_of, goes_later, goes_again}
use Rattle.go_mean.specs.Flow.{decides, begins_body, goes_next, copies_all, begins_loop, turns, goes_received}
use Rattle.go_mean.specs.Flow.{values_of_turn, goes_chosen, goes_rest}
use Rattle.go_mean.specs.Places.{Changed, zero_of, element_type, put_into, get_place, count_into, begun, begun_zero}
use Rattle.go_mean.specs.Ranges.{turn_pair}
use Rattle.go_mean.specs.Returns.{calls_with, calls_so, readied, built_in_so, returns, unwinds, begins}
use Rattle.go_mean.specs.State.{Setting, Into, Making, Piece, evaluate, address, operands, address_field, address_item}
use Rattle.go_mean.specs.State.{address_element, check_pointer, lookup, cut, fork, join, convert, to_interface, assert}
use Rattle.go_mean.specs.State.{bind, hold, receive, literal, make_literal, make_slice, make_map, make_chan}
use Rattle.go_mean.specs.State.{new_variable}
use Rattle.go_mean.specs.State.{counted, call, built_in, simple, send, put, put_zero, get, give, branch, hold_tag}
use Rattle.go_mean.specs.State.{no_tag}
use Rattle.go_mean.specs.State.{hold_operand, pick_default, pick_type_default, widen, match_tag, match_widened}
use Rattle.go_mean.specs.State.{match_truth, is_case, bind_clause, enter_loop, decide, begin_body, copy_variables, back}
use Rattle.go_mean.specs.State.{enter_range, got, turn_values, select, chosen, at_once, of_function, Later, rest, leave}
use Rattle.go_mean.specs.State.{leave_clause, cases, type_cases, again, behind_body, turn, next_turn, initialise, start}
use Rattle.go_mean.specs.State.{Frame, Goroutine, Machine, Next, goes, ends, stuck, where_there, current, Site, goes_as}
use Rattle.go_mean.specs.State.{finding}
use Rattle.go_mean.specs.State as pieces
use Rattle.go_mean.specs.Statements.{initialises, simple_pieces}
use Rattle.go_mean.specs.Taking.{having, with_one, with_two, with_last, with_bound, on_integer, puts_pieces}
use Rattle.go_mean.specs.Taking.{finds_stored}
use Rattle.go_mean.specs.Taking.{finds_value, changes, program_of, types_of, store_of}
use Rattle.go_mean.specs.Unwinding.{meets, spends}

-- ---- expressions

abbrev pub opens : Site → Opened → Next
opens s (puts work) = puts_pieces s work
opens s (finds it) = finds_value s it

abbrev pub checked : Val → Comes Val
checked (pointer at) = followed at (to (pointer at))
checked it = nowhere

-- "Logical operators": the right operand is evaluated where the left one does not decide
abbrev pub forks : Site → Bool → TypedExpr → Bool → Next
forks s true right true = goes_as s (finding (truth true) s.frame)
forks s true right false = puts_pieces s (evaluate right ∷ join ∷ [])
forks s false right false = goes_as s (finding (truth false) s.frame)
forks s false right true = puts_pieces s (evaluate right ∷ join ∷ [])

-- "Slice expressions": the bounds were found behind the operand
abbrev pub cut_operand : Option ℕ → Option ℤ → Option ℤ → Option ℤ → Site → Next
cut_operand len low high max s =
    with_one s (λ it s. finds_value s (part_between len it (record { low = low; high = high; max = max })))

abbrev pub cut_low : Option ℕ → Bool → Option ℤ → Option ℤ → Site → Next
cut_low len has_low high max s = with_bound has_low s (λ low s. cut_operand len low high max s)

abbrev pub cut_high : Option ℕ → Bool → Bool → Option ℤ → Site → Next
cut_high len has_low has_high max s = with_bound has_high s (λ high s. cut_low len has_low high max s)

abbrev pub cuts : Site → Bool → Bool → Bool → Option ℕ → Next
cuts s has_low has_high has_max len = with_bound has_max s (λ max s. cut_high len has_low has_high max s)

-- "Type assertions"
abbrev pub asserts : Site → TypeId → Bool → Val → Comes Val
asserts s wanted comma_ok it =
    where_some (assertion comma_ok it wanted (held_as (types_of s) s.setting.answers it wanted))
    (zero_of (program_of s) wanted)

-- "Making slices, maps and channels": the capacity of a slice is its length where it is not given, and a channel has no
-- buffer; the size of a map is only a hint
abbrev pub slice_made : Site → TypeId → ℤ → ℤ → Comes Stores
slice_made s of len cap =
    where_some (λ elem. where_some (λ zero_value.
    made_slice (leaves_of (types_of s) elem) (store_of s) zero_value len cap) (zero_of (program_of s) elem))
    (element_type (types_of s) of)

abbrev pub makes_slice : Site → TypeId → Bool → Next
makes_slice s of true =
    with_two s (λ len cap s. on_integer len (λ len. on_integer cap (λ cap. finds_stored s (slice_made s of len cap))))
makes_slice s of false = with_one s (λ len s. on_integer len (λ len. finds_stored s (slice_made s of len len)))

abbrev pub map_made : Site → Comes Stores
map_made s =
    to (record {
      value = map_number (Some (record { number = length (store_of s).maps }));
      store = made_map (store_of s);
    })

abbrev pub makes_map : Site → Bool → Next
makes_map s true = with_one s (λ hint s. finds_stored s (map_made s))
makes_map s false = finds_stored s (map_made s)

abbrev pub finds_channel : Site → Comes Channels → Next
finds_channel s (to it) =
    goes_as (record s { machine = with_sched it.sched s.machine }) (finding it.value s.frame)
finds_channel s (faults it) = meets s.setting s.machine it
finds_channel s nowhere = stuck

abbrev pub chan_made : Site → TypeId → ℤ → Comes Channels
chan_made s of size =
    where_some (λ elem. made_chan (leaves_of (types_of s) elem) s.machine.sched size) (element_type (types_of s) of)

abbrev pub makes_chan : Site → TypeId → Bool → Next
makes_chan s of true = with_one s (λ size s. on_integer size (λ size. finds_channel s (chan_made s of size)))
makes_chan s of false = finds_channel s (chan_made s of (pos 0))

-- "Allocation"
abbrev pub new_made : Site → TypeId → Comes Stores
new_made s of = then_to (λ it. in_new_cell (kept (store_of s) it)) (of_option (zero_of (program_of s) of))

abbrev pub makes_literal : Site → Making → TypeId → Bool → List Val → Next
makes_literal s making of addressed items =
    finds_stored s
    (then_to (where_addressed addressed) (literal_of (program_of s) s.setting.answers (store_of s) of making items))

-- ---- assignments: the operands of a place were found first, and its value behind the operands of those that follow

-- the operands of a place, its value, and what else was found
abbrev pub puts_at : Site → Into → List Val → List Val → List Val → Next
puts_at s into place between [] = stuck
puts_at s into place between (it ∷ others) =
    changes (having s (reverse (between ++ others))) (put_into s.setting (store_of s) s.frame into place it)

abbrev pub puts_among : Site → Into → ℕ → List Val → List Val → Next
puts_among s into behind place found = puts_at s into place (take behind found) (drop behind found)

abbrev pub puts_value : Site → Into → ℕ → List Val → Next
puts_value s into behind found =
    puts_among s into behind (take (count_into into) found) (drop (count_into into) found)

abbrev pub zeroes : Site → VarId → Next
zeroes s v =
    where_there (λ (it : Changed). changes s (to it))
    (begun_zero (program_of s) s.frame.function (store_of s) s.frame.env v)

-- ---- the pieces

unfoldable pub acts : Site → Piece → Next
acts s (evaluate x) = opens s (opened (program_of s) s.frame (store_of s) x)
acts s (address x) = opens s (addressed (program_of s) s.frame x)
acts s (operands x) = puts_pieces s (operands_of x)
acts s (address_field n) = with_one s (λ it s. finds_value s (field_address it n))
acts s (address_item len) = with_two s (λ it index s. finds_value s (index_address (Some len) it index))
acts s address_element = with_two s (λ it index s. finds_value s (index_address None it index))
acts s check_pointer = with_one s (λ it s. finds_value s (checked it))
acts s (pieces.field n) = with_one s (λ it s. finds_value s (field_of it n))
acts s pieces.item = with_two s (λ it index s. finds_value s (item_of (store_of s) it index))
acts s pieces.load = with_one s (λ it s. finds_value s (load (store_of s) it))
acts s (lookup comma_ok of) =
    with_two s (λ it key s.
    finds_value s (look_up (program_of s) s.setting.answers (store_of s) comma_ok of it key))
acts s (cut low high max len) = cuts s low high max len
acts s (pieces.unary op kind) = with_one s (λ it s. finds_value s (unary_of kind op it))
acts s (pieces.binary op kind) = with_two s (λ a b s. finds_value s (binary s.setting.answers kind op a b))
acts s (fork decides right) = with_one s (λ it s. on_truth it (forks s decides right))
acts s join = goes_as s s.frame
acts s (convert from wanted) =
    with_one s (λ it s. finds_stored s (converted_to (types_of s) (store_of s) from wanted it))
acts s (to_interface from) = with_one s (λ it s. finds_value s (of_result (converted (types_of s) from it)))
acts s (assert wanted comma_ok) = with_one s (λ it s. finds_value s (asserts s wanted comma_ok it))
acts s (bind method) = with_one s (λ it s. finds_value s (bound_value method it))
acts s hold = with_one s (λ it s. goes_as s (record (s.frame) { tuple = it }))
acts s (receive of comma_ok) = receives_found s of comma_ok s.frame.found
acts s (literal id) = finds_value s (literal_value (program_of s) s.frame id)
acts s (make_literal making of addressed) =
    with_last s (making_count making) (λ items s. makes_literal s making of addressed items)
acts s (make_slice of has_cap) = makes_slice s of has_cap
acts s (make_map of has_hint) = makes_map s has_hint
acts s (make_chan of has_size) = makes_chan s of has_size
acts s (new_variable of) = finds_stored s (new_made s of)
acts s (counted len) = with_one s (λ it s. finds_value s (to (number (pos len))))
acts s (call manner called count at) = with_last s count (λ arguments s. calls_with s manner called at arguments)
acts s (built_in manner it count at) = with_last s count (λ arguments s. built_in_so s manner it at arguments)
acts s (simple stmt) = where_there (puts_pieces s) (simple_pieces (program_of s) stmt)
acts s pieces.drop = goes_as s (record (s.frame) { found = [] })
acts s send = sends_found s s.frame.found
acts s (put into behind) = puts_value s into behind (reverse s.frame.found)
acts s (put_zero v) = zeroes s v
acts s (get place) =
    finds_value s
    (get_place s.setting (store_of s) s.frame place.root place.reach place (reverse s.frame.found))
acts s (give values) = returns s values
acts s (branch body arms otherwise) = with_one s (λ it s. on_truth it (branches s body arms otherwise))
acts s (hold_tag of clauses) = with_one s (λ it s. begins_tests s (Some (record { of = of; value = it })) clauses)
acts s (no_tag clauses) = begins_tests s None clauses
acts s (hold_operand of clauses) = with_one s (λ it s. begins_type_tests s (record { of = of; value = it }) clauses)
acts s pick_default = picks_default s s.frame.later
acts s pick_type_default = picks_type_default s s.frame.later
acts s widen = widens s (tag_in s.frame.later)
acts s match_tag = with_one s (λ it s. compares_tag s it (tag_in s.frame.later))
acts s match_widened = with_two s (λ tag it s. compared_with s tag it)
acts s match_truth = with_one s (λ it s. on_truth it (matches s s.frame.later))
acts s is_case = is_case_of s s.frame.later
acts s (bind_clause v it) =
    changes s (to (begun (program_of s) s.frame.function v it (store_of s) s.frame.env))
acts s (enter_loop loop) = goes_later s (again loop ∷ s.frame.later)
acts s decide = with_one s (λ it s. on_truth it (decides s s.frame.later))
acts s begin_body = spends s.machine (λ m. begins_body (record s { machine = m }) s.frame.later)
acts s (copy_variables vs) = changes s (copies_all s vs)
acts s back = goes_as s s.frame
acts s (enter_range loop) = begins_loop s loop loop.over
acts s got = with_one s (λ it s. goes_received s s.frame.later (value_at it 0) (value_at it 1))
acts s (turn_values loop about) = values_of_turn s loop (turn_pair (store_of s) loop.targets about)
acts s (select clauses) = selects_found s clauses
acts s (chosen clause it) = goes_chosen s clause.body clause.comm it

-- ---- what is left to do behind a statement. A body that ends returns

unfoldable pub continues : Site → List Later → Next
continues s [] = puts_pieces s (give false ∷ [])
continues s (rest stmts ∷ later) = goes_rest s stmts later
continues s (leave ∷ later) = goes_later s later
continues s (leave_clause bodies ∷ later) = goes_later s later
continues s (cases c ∷ later) = stuck
continues s (type_cases c ∷ later) = stuck
continues s (again loop ∷ later) = goes_again s loop loop.condition
continues s (behind_body loop ∷ later) = goes_next s (behind_body loop ∷ later)
continues s (turn loop at ∷ later) = turns s loop at later
continues s (next_turn loop at ∷ later) = goes_next s (next_turn loop at ∷ later)
continues s (initialise step ∷ later) =
    goes_as s (record (s.frame) { work = initialises (program_of s) step; later = later })
continues s (start id at ∷ later) =
    calls_so (record s { frame = record (s.frame) { later = later } }) at_once (readied s at (of_function id []) [])

-- ---- a frame that runs

abbrev pub does : Site → List Piece → Next
does s [] = continues s s.frame.later
does s (piece ∷ work) = acts (record s { frame = record (s.frame) { work = work } }) piece

abbrev pub site_of : Setting → Machine → Goroutine → Frame → List Frame → Site
site_of s m g top below = record { setting = s; machine = m; goroutine = g; below = below; frame = top }

abbrev pub moves : Setting → Machine → Goroutine → Frame → List Frame → FrameState → Next
moves s m g top below running = does (site_of s m g top below) top.work
moves s m g top below _ = unwinds s m g top below top.defers

abbrev pub steps_on : Setting → Machine → Goroutine → List Frame → Next
steps_on s m g [] = begins s m g g.begin
steps_on s m g (top ∷ below) = moves s m g top below top.state

-- ---- a step. It has room for the numbers that its choices take: one among cases, and one among goroutines

abbrev pub with_room : Machine → Machine
with_room m = record m { sched = record (m.sched) { spare = 2 } }

unfoldable pub step : Setting → Machine → Next
step s m = where_there (λ g. steps_on s (with_room m) g g.frames) (current m)
