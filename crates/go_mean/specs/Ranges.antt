-- Ranges. Go specification, "For statements with range clause".
use Rattle.std.specs.Prelude.{ℕ, suc, Bool, true, false, List, [], ◌∷◌, ◌++◌, map, ℤ, pos, negsuc, Option, Some, None}
use Rattle.std.specs.Prelude.{nat_lt, length, if◌then◌else◌, option_map}
use Rattle.go_base.specs.declared.ids.TypeId.{TypeId}
use Rattle.go_base.specs.declared.ids.VarId.{VarId}
use Rattle.go_sched.specs.Goroutines.{State}
use Rattle.go_store.specs.Cells.{value_at}
use Rattle.go_store.specs.Stores.{Stored}
use Rattle.go_tree.specs.declared.program.Program.{Program}
use Rattle.go_tree.specs.declared.stmts.RangeOver.{RangeOver}
use Rattle.go_tree.specs.declared.stmts.RangeOver.TheVariants as over_of
use Rattle.go_tree.specs.declared.stmts.RangeTargets.{RangeTargets}
use Rattle.go_tree.specs.declared.stmts.RangeTargets.TheVariants as targets_of
use Rattle.go_tree.specs.declared.stmts.Target.{Target}
use Rattle.go_tree.specs.declared.stmts.Target.TheVariants as target
use Rattle.go_value.specs.Address.{part_of}
use Rattle.go_value.specs.Values.{Val, number, slice, pointer, parts, text_range, map_range, nil_interface}
use Rattle.ssa_mean.specs.Comes.{Comes, to, nowhere, and_then, then_to, of_option}
use Rattle.ssa_mean.specs.Making.{pair_of}
use Rattle.ssa_mean.specs.MapCalls.{entries_of}
use Rattle.ssa_mean.specs.Places.{load, followed, index_address}
use Rattle.ssa_mean.specs.Ranges.{Turn, range_of, text_turn, map_turn}
use Rattle.go_mean.specs.Expressions.{pointed_length}
use Rattle.go_mean.specs.Places.{array_length}
use Rattle.go_mean.specs.State.{Into, at_new, Piece, evaluate, begin_body, turn_values, RangeLoop}
use Rattle.go_mean.specs.State.{Ranging}
use Rattle.go_mean.specs.State.{counting, producing, receiving, Turned, at_index, produced, received}
use Rattle.go_mean.specs.Statements.{into_target, into_old, target_operands, put_all}

-- ---- a range begins: how many turns there are over an array, a slice or an integer is known then

abbrev pub count_of : ℤ → ℕ
count_of (pos n) = n
count_of (negsuc n) = 0

abbrev pub counting_to : Val → Option ℕ → Option Ranging
counting_to it len = option_map (λ len. counting it len 0) len

abbrev pub begins_range : Program → Stored → RangeOver → TypeId → Val → Option Ranging
begins_range p store over_of.Array of it = counting_to it (array_length p.types of)
begins_range p store over_of.ArrayPointer of it = counting_to it (pointed_length p.types of)
begins_range p store over_of.Slice of (slice it) = Some (counting (slice it) it.len 0)
begins_range p store (over_of.Constant len) of it = Some (counting it len 0)
begins_range p store over_of.Integer of (number n) = Some (counting (number n) (count_of n) 0)
begins_range p store over_of.Channel of it = Some (receiving it)
begins_range p store over_of.Text of it = option_map producing (range_of store it)
begins_range p store over_of.Map of it = option_map producing (range_of store it)
begins_range p store _ of it = None

-- the variables of a loop begin with it, unless each turn has its own
abbrev pub loop_variables : Bool → RangeTargets → List VarId
loop_variables true targets = []
loop_variables false (targets_of.Define (Some key) (Some value)) = key ∷ value ∷ []
loop_variables false (targets_of.Define (Some key) None) = key ∷ []
loop_variables false (targets_of.Define None (Some value)) = value ∷ []
loop_variables false _ = []

-- ---- a turn: what it is about, the state of the range after it, and the choices that are left

pub record Taken : Type 0 where
  pub about : Turned
  pub range : Ranging
  pub sched : State

-- what is found out about a turn: there is one, there is none, or a channel is to be received from
pub data Sought : Type 0 where
  is_taken : Taken → Sought
  is_over : Sought
  asks : Val → Sought
  is_lost : Sought

abbrev pub taken_as : Turn → Option Val → Option Val → Sought
taken_as it (Some key) (Some value) =
    is_taken (record { about = produced key value; range = producing it.range; sched = it.sched })
taken_as it _ _ = is_lost

-- the key and the value stand behind whether there is a turn
abbrev pub taken_of : Turn → Sought
taken_of it = taken_as it (value_at it.value 1) (value_at it.value 2)

abbrev pub sought_in : Option Turn → Sought
sought_in None = is_over
sought_in (Some it) = taken_of it

-- strings are decoded; of a map an entry is chosen among those that are left
abbrev pub produces : Stored → State → Val → Sought
produces store sched (text_range bytes next) =
    if nat_lt next (length bytes) then taken_of (text_turn sched bytes next) else is_over
produces store sched (map_range id left) =
    sought_in (map_turn id (entries_of store id) None None sched left)
produces store sched _ = is_lost

abbrev pub sought : Stored → State → Ranging → Sought
sought store sched (counting it len n) =
    if nat_lt n len
    then is_taken (record { about = at_index it n; range = counting it len (suc n); sched = sched })
    else is_over
sought store sched (producing it) = produces store sched it
sought store sched (receiving channel) = asks channel

-- ---- the pieces of a turn: the operands of what is assigned to, key and value, and the body

abbrev pub some_operands : Option Target → List Piece
some_operands None = []
some_operands (Some it) = target_operands it

abbrev pub into_some : Program → Option Target → List Into
into_some p None = []
into_some p (Some it) = into_target p it ∷ []

-- a variable of the loop, or one of this turn
abbrev pub into_variable : Program → Bool → Option VarId → List Into
into_variable p fresh None = []
into_variable p true (Some v) = at_new v ∷ []
into_variable p false (Some v) = into_old p v ∷ []

abbrev pub turn_pieces : Program → RangeLoop → RangeTargets → Turned → List Piece
turn_pieces p loop targets_of.None about = begin_body ∷ []
turn_pieces p loop (targets_of.Define key value) about =
    turn_values loop about
    ∷ put_all (into_variable p loop.fresh key ++ into_variable p loop.fresh value) ++ begin_body ∷ []
turn_pieces p loop (targets_of.Assign key value each) about =
    some_operands key ++ (some_operands value
    ++ turn_values loop about
    ∷ map evaluate each.items ++ (put_all (into_some p key ++ into_some p value) ++ begin_body ∷ []))

-- ---- key and value: what is not asked for is not read

abbrev pub is_place : Option Target → Bool
is_place (Some (target.Place place)) = true
is_place _ = false

abbrev pub asks_value : RangeTargets → Bool
asks_value (targets_of.Define key (Some v)) = true
asks_value (targets_of.Assign key value each) = is_place value
asks_value _ = false

-- an element of an array, of one that is pointed to, or of a slice, at its turn
abbrev pub element_at : Stored → Val → ℕ → Comes Val
element_at store (parts it) n = of_option (value_at (parts it) n)
element_at store (pointer at) n = followed at (load store (pointer (part_of at n)))
element_at store (slice it) n = and_then (load store) (index_address None (slice it) (number (pos n)))
element_at store _ n = nowhere

abbrev pub pair_with : Stored → Val → ℕ → Bool → Comes Val
pair_with store it n true = then_to (λ value. pair_of (number (pos n)) value) (element_at store it n)
pair_with store it n false = to (pair_of (number (pos n)) nil_interface)

abbrev pub turn_pair : Stored → RangeTargets → Turned → Comes Val
turn_pair store targets (at_index it n) = pair_with store it n (asks_value targets)
turn_pair store targets (produced key value) = to (pair_of key value)
turn_pair store targets (received it) = to (pair_of it nil_interface)

abbrev pub listed : Option Val → List Val
listed None = []
listed (Some it) = it ∷ []

-- what a definition asks for, the last first
abbrev pub asked_of : RangeTargets → Val → List Val
asked_of (targets_of.Define (Some key) (Some value)) pair = listed (value_at pair 1) ++ listed (value_at pair 0)
asked_of (targets_of.Define (Some key) None) pair = listed (value_at pair 0)
asked_of (targets_of.Define None (Some value)) pair = listed (value_at pair 1)
asked_of _ pair = []
