-- Ranges over strings and maps. Go specification, "For statements with range clause".
use Rattle.std.specs.Prelude.{ℕ, ◌+◌, ◌-◌, ◌++◌, suc, take, Bool, true, false, List, [], ◌∷◌, reverse, drop, pos}
use Rattle.std.specs.Prelude.{Option, Some, None, nat_lt}
use Rattle.std.specs.Prelude.{length, slice_index, is_some, if◌then◌else◌, option_map}
use Rattle.std.specs.List.{filter}
use Rattle.std.specs.Option.{option_and_then}
use Rattle.go_base.specs.declared.ids.MapId.{MapId}
use Rattle.go_base.specs.declared.ids.TypeId.{TypeId}
use Rattle.go_maps.specs.Entries.{Pair, entry_at, numbers_in}
use Rattle.go_maps.specs.Maps.{Map}
use Rattle.go_sched.specs.Choices.{chosen, picked, is_spent}
use Rattle.go_sched.specs.Goroutines.{State}
use Rattle.go_store.specs.Stores.{Stored}
use Rattle.go_type.specs.declared.term.TypeTerm.{TypeTerm}
use Rattle.go_type.specs.declared.term.TypeTerm.TheVariants as term
use Rattle.go_value.specs.Values.{Val, none, part, truth, number, text, map_number, text_range, map_range, parts}
use Rattle.ssa_ir.specs.declared.code.Code.{Code}
use Rattle.ssa_mean.specs.MapCalls.{entries_of}
use Rattle.ssa_mean.specs.Operands.{under}
use Rattle.ssa_mean.specs.Runes.{first_rune}
use Rattle.ssa_mean.specs.Zeros.{zero_where}

-- the state of a range as it begins: of a map the entries that are there then, the last first
abbrev pub range_of : Stored → Val → Option Val
range_of store (text bytes) = Some (text_range bytes 0)
range_of store (map_number id) = Some (map_range id (reverse (numbers_in (entries_of store id))))
range_of store _ = None

-- ---- a turn: whether there is one, its key or index, and its value

abbrev pub turn_of : Bool → Val → Val → Val
turn_of there key it = parts (part (truth there) false (part key false (part it false none)))

-- what a turn gives, the state of the range after it, and the choices that are left
pub record Turn : Type 0 where
  pub value : Val
  pub range : Val
  pub sched : State

-- ---- strings: code point after code point

abbrev pub text_turn : State → List ℕ → ℕ → Turn
text_turn sched bytes next =
    let rune = first_rune (drop next bytes) in
    if nat_lt next (length bytes)
    then record {
      value = turn_of true (number (pos next)) (number (pos rune.point));
      range = text_range bytes (next + rune.width);
      sched = sched;
    }
    else record {
      value = turn_of false (number (pos 0)) (number (pos 0));
      range = text_range bytes next;
      sched = sched;
    }

-- ---- maps: a choice among the entries, in order of insertion, that are still there and were not produced yet. The
-- state of a range over a map keeps the numbers of the entries that may still come, the last first

abbrev pub is_standing : Map → ℕ → Bool
is_standing entries n = is_some (entry_at entries n)

-- an entry, and the numbers that are left
pub record Drawn : Type 0 where
  pub entry : Option ℕ
  pub left : List ℕ

-- where no choices are left it is the first that stands; the numbers before it go
abbrev pub first_drawn : Map → List ℕ → Drawn
first_drawn entries [] = record { entry = None; left = [] }
first_drawn entries (n ∷ others) =
    if is_standing entries n then record { entry = Some n; left = reverse others } else first_drawn entries others

abbrev pub drawn_at : List ℕ → ℕ → Drawn
drawn_at standing place =
    record { entry = Some (slice_index standing place); left = take place standing ++ drop (suc place) standing }

-- else a choice among those that stand
abbrev pub drawn_among : State → List ℕ → Drawn
drawn_among sched [] = record { entry = None; left = [] }
drawn_among sched (n ∷ others) =
    drawn_at (n ∷ others) ((length (n ∷ others) - 1) - chosen (length (n ∷ others)) sched)

abbrev pub drawn : State → Map → List ℕ → Drawn
drawn sched entries left =
    if is_spent sched then first_drawn entries (reverse left)
    else drawn_among sched (filter (is_standing entries) left)

abbrev pub sched_after : State → Map → List ℕ → State
sched_after sched entries left =
    if is_spent sched then sched else picked (length (filter (is_standing entries) left)) sched

abbrev pub last_turn : State → Option MapId → List ℕ → Option Val → Option Val → Option Turn
last_turn sched id left key it =
    option_and_then (λ key. option_map (λ it. record {
      value = turn_of false key it;
      range = map_range id left;
      sched = sched;
    }) it) key

abbrev pub entry_turn : State → Option MapId → List ℕ → Pair → Turn
entry_turn sched id left entry =
    record { value = turn_of true entry.key entry.value; range = map_range id left; sched = sched }

abbrev pub turn_with : State → Option MapId → Map → Option Val → Option Val → Drawn → Option Turn
turn_with sched id entries key it d = of_entry d.entry
  where
    of_entry : Option ℕ → Option Turn
    of_entry None = last_turn sched id d.left key it
    of_entry (Some n) = option_map (entry_turn sched id d.left) (entry_at entries n)

-- the turn of an entry; where none is left, the last turn, with zero values
abbrev pub map_turn : Option MapId → Map → Option Val → Option Val → State → List ℕ → Option Turn
map_turn id entries key it sched left =
    turn_with (sched_after sched entries left) id entries key it (drawn sched entries left)

-- ---- the types of what is ranged over

abbrev pub ranged : Code → Option TypeTerm → Option TypeTerm
ranged code (Some (term.Iter over)) = under code (Some over)
ranged code _ = None

abbrev pub key_in : Option TypeTerm → Option TypeId
key_in (Some (term.Map key elem)) = Some key
key_in _ = None

abbrev pub value_in : Option TypeTerm → Option TypeId
value_in (Some (term.Map key elem)) = Some elem
value_in _ = None

-- the next turn of a range over values of a type
abbrev pub next_turn : Code → Stored → State → Option TypeTerm → Val → Option Turn
next_turn code store sched over (text_range bytes next) = Some (text_turn sched bytes next)
next_turn code store sched over (map_range id left) =
    map_turn id (entries_of store id) (zero_where code (key_in over)) (zero_where code (value_in over)) sched left
next_turn code store sched over _ = None
