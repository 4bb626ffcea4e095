-- Ranges over strings and maps. Go specification, "For statements with range clause". The entries of a map are drawn as
-- code draws them.
pub use Rattle.ssa_mean.specs.Ranges.{is_standing, Drawn, first_drawn, drawn_at, drawn_among, drawn, sched_after}
use Rattle.std.specs.Prelude.{ℕ, true, false, Option, Some, None, option_map}
use Rattle.go_base.specs.declared.ids.MapId.{MapId}
use Rattle.go_maps.specs.Entries.{entry_at}
use Rattle.go_maps.specs.Maps.{Map}
use Rattle.go_sched.specs.Goroutines.{State}
use Rattle.go_store.specs.Stores.{Stored}
use Rattle.go_value.specs.Values.{Val, text_range, map_range}
use Rattle.ssa_mean.specs.MapCalls.{entries_of}
use Rattle.ssa_mean.specs.Ranges.{Turn, turn_of, text_turn}

-- the turn of an entry; where none is left, the last turn
abbrev pub turn_with : State → Option MapId → Map → Val → Val → Drawn → Option Turn
turn_with sched id entries key it d = of_entry d.entry
  where
    of_entry : Option ℕ → Option Turn
    of_entry None = Some (record { value = turn_of false key it; range = map_range id d.left; sched = sched })
    of_entry (Some n) =
        option_map (λ entry. record {
          value = turn_of true entry.key entry.value;
          range = map_range id d.left;
          sched = sched;
        }) (entry_at entries n)

abbrev pub map_turn : Stored → State → Val → Val → Val → Option Turn
map_turn store sched key it (map_range id left) =
    let entries = entries_of store id in
    turn_with (sched_after sched entries left) id entries key it (drawn sched entries left)
map_turn store sched key it _ = None

abbrev pub next_of_text : State → Val → Option Turn
next_of_text sched (text_range bytes next) = Some (text_turn sched bytes next)
next_of_text sched _ = None
