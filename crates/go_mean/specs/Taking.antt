-- How a piece takes the values that were found, and what it leaves.
use Rattle.std.specs.Prelude.{ℕ, Bool, true, false, List, [], ◌∷◌, ◌++◌, reverse, take, drop, ℤ}
use Rattle.std.specs.Prelude.{Option, Some, None, nat_le, length, if◌then◌else◌}
use Rattle.go_store.specs.Stores.{Stored}
use Rattle.go_tree.specs.declared.program.Program.{Program}
use Rattle.go_type.specs.Table.{Table}
use Rattle.go_value.specs.Values.{Val, number}
use Rattle.ssa_mean.specs.Comes.{Comes, to, faults, nowhere}
use Rattle.ssa_mean.specs.Conversions.{Stores}
use Rattle.go_mean.specs.Places.{Changed}
use Rattle.go_mean.specs.State.{Site, Piece, Machine, Next, stuck, goes_as, finding}
use Rattle.go_mean.specs.Unwinding.{meets}

-- ---- the values that were found

abbrev pub having : Site → List Val → Site
having s found = record s { frame = record (s.frame) { found = found } }

-- the last value
abbrev pub last_of : Site → List Val → (Val → Site → Next) → Next
last_of s [] onward = stuck
last_of s (it ∷ found) onward = onward it (having s found)

abbrev pub with_one : Site → (Val → Site → Next) → Next
with_one s onward = last_of s s.frame.found onward

-- the last two, the one that was found first before the other
abbrev pub with_two : Site → (Val → Val → Site → Next) → Next
with_two s onward = with_one s (λ b s. with_one s (λ a s. onward a b s))

-- the last n, in the order in which they were found
abbrev pub with_last : Site → ℕ → (List Val → Site → Next) → Next
with_last s n onward =
    if nat_le n (length s.frame.found)
    then onward (reverse (take n s.frame.found)) (having s (drop n s.frame.found))
    else stuck

abbrev pub on_integer : Val → (ℤ → Next) → Next
on_integer (number n) onward = onward n
on_integer _ onward = stuck

-- the last one, where there is one: an integer
abbrev pub with_bound : Bool → Site → (Option ℤ → Site → Next) → Next
with_bound false s onward = onward None s
with_bound true s onward = with_one s (λ it s. on_integer it (λ n. onward (Some n) s))

-- ---- what a piece leaves

-- further pieces
abbrev pub puts_pieces : Site → List Piece → Next
puts_pieces s pieces = goes_as s (record (s.frame) { work = pieces ++ s.frame.work })

abbrev pub with_store : Stored → Machine → Machine
with_store store m = record m { store = store }

abbrev pub at_store : Stored → Site → Site
at_store store s = record s { machine = with_store store s.machine }

-- a value and a store
abbrev pub finds_stored : Site → Comes Stores → Next
finds_stored s (to it) = goes_as (at_store it.store s) (finding it.value s.frame)
finds_stored s (faults it) = meets s.setting s.machine it
finds_stored s nowhere = stuck

-- a value alone
abbrev pub finds_value : Site → Comes Val → Next
finds_value s (to it) = goes_as s (finding it s.frame)
finds_value s (faults it) = meets s.setting s.machine it
finds_value s nowhere = stuck

-- a store and an environment
abbrev pub changes : Site → Comes Changed → Next
changes s (to it) = goes_as (at_store it.store s) (record (s.frame) { env = it.env })
changes s (faults it) = meets s.setting s.machine it
changes s nowhere = stuck

abbrev pub program_of : Site → Program
program_of s = s.setting.program

abbrev pub types_of : Site → Table
types_of s = s.setting.program.types

abbrev pub store_of : Site → Stored
store_of s = s.machine.store
