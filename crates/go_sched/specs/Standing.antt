-- How often goroutines stand in the lists of channels.
use Rattle.std.specs.Prelude.{ℕ, suc, ◌+◌, ◌≤◌, ◌==◌, List, [], ◌∷◌, map, if◌then◌else◌, slice_get, length, Option}
use Rattle.std.specs.Coded.{×_prop, le_prop}
use Rattle.std.specs.Option.{option_map_or}
use Rattle.std.specs.Global.{Vec}
use Rattle.go_base.specs.declared.ids.ChanId.{ChanId}
use Rattle.go_sched.specs.Channels.{Chan}

abbrev pub lists_of : List (Vec ChanId) → List (List ChanId)
lists_of waits = map (λ it. it.items) waits

-- how often a number is in a list
abbrev pub times : ℕ → List ℕ → ℕ
times n [] = 0
times n (x ∷ xs) = if x == n then suc (times n xs) else times n xs

-- how often a goroutine stands in the lists of a channel
abbrev pub standing_in : ℕ → Chan → ℕ
standing_in number chan =
    times number (map (λ it. it.goroutine.number) chan.receivers)
    + times number (map (λ it. it.goroutine.number) chan.senders)

abbrev pub standing : ℕ → Option Chan → ℕ
standing number chan = option_map_or (standing_in number) chan 0

-- how often a channel is among those at which a goroutine waits
abbrev pub waiting : ℕ → Option (List ChanId) → ℕ
waiting chan waits = option_map_or (λ (ids : List ChanId). times chan (map (λ (id : ChanId). id.number) ids)) waits 0

-- at how many channels it waits
abbrev pub times_waiting : Option (List ChanId) → ℕ
times_waiting waits = option_map_or (λ (ids : List ChanId). length ids) waits 0

-- no goroutine stands in the lists of a channel more often than it waits there
abbrev pub AreHeld : List Chan → List (List ChanId) → Type 0
AreHeld chans waits = (k number : ℕ) → standing number (slice_get chans k) ≤ waiting k (slice_get waits number)

-- numbers that ascend, from one on and up to another
abbrev pub Rises : ℕ → ℕ → List ℕ → Type 0
Rises low high [] = low ≤ high
Rises low high (x ∷ xs) = (low ≤ x) × Rises (suc x) high xs

pub Rises-prop : (low high : ℕ) (xs : List ℕ) → IsProp (Rises low high xs)
Rises-prop low high [] = le_prop
Rises-prop low high (x ∷ xs) = ×_prop le_prop (Rises-prop (suc x) high xs)
