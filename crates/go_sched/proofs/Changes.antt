-- One channel of a scheduler changed.
use Rattle.std.proofs.Common.{◌≡◌, ℕ, ◌≤◌, ◌<◌, ◌+◌, List, [], ◌∷◌, map, length, zero, suc, refl, ap, sym, ◌∙◌, subst, Option, Some, None, Result, Ok, Err, OnOk, OnErr, arith}
use Rattle.std.specs.Prelude.{slice_get, slice_set, if◌then◌else◌}
use Rattle.std.specs.Global.{Vec}
use Rattle.std.specs.Option.{option_map_or}
use Rattle.std.specs.Result.{is_ok}
use Rattle.std.specs.Vec.{vec_capacity}
use Rattle.std.proofs.lemmas.List.{length-set, length-map}
use Rattle.go_base.specs.declared.ids.ChanId.{ChanId}
use Rattle.go_base.specs.declared.ids.GoId.{GoId}
use Rattle.go_sched.specs.Channels.{Chan, chan_of, left_by}
use Rattle.go_sched.specs.Goroutines.{state_of, changed, left_in, left_at, left_lists}
use Rattle.go_sched.specs.Standing.{standing, standing_in, waiting, times_waiting, AreHeld, lists_of, Rises}
use Rattle.go_sched.specs.declared.channels.Channel.{Channel}
use Rattle.go_sched.specs.declared.scheduling.Sched.{Sched}
use Rattle.go_sched.proofs.Held.{map_set, map_get, map_past, set_get, AreHeld-set, AreHeld-enter, AreHeld-left, left_all, left_absent, served_alone, one_if}
use Rattle.go_sched.proofs.Served.{changed_is, changed_none}

pub at_most : (n : ℕ) → n ≤ n
at_most n = omega arith

pub either : {A E P Q G : Type 0} (r : Result A E) → OnOk r P → OnErr r Q → (P → G) → (Q → G) → G
either (Ok x) ok err f g = f ok
either (Err e) ok err f g = g err

pub always_err : {A E P : Type 0} (r : Result A E) → P → OnErr r P
always_err (Ok x) p = tt
always_err (Err e) p = p

pub there : (s : Sched) (n : ℕ) (it : Channel) → slice_get s.channels.items n ≡ Some it → slice_get (state_of s).channels n ≡ Some (chan_of it)
there s n it at = map_get chan_of s.channels.items n it at

pub absent : (s : Sched) (n : ℕ) → slice_get s.channels.items n ≡ None → slice_get (state_of s).channels n ≡ None
absent s n at = map_past chan_of s.channels.items n at

pub chan_changed : (change : Chan → Chan) (id : ChanId) (s : Sched) (it new : Channel) → slice_get s.channels.items id.number ≡ Some it → chan_of new ≡ change (chan_of it) → record (state_of s) { channels = map chan_of (slice_set s.channels.items id.number new) } ≡ changed change id (state_of s)
chan_changed change id s it new at is =
    ap (λ (cs : List Chan). record (state_of s) { channels = cs }) (map_set chan_of s.channels.items id.number new ∙ ap (slice_set (state_of s).channels id.number) is)
    ∙ sym (changed_is change id (state_of s) (chan_of it) (there s id.number it at))

pub chan_unchanged : (change : Chan → Chan) (id : ChanId) (s : Sched) → slice_get s.channels.items id.number ≡ None → state_of s ≡ changed change id (state_of s)
chan_unchanged change id s at = sym (changed_none change id (state_of s) (absent s id.number at))

pub chan_same : (n : ℕ) (s : Sched) (it new : Channel) → slice_get s.channels.items n ≡ Some it → chan_of new ≡ chan_of it → record (state_of s) { channels = map chan_of (slice_set s.channels.items n new) } ≡ state_of s
chan_same n s it new at is =
    ap (λ (cs : List Chan). record (state_of s) { channels = cs })
    (map_set chan_of s.channels.items n new ∙ ap (slice_set (state_of s).channels n) is ∙ set_get (state_of s).channels n (chan_of it) (there s n it at))

pub held_after : (n : ℕ) (s : Sched) (it new : Channel) → slice_get s.channels.items n ≡ Some it → ((m : ℕ) → standing_in m (chan_of new) ≤ standing_in m (chan_of it)) → AreHeld (map chan_of (slice_set s.channels.items n new)) (lists_of s.waits.items)
held_after n s it new at less =
    subst (λ (cs : List Chan). AreHeld cs (lists_of s.waits.items)) (sym (map_set chan_of s.channels.items n new))
    (AreHeld-set (state_of s).channels (lists_of s.waits.items) n (chan_of it) (chan_of new) s.standing (there s n it at) less)

-- where what the change gives is known
pub held_as : (n : ℕ) (s : Sched) (it new : Channel) (is : Chan) → slice_get s.channels.items n ≡ Some it → chan_of new ≡ is → ((m : ℕ) → standing_in m is ≤ standing_in m (chan_of it)) → AreHeld (map chan_of (slice_set s.channels.items n new)) (lists_of s.waits.items)
held_as n s it new is at same less = held_after n s it new at (λ m. subst (λ c. standing_in m c ≤ standing_in m (chan_of it)) (sym same) (less m))

-- a list after a push that may fail
pub pushed : {A E X G : Type 0} (r : Result A E) (more old new : List X) → new ≡ (if is_ok r then more else old) → (new ≡ more → G) → (new ≡ old → G) → G
pushed (Ok x) more old new is f g = f is
pushed (Err e) more old new is f g = g is

-- ---- the channels at which a goroutine waits changed

pub waits_there : (s : Sched) (g : ℕ) (it : Vec ChanId) → slice_get s.waits.items g ≡ Some it → slice_get (lists_of s.waits.items) g ≡ Some it.items
waits_there s g it at = map_get (λ v. v.items) s.waits.items g it at

pub waits_set : (s : Sched) (g : ℕ) (new : Vec ChanId) (ids : List ChanId) → new.items ≡ ids → lists_of (slice_set s.waits.items g new) ≡ slice_set (lists_of s.waits.items) g ids
waits_set s g new ids is = map_set (λ v. v.items) s.waits.items g new ∙ ap (slice_set (lists_of s.waits.items) g) is

pub waits_same : (s : Sched) (g : ℕ) (it new : Vec ChanId) → slice_get s.waits.items g ≡ Some it → new.items ≡ it.items → lists_of (slice_set s.waits.items g new) ≡ lists_of s.waits.items
waits_same s g it new at is = waits_set s g new it.items is ∙ set_get (lists_of s.waits.items) g it.items (waits_there s g it at)

pub ascending_set : (s : Sched) (g : ℕ) (new : Vec ChanId) → Rises 0 (length (slice_set s.waits.items g new)) s.runnable.items
ascending_set s g new = subst (λ n. Rises 0 n s.runnable.items) (sym (length-set s.waits.items g new)) s.ascending

pub room_set : (s : Sched) (g : ℕ) (new : Vec ChanId) → length (slice_set s.waits.items g new) ≤ vec_capacity s.runnable
room_set s g new = subst (λ n. n ≤ vec_capacity s.runnable) (sym (length-set s.waits.items g new)) s.room

-- one more stands at the channel
pub held_more : (k : ℕ) (s : Sched) (it new : Channel) (is : Chan) (g : ℕ) → slice_get s.channels.items k ≡ Some it → chan_of new ≡ is → g ≡ s.current.number → standing s.current.number (slice_get (state_of s).channels k) < waiting k (slice_get (lists_of s.waits.items) s.current.number) → ((m : ℕ) → standing_in m is ≡ standing_in m (chan_of it) + one_if g m) → AreHeld (map chan_of (slice_set s.channels.items k new)) (lists_of s.waits.items)
held_more k s it new is g at same current less more =
    subst (λ (cs : List Chan). AreHeld cs (lists_of s.waits.items)) (sym (map_set chan_of s.channels.items k new))
    (AreHeld-enter (state_of s).channels (lists_of s.waits.items) k (chan_of it) (chan_of new) g s.standing (there s k it at)
    (subst (λ n. standing n (slice_get (state_of s).channels k) < waiting k (slice_get (lists_of s.waits.items) n)) (sym current) less)
    (λ m. subst (λ c. standing_in m c ≡ standing_in m (chan_of it) + one_if g m) (sym same) (more m)))

-- with room it does not fail
pub pushed_in : {A E X : Type 0} (r : Result A E) (more old new : List X) (len cap : ℕ) → new ≡ (if is_ok r then more else old) → OnErr r (cap ≤ len) → len < cap → new ≡ more
pushed_in (Ok x) more old new len cap is full less = is
pushed_in (Err e) more old new len cap is full less = absurd (omega arith)

-- ---- a goroutine leaves the lists of a channel

pub left_in_is : (n : ℕ) (id : ChanId) (items : List Channel) (it new : Channel) → slice_get items id.number ≡ Some it → chan_of new ≡ left_by n (chan_of it) → map chan_of (slice_set items id.number new) ≡ left_in n id (map chan_of items)
left_in_is n id items it new at is =
    map_set chan_of items id.number new ∙ ap (slice_set (map chan_of items) id.number) is
    ∙ sym (ap (λ o. option_map_or (λ chan. slice_set (map chan_of items) id.number (left_by n chan)) o (map chan_of items)) (map_get chan_of items id.number it at))

pub left_in_none : (n : ℕ) (id : ChanId) (items : List Channel) → slice_get items id.number ≡ None → map chan_of items ≡ left_in n id (map chan_of items)
left_in_none n id items at = sym (ap (λ o. option_map_or (λ chan. slice_set (map chan_of items) id.number (left_by n chan)) o (map chan_of items)) (map_past chan_of items id.number at))

-- ---- it leaves those of all

pub left_chans : (g : ℕ) (s : Sched) (it : Vec ChanId) (ids : List ChanId) (old new back : List Channel) → slice_get s.waits.items g ≡ Some it → ids ≡ it.items → old ≡ s.channels.items → map chan_of new ≡ left_at g ids (map chan_of old) → back ≡ new → map chan_of back ≡ map (left_by g) (state_of s).channels
left_chans g s it ids old new back at is same left returned =
    ap (map chan_of) returned ∙ left ∙ ap (λ (cs : List Channel). left_at g ids (map chan_of cs)) same ∙ ap (λ (is : List ChanId). left_at g is (state_of s).channels) is
    ∙ left_all (state_of s).channels (lists_of s.waits.items) g it.items s.standing (waits_there s g it at)

pub held_left : (g : ℕ) (s : Sched) (chans : List Chan) (new : Vec ChanId) → chans ≡ map (left_by g) (state_of s).channels → new.items ≡ [] → AreHeld chans (lists_of (slice_set s.waits.items g new))
held_left g s chans new left is =
    subst (λ (cs : List Chan). AreHeld cs (lists_of (slice_set s.waits.items g new))) (sym left)
    (subst (λ (ws : List (List ChanId)). AreHeld (map (left_by g) (state_of s).channels) ws) (sym (waits_set s g new [] is)) (AreHeld-left (state_of s).channels (lists_of s.waits.items) g s.standing))

pub left_state : (it : GoId) (s : Sched) (chans : List Chan) (new : Vec ChanId) → chans ≡ map (left_by it.number) (state_of s).channels → record (state_of s) { channels = chans; goroutines = length (slice_set s.waits.items it.number new) } ≡ left_lists it (state_of s)
left_state it s chans new left =
    ap (λ (cs : List Chan). record (state_of s) { channels = cs; goroutines = length (slice_set s.waits.items it.number new) }) left
    ∙ ap (λ n. record (state_of s) { channels = map (left_by it.number) (state_of s).channels; goroutines = n }) (length-set s.waits.items it.number new)

pub left_by_absent : (it : GoId) (s : Sched) → slice_get s.waits.items it.number ≡ None → state_of s ≡ left_lists it (state_of s)
left_by_absent it s at =
    ap (λ (cs : List Chan). record (state_of s) { channels = cs })
    (sym (left_absent (state_of s).channels (lists_of s.waits.items) it.number s.standing (map_past (λ v. v.items) s.waits.items it.number at)))

left_when_at : (it : GoId) (k : ℕ) (s : Sched) (o : Option (List ChanId)) → slice_get (lists_of s.waits.items) it.number ≡ o → times_waiting o ≤ 1 → standing it.number (slice_get (state_of s).channels k) < waiting k o → left_lists it (state_of s) ≡ state_of s
left_when_at it k s None at few served = absurd (omega arith)
left_when_at it k s (Some ids) at few served =
    ap (λ (cs : List Chan). record (state_of s) { channels = cs })
    (served_alone (state_of s).channels (lists_of s.waits.items) it.number k ids s.standing at few
    (subst (λ w. standing it.number (slice_get (state_of s).channels k) < waiting k w) (sym at) served))

-- one that waited in one case alone stands nowhere once it was served
pub left_when_served : (it : GoId) (k : ℕ) (s : Sched) → times_waiting (slice_get (lists_of s.waits.items) it.number) ≤ 1 → standing it.number (slice_get (state_of s).channels k) < waiting k (slice_get (lists_of s.waits.items) it.number) → left_lists it (state_of s) ≡ state_of s
left_when_served it k s few served = left_when_at it k s (slice_get (lists_of s.waits.items) it.number) refl few served

made_at : (lists : List (List ChanId)) (g k n : ℕ) → n < waiting k (slice_get lists g) → g < length lists
made_at [] g k n less = absurd (omega arith)
made_at (x ∷ lists) zero k n less = omega arith
made_at (x ∷ lists) (suc g) k n less = let rest = made_at lists g k n less in omega (arith, rest)

-- one that waits was made
pub made : (s : Sched) (g k n : ℕ) → n < waiting k (slice_get (lists_of s.waits.items) g) → g < length s.waits.items
made s g k n less = subst (λ m. g < m) (length-map s.waits.items (λ (it : Vec ChanId). it.items)) (made_at (lists_of s.waits.items) g k n less)
