-- The first that waits at a channel is served.
use Rattle.std.proofs.Common.{◌≡◌, ℕ, ◌<◌, ◌≤◌, List, [], ◌∷◌, map, drop, refl, ap, sym, ◌∙◌, subst, Option, Some, None, arith}
use Rattle.std.specs.Prelude.{slice_get, slice_set}
use Rattle.std.specs.Option.{option_map}
use Rattle.go_base.specs.declared.ids.ChanId.{ChanId}
use Rattle.go_base.specs.declared.ids.GoId.{GoId}
use Rattle.go_sched.specs.Channels.{Chan, Sending, chan_of, without_receiver, passed, moved_on}
use Rattle.go_sched.specs.Goroutines.{State, state_of, with_chan, gone_on}
use Rattle.go_sched.specs.Operations.{receiver_served, sender_served}
use Rattle.go_sched.specs.Standing.{times, standing_in, standing, waiting, lists_of}
use Rattle.go_sched.specs.declared.channels.Channel.{Channel}
use Rattle.go_sched.specs.declared.channels.Receiver.{Receiver}
use Rattle.go_sched.specs.declared.scheduling.Sched.{Sched}
use Rattle.go_sched.proofs.Changes.{there}
use Rattle.go_sched.proofs.Held.{map_set, get_set_same, times_less, receiver_one_less, sender_less, sender_one_less}
use Rattle.go_sched.proofs.Served.{receiver_is, no_receiver, sender_is, no_sender, passed_is, passed_none}

pub first_is : {X : Type 0} (xs : List X) (x : X) → slice_get xs 0 ≡ Some x → xs ≡ x ∷ drop 1 xs
first_is [] x is = cc
first_is (y ∷ xs) x is = let e : y ≡ x = cc in ap (λ z. z ∷ xs) e

pub first_none : {X : Type 0} (xs : List X) → slice_get xs 0 ≡ None → xs ≡ []
first_none [] is = refl
first_none (y ∷ xs) is = cc

-- a channel without its first is there
pub served_less : (k : ℕ) (s : Sched) (it new : Channel) (is : Chan) (g : ℕ) → slice_get s.channels.items k ≡ Some it → chan_of new ≡ is → standing_in g is < standing_in g (chan_of it) → standing g (slice_get (map chan_of (slice_set s.channels.items k new)) k) < waiting k (slice_get (lists_of s.waits.items) g)
served_less k s it new is g at same less =
    let held : standing_in g (chan_of it) ≤ waiting k (slice_get (lists_of s.waits.items) g) = subst (λ o. standing g o ≤ waiting k (slice_get (lists_of s.waits.items) g)) (there s k it at) (s.standing k g) in
    subst (λ o. standing g o < waiting k (slice_get (lists_of s.waits.items) g))
    (sym (ap (λ (cs : List Chan). slice_get cs k) (map_set chan_of s.channels.items k new) ∙ get_set_same (state_of s).channels k (chan_of it) (chan_of new) (there s k it at) ∙ ap Some same))
    (let l : standing_in g is < standing_in g (chan_of it) = less in omega (arith, l, held))

pub chan_set : (id : ChanId) (s : Sched) (new : Channel) (is : Chan) → chan_of new ≡ is → record (state_of s) { channels = map chan_of (slice_set s.channels.items id.number new) } ≡ with_chan id is (state_of s)
chan_set id s new is same = ap (λ (cs : List Chan). record (state_of s) { channels = cs }) (map_set chan_of s.channels.items id.number new ∙ ap (slice_set (state_of s).channels id.number) same)

-- ---- receivers

times_drop : (n : ℕ) (them : List Receiver) → times n (map (λ (it : Receiver). it.goroutine.number) (drop 1 them)) ≤ times n (map (λ (it : Receiver). it.goroutine.number) them)
times_drop n [] = omega arith
times_drop n (it ∷ them) = times_less n it.goroutine.number (map (λ (it : Receiver). it.goroutine.number) them)

pub without_less : (n : ℕ) (chan : Chan) → standing_in n (without_receiver chan) ≤ standing_in n chan
without_less n chan = let le = times_drop n chan.receivers in omega (arith, le)

pub without_one_less : (chan : Chan) (first : Receiver) → Some first ≡ slice_get chan.receivers 0 → standing_in first.goroutine.number (without_receiver chan) < standing_in first.goroutine.number chan
without_one_less chan first is = let e = receiver_one_less chan first (drop 1 chan.receivers) (first_is chan.receivers first (sym is)) in omega (arith, e)

pub without_none : (chan : Chan) → None ≡ slice_get chan.receivers 0 → without_receiver chan ≡ chan
without_none chan is =
    let e = first_none chan.receivers (sym is) in
    ap (λ (rs : List Receiver). record chan { receivers = drop 1 rs }) e ∙ ap (λ (rs : List Receiver). record chan { receivers = rs }) (sym e)

pub receiver_goes_on : (id : ChanId) (state : State) (chan : Chan) (first : Receiver) → slice_get state.channels id.number ≡ Some chan → Some first ≡ slice_get chan.receivers 0 → gone_on first.goroutine (with_chan id (without_receiver chan) state) ≡ receiver_served id state
receiver_goes_on id state chan first at is = sym (receiver_is id state chan first (drop 1 chan.receivers) at (first_is chan.receivers first (sym is)))

pub nobody_receives : (id : ChanId) (state : State) (chan : Chan) → slice_get state.channels id.number ≡ Some chan → None ≡ slice_get chan.receivers 0 → state ≡ receiver_served id state
nobody_receives id state chan at is = sym (no_receiver id state chan at (first_none chan.receivers (sym is)))

-- ---- senders

passed_less_at : (n : ℕ) (chan : Chan) (them : List Sending) → chan.senders ≡ them → standing_in n (passed chan) ≤ standing_in n chan
passed_less_at n chan [] is = subst (λ c. standing_in n c ≤ standing_in n chan) (sym (passed_none chan is)) (omega arith)
passed_less_at n chan (first ∷ others) is = subst (λ c. standing_in n c ≤ standing_in n chan) (sym (passed_is chan first others is)) (sender_less n chan (moved_on first.value chan.queue) first others is)

pub passed_less : (n : ℕ) (chan : Chan) → standing_in n (passed chan) ≤ standing_in n chan
passed_less n chan = passed_less_at n chan chan.senders refl

passed_one_less_at : (chan : Chan) (them : List Sending) (goroutine : GoId) → chan.senders ≡ them → Some goroutine ≡ option_map (λ it. it.goroutine) (slice_get them 0) → standing_in goroutine.number (passed chan) < standing_in goroutine.number chan
passed_one_less_at chan [] goroutine is first = cc
passed_one_less_at chan (it ∷ others) goroutine is first =
    let e : it.goroutine ≡ goroutine = cc in
    let less = sender_one_less chan (moved_on it.value chan.queue) it others is in
    subst (λ (g : GoId). standing_in g.number (passed chan) < standing_in g.number chan) e
    (subst (λ c. standing_in it.goroutine.number c < standing_in it.goroutine.number chan) (sym (passed_is chan it others is)) (omega (arith, less)))

pub passed_one_less : (chan : Chan) (goroutine : GoId) → Some goroutine ≡ option_map (λ it. it.goroutine) (slice_get chan.senders 0) → standing_in goroutine.number (passed chan) < standing_in goroutine.number chan
passed_one_less chan goroutine first = passed_one_less_at chan chan.senders goroutine refl first

sender_goes_on_at : (id : ChanId) (state : State) (chan : Chan) (them : List Sending) (goroutine : GoId) → slice_get state.channels id.number ≡ Some chan → chan.senders ≡ them → Some goroutine ≡ option_map (λ it. it.goroutine) (slice_get them 0) → gone_on goroutine (with_chan id (passed chan) state) ≡ sender_served id state
sender_goes_on_at id state chan [] goroutine at is first = cc
sender_goes_on_at id state chan (it ∷ others) goroutine at is first =
    let e : goroutine ≡ it.goroutine = cc in
    ap (λ (g : GoId). gone_on g (with_chan id (passed chan) state)) e ∙ sym (sender_is id state chan it others at is)

pub sender_goes_on : (id : ChanId) (state : State) (chan : Chan) (goroutine : GoId) → slice_get state.channels id.number ≡ Some chan → Some goroutine ≡ option_map (λ it. it.goroutine) (slice_get chan.senders 0) → gone_on goroutine (with_chan id (passed chan) state) ≡ sender_served id state
sender_goes_on id state chan goroutine at first = sender_goes_on_at id state chan chan.senders goroutine at refl first

nobody_sends_at : (id : ChanId) (state : State) (chan : Chan) (them : List Sending) → slice_get state.channels id.number ≡ Some chan → chan.senders ≡ them → ◌≡◌ {A = Option GoId} None (option_map (λ it. it.goroutine) (slice_get them 0)) → state ≡ sender_served id state
nobody_sends_at id state chan [] at is none = sym (no_sender id state chan at is)
nobody_sends_at id state chan (it ∷ others) at is none = cc

pub nobody_sends : (id : ChanId) (state : State) (chan : Chan) → slice_get state.channels id.number ≡ Some chan → ◌≡◌ {A = Option GoId} None (option_map (λ it. it.goroutine) (slice_get chan.senders 0)) → state ≡ sender_served id state
nobody_sends id state chan at none = nobody_sends_at id state chan chan.senders at refl none
