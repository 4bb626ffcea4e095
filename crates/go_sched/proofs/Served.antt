-- What it is to change a channel, and to serve the first that waits there.
use Rattle.std.proofs.Common.{◌≡◌, List, [], ◌∷◌, ◌++◌, map, refl, ap, sym, ◌∙◌, Some, None}
use Rattle.std.specs.Prelude.{slice_get}
use Rattle.std.specs.Option.{option_map_or}
use Rattle.std.proofs.lemmas.List.{map-append}
use Rattle.go_base.specs.declared.ids.ChanId.{ChanId}
use Rattle.go_sched.specs.Channels.{Chan, Sending, without_receiver, passed, passed_on, moved_on}
use Rattle.go_sched.specs.Goroutines.{State, changed, with_chan, gone_on}
use Rattle.go_sched.specs.Operations.{Woken, receiver_served, first_receives, sender_served, first_sends, with_first, with_firsts}
use Rattle.go_sched.specs.declared.channels.Receiver.{Receiver}

pub changed_is : (change : Chan → Chan) (id : ChanId) (state : State) (chan : Chan) → slice_get state.channels id.number ≡ Some chan → changed change id state ≡ with_chan id (change chan) state
changed_is change id state chan there = ap (λ o. option_map_or (λ c. with_chan id (change c) state) o state) there

pub changed_none : (change : Chan → Chan) (id : ChanId) (state : State) → slice_get state.channels id.number ≡ None → changed change id state ≡ state
changed_none change id state there = ap (λ o. option_map_or (λ c. with_chan id (change c) state) o state) there

pub receiver_is : (id : ChanId) (state : State) (chan : Chan) (first : Receiver) (others : List Receiver) → slice_get state.channels id.number ≡ Some chan → chan.receivers ≡ first ∷ others → receiver_served id state ≡ gone_on first.goroutine (with_chan id (without_receiver chan) state)
receiver_is id state chan first others there is =
    ap (λ o. option_map_or (λ c. first_receives id state c c.receivers) o state) there ∙ ap (first_receives id state chan) is

pub no_receiver : (id : ChanId) (state : State) (chan : Chan) → slice_get state.channels id.number ≡ Some chan → chan.receivers ≡ [] → receiver_served id state ≡ state
no_receiver id state chan there is =
    ap (λ o. option_map_or (λ c. first_receives id state c c.receivers) o state) there ∙ ap (first_receives id state chan) is

pub no_channel_receives : (id : ChanId) (state : State) → slice_get state.channels id.number ≡ None → receiver_served id state ≡ state
no_channel_receives id state there = ap (λ o. option_map_or (λ c. first_receives id state c c.receivers) o state) there

pub sender_is : (id : ChanId) (state : State) (chan : Chan) (first : Sending) (others : List Sending) → slice_get state.channels id.number ≡ Some chan → chan.senders ≡ first ∷ others → sender_served id state ≡ gone_on first.goroutine (with_chan id (passed chan) state)
sender_is id state chan first others there is =
    ap (λ o. option_map_or (λ c. first_sends id state c c.senders) o state) there ∙ ap (first_sends id state chan) is

pub no_sender : (id : ChanId) (state : State) (chan : Chan) → slice_get state.channels id.number ≡ Some chan → chan.senders ≡ [] → sender_served id state ≡ state
no_sender id state chan there is =
    ap (λ o. option_map_or (λ c. first_sends id state c c.senders) o state) there ∙ ap (first_sends id state chan) is

-- ---- what waits to be sent comes into the buffer

pub passed_is : (chan : Chan) (first : Sending) (others : List Sending) → chan.senders ≡ first ∷ others → passed chan ≡ record chan { queue = moved_on first.value chan.queue; senders = others }
passed_is chan first others is = ap (passed_on chan) is

pub passed_none : (chan : Chan) → chan.senders ≡ [] → passed chan ≡ chan
passed_none chan is = ap (passed_on chan) is

-- ---- all that a close serves

pub with_firsts_more : (xs ys ws : List Woken) → with_firsts (xs ++ ys) ws ≡ with_firsts ys (with_firsts xs ws)
with_firsts_more [] ys ws = refl
with_firsts_more (x ∷ xs) ys ws = with_firsts_more xs ys (with_first x ws)

pub both_served : {X : Type 0} (f : X → Woken) (front back items : List X) (w0 w1 w2 : List Woken) → front ++ back ≡ items → w1 ≡ with_firsts (map f front) w0 → w2 ≡ with_firsts (map f back) w1 → w2 ≡ with_firsts (map f items) w0
both_served f front back items w0 w1 w2 joined first second =
    second ∙ ap (with_firsts (map f back)) first ∙ sym (with_firsts_more (map f front) (map f back) w0)
    ∙ ap (λ xs. with_firsts xs w0) (sym (map-append f front back) ∙ ap (map f) joined)
