-- A goroutine that stands in lists leaves them again.
use Rattle.std.proofs.Common.{◌≡◌, ℕ, suc, List, [], ◌∷◌, ◌++◌, map, drop, refl, ap, sym, ◌∙◌, Bool, false, cond, not, Option, Some, None}
use Rattle.std.specs.Prelude.{◌==◌, slice_get, slice_set}
use Rattle.std.specs.List.{filter}
use Rattle.std.proofs.lemmas.Bool.{eq-eqb, cond-false}
use Rattle.go_base.specs.declared.ids.ChanId.{ChanId}
use Rattle.go_base.specs.declared.ids.GoId.{GoId}
use Rattle.go_sched.specs.Channels.{Chan, Sending, Case, send, receive, left_by, is_other, with_receiver, with_sender}
use Rattle.go_sched.specs.Goroutines.{State, changed, left_lists}
use Rattle.go_sched.specs.Operations.{entered, all_entered}
use Rattle.go_sched.specs.declared.channels.Receiver.{Receiver}
use Rattle.go_sched.proofs.Held.{map_set, map_get, set_get}
use Rattle.go_sched.proofs.Served.{changed_is, changed_none}

filter_last : {X : Type 0} (p : X → Bool) (xs : List X) (x : X) → p x ≡ false → filter p (xs ++ x ∷ []) ≡ filter p xs
filter_last p [] x false_there = cond-false (p x) _ _ false_there
filter_last p (y ∷ xs) x false_there = ap (λ zs. cond (p y) (y ∷ zs) zs) (filter_last p xs x false_there)

itself : (n : ℕ) → not (n == n) ≡ false
itself n = ap not (eq-eqb n n refl)

receiver_leaves : (it : Receiver) (chan : Chan) → left_by it.goroutine.number (with_receiver it chan) ≡ left_by it.goroutine.number chan
receiver_leaves it chan =
    let n = it.goroutine.number in
    ap (λ (rs : List Receiver). record (left_by n chan) { receivers = rs }) (filter_last (λ (r : Receiver). is_other n r.goroutine) chan.receivers it (itself n))

sender_leaves : (it : Sending) (chan : Chan) → left_by it.goroutine.number (with_sender it chan) ≡ left_by it.goroutine.number chan
sender_leaves it chan =
    let n = it.goroutine.number in
    ap (λ (ss : List Sending). record (left_by n chan) { senders = ss }) (filter_last (λ (r : Sending). is_other n r.goroutine) chan.senders it (itself n))

leaves_at : (it : GoId) (change : Chan → Chan) (id : ChanId) (state : State) (o : Option Chan) → slice_get state.channels id.number ≡ o → ((chan : Chan) → left_by it.number (change chan) ≡ left_by it.number chan) → left_lists it (changed change id state) ≡ left_lists it state
leaves_at it change id state None at leaves = ap (left_lists it) (changed_none change id state at)
leaves_at it change id state (Some chan) at leaves =
    ap (left_lists it) (changed_is change id state chan at)
    ∙ ap (λ (cs : List Chan). record state { channels = cs })
    (map_set (left_by it.number) state.channels id.number (change chan)
    ∙ ap (slice_set (map (left_by it.number) state.channels) id.number) (leaves chan)
    ∙ set_get (map (left_by it.number) state.channels) id.number (left_by it.number chan) (map_get (left_by it.number) state.channels id.number chan at))

leaves : (it : GoId) (change : Chan → Chan) (id : ChanId) (state : State) → ((chan : Chan) → left_by it.number (change chan) ≡ left_by it.number chan) → left_lists it (changed change id state) ≡ left_lists it state
leaves it change id state each = leaves_at it change id state (slice_get state.channels id.number) refl each

pub entered_leaves : (index : ℕ) (case : Case) (state : State) → left_lists state.current (entered index case state) ≡ left_lists state.current state
entered_leaves index (send None it) state = refl
entered_leaves index (send (Some id) it) state = leaves state.current (with_sender (record { goroutine = state.current; index = index; value = it })) id state (sender_leaves (record { goroutine = state.current; index = index; value = it }))
entered_leaves index (receive None) state = refl
entered_leaves index (receive (Some id)) state = leaves state.current (with_receiver (record { goroutine = state.current; index = index })) id state (receiver_leaves (record { goroutine = state.current; index = index }))

current_at : (change : Chan → Chan) (id : ChanId) (state : State) (o : Option Chan) → slice_get state.channels id.number ≡ o → (changed change id state).current ≡ state.current
current_at change id state None at = ap (λ (it : State). it.current) (changed_none change id state at)
current_at change id state (Some chan) at = ap (λ (it : State). it.current) (changed_is change id state chan at)

pub entered_current : (index : ℕ) (case : Case) (state : State) → (entered index case state).current ≡ state.current
entered_current index (send None it) state = refl
entered_current index (send (Some id) it) state = current_at (with_sender (record { goroutine = state.current; index = index; value = it })) id state (slice_get state.channels id.number) refl
entered_current index (receive None) state = refl
entered_current index (receive (Some id)) state = current_at (with_receiver (record { goroutine = state.current; index = index })) id state (slice_get state.channels id.number) refl

pub entered_next : {X : Type 0} (f : X → Case) (i next : ℕ) (op : X) (ops : List X) (state after : State) → next ≡ suc i → drop i ops ≡ op ∷ drop next ops → after ≡ entered i (f op) state → all_entered next (map f (drop next ops)) after ≡ all_entered i (map f (drop i ops)) state
entered_next f i next op ops state after is split then =
    ap (all_entered next (map f (drop next ops))) then
    ∙ ap (λ n. all_entered n (map f (drop next ops)) (entered i (f op) state)) is
    ∙ sym (ap (λ xs. all_entered i (map f xs) state) split)
