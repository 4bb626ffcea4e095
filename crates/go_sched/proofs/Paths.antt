-- What each way through a receive gives.
use Rattle.std.proofs.Common.{◌≡◌, ℕ, List, [], ◌∷◌, refl, ap, sym, ◌∙◌, true, false, Option, Some, None, Ok}
use Rattle.std.specs.Prelude.{slice_get}
use Rattle.std.specs.Option.{option_map}
use Rattle.go_base.specs.declared.ids.ChanId.{ChanId}
use Rattle.go_value.specs.Values.{Val}
use Rattle.go_sched.specs.Channels.{Chan, Sending, is_filled, passed_in, passed_value}
use Rattle.go_sched.specs.Goroutines.{State, stopped}
use Rattle.go_sched.specs.Operations.{Woken, blocks, first_value, completes, waits, taken, taken_from, receives, received_from, shut, sender_served, drawn_from, waits_to_receive}

pub from_closed : (index : ℕ) (state : State) (id : ChanId) (chan : Chan) → slice_get state.channels id.number ≡ Some chan → chan.senders ≡ [] → chan.queue ≡ [] → chan.closed ≡ true → receives index state (Some id) ≡ completes index None [] state
from_closed index state id chan there nobody empty shut =
    ap (received_from index state id) there ∙ ap (λ ss. taken index state id ss chan.queue chan.closed) nobody ∙ ap (λ q. taken index state id [] q chan.closed) empty ∙ ap (taken index state id [] []) shut

pub from_nobody : (index : ℕ) (state : State) (id : ChanId) (chan : Chan) → slice_get state.channels id.number ≡ Some chan → chan.senders ≡ [] → chan.queue ≡ [] → chan.closed ≡ false → receives index state (Some id) ≡ waits (waits_to_receive index id state)
from_nobody index state id chan there nobody empty is_open =
    ap (received_from index state id) there ∙ ap (λ ss. taken index state id ss chan.queue chan.closed) nobody ∙ ap (λ q. taken index state id [] q chan.closed) empty ∙ ap (taken index state id [] []) is_open

some_same : (x y : Woken) → Some x ≡ Some y → x ≡ y
some_same x y e = cc

completes_at : (index : ℕ) (value value' : Option Val) (woken woken' : List Woken) (state state' : State) → value ≡ value' → woken ≡ woken' → state ≡ state' → completes index value woken state ≡ completes index value' woken' state'
completes_at index value value' woken woken' state state' a b c =
    ap (λ (v : Option Val). completes index v woken state) a ∙ ap (λ (ws : List Woken). completes index value' ws state) b ∙ ap (completes index value' woken') c

by_sender : (index : ℕ) (state : State) (id : ChanId) (chan : Chan) (them : List Sending) (woken : Woken) → chan.senders ≡ them → Some woken ≡ option_map taken_from (slice_get them 0) → received_from index state id (Some chan) ≡ completes index (passed_value (Some chan)) (woken ∷ []) (sender_served id state)
by_sender index state id chan [] woken is first = cc
by_sender index state id chan (it ∷ others) woken is first =
    let e : taken_from it ≡ woken = some_same (taken_from it) woken (sym first) in
    ap (λ ss. taken index state id ss chan.queue chan.closed) is
    ∙ ap (λ v. completes index v (taken_from it ∷ []) (sender_served id state)) (sym (ap (λ ss. passed_in ss chan.queue) is))
    ∙ ap (λ w. completes index (passed_value (Some chan)) (w ∷ []) (sender_served id state)) e

pub received_by_sender : (index : ℕ) (state after : State) (id : ChanId) (chan : Chan) (woken : Woken) (value : Option Val) (wakes : List Woken) → slice_get state.channels id.number ≡ Some chan → Some woken ≡ option_map taken_from (slice_get chan.senders 0) → value ≡ passed_value (slice_get state.channels id.number) → wakes ≡ woken ∷ [] → after ≡ sender_served id state → receives index state (Some id) ≡ completes index value wakes after
received_by_sender index state after id chan woken value wakes at first is goes then =
    ap (received_from index state id) at ∙ by_sender index state id chan chan.senders woken refl first
    ∙ completes_at index (passed_value (Some chan)) value (woken ∷ []) wakes (sender_served id state) after (sym (is ∙ ap passed_value at)) (sym goes) (sym then)

nobody : (them : List Sending) → ◌≡◌ {A = Option Woken} None (option_map taken_from (slice_get them 0)) → them ≡ []
nobody [] none = refl
nobody (it ∷ them) none = cc

by_value : (index : ℕ) (state : State) (id : ChanId) (chan : Chan) (queue : List Val) → chan.senders ≡ [] → chan.queue ≡ queue → is_filled queue ≡ true → received_from index state id (Some chan) ≡ completes index (slice_get queue 0) [] (drawn_from id state)
by_value index state id chan [] empty is filled = cc
by_value index state id chan (it ∷ others) empty is filled =
    ap (λ ss. taken index state id ss chan.queue chan.closed) empty ∙ ap (λ q. taken index state id [] q chan.closed) is

pub received_by_value : (index : ℕ) (state after : State) (id : ChanId) (chan : Chan) (value : Option Val) (wakes : List Woken) → slice_get state.channels id.number ≡ Some chan → ◌≡◌ {A = Option Woken} None (option_map taken_from (slice_get chan.senders 0)) → true ≡ is_filled chan.queue → value ≡ first_value (slice_get state.channels id.number) → wakes ≡ [] → after ≡ drawn_from id state → receives index state (Some id) ≡ completes index value wakes after
received_by_value index state after id chan value wakes at none filled is goes then =
    ap (received_from index state id) at ∙ by_value index state id chan chan.queue (nobody chan.senders none) refl (sym filled)
    ∙ completes_at index (slice_get chan.queue 0) value [] wakes (drawn_from id state) after (sym (is ∙ ap first_value at)) (sym goes) (sym then)

no_values : (queue : List Val) → false ≡ is_filled queue → queue ≡ []
no_values [] none = refl
no_values (it ∷ queue) none = cc

pub received_by_closed : (index : ℕ) (state : State) (id : ChanId) (chan : Chan) (wakes : List Woken) → slice_get state.channels id.number ≡ Some chan → ◌≡◌ {A = Option Woken} None (option_map taken_from (slice_get chan.senders 0)) → false ≡ is_filled chan.queue → chan.closed ≡ true → wakes ≡ [] → receives index state (Some id) ≡ completes index None wakes state
received_by_closed index state id chan wakes at none empty shut goes =
    from_closed index state id chan at (nobody chan.senders none) (no_values chan.queue empty) shut ∙ ap (λ ws. completes index None ws state) (sym goes)

pub received_by_nobody : (index : ℕ) (state after : State) (id : ChanId) (chan : Chan) → slice_get state.channels id.number ≡ Some chan → ◌≡◌ {A = Option Woken} None (option_map taken_from (slice_get chan.senders 0)) → false ≡ is_filled chan.queue → chan.closed ≡ false → after ≡ stopped (waits_to_receive index id state) → receives index state (Some id) ≡ record { answer = Ok blocks; after = after }
received_by_nobody index state after id chan at none empty is_open then =
    from_nobody index state id chan at (nobody chan.senders none) (no_values chan.queue empty) is_open ∙ ap (λ (s : State). record { answer = Ok blocks; after = s }) (sym then)
