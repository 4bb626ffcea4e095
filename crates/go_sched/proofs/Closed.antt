-- Those that a close serves were made.
use Rattle.std.proofs.Common.{◌≡◌, ℕ, zero, suc, ◌<◌, ◌≤◌, List, [], ◌∷◌, ◌++◌, map, refl, subst, Bool, true, false, cond, Option, Some, None, arith}
use Rattle.std.specs.Prelude.{slice_get}
use Rattle.std.specs.List.{All}
use Rattle.std.specs.Option.{option_map_or}
use Rattle.go_base.specs.declared.ids.ChanId.{ChanId}
use Rattle.go_sched.specs.Channels.{Chan, Sending}
use Rattle.go_sched.specs.Goroutines.{State, state_of, changed, with_chan}
use Rattle.go_sched.specs.Operations.{Woken, woken_of, goes_on, with_first, with_firsts, closed_receiver, closed_sender, served_by_close, served_at}
use Rattle.go_sched.specs.Standing.{times, standing, standing_in, waiting, lists_of}
use Rattle.go_sched.specs.declared.channels.Receiver.{Receiver}
use Rattle.go_sched.specs.declared.lists.Wake.{Wake}
use Rattle.go_sched.specs.declared.scheduling.Sched.{Sched}
use Rattle.go_sched.proofs.Changes.{made}
use Rattle.go_sched.proofs.Held.{times_same, times_less}

abbrev pub Made : ℕ → List Woken → Type 0
Made count [] = Unit {0}
Made count (it ∷ others) = (it.goroutine.number < count) × Made count others

Made-push : (count : ℕ) (it : Woken) (woken : List Woken) → it.goroutine.number < count → Made count woken → Made count (woken ++ it ∷ [])
Made-push count it [] less made = (less, tt)
Made-push count it (first ∷ woken) less made = (made.0, Made-push count it woken less made.1)

Made-first_at : (count : ℕ) (it : Woken) (woken : List Woken) (b : Bool) → it.goroutine.number < count → Made count woken → Made count (cond b woken (woken ++ it ∷ []))
Made-first_at count it woken true less made = made
Made-first_at count it woken false less made = Made-push count it woken less made

Made-firsts : (count : ℕ) (its woken : List Woken) → Made count its → Made count woken → Made count (with_firsts its woken)
Made-firsts count [] woken many made = made
Made-firsts count (it ∷ its) woken many made = Made-firsts count its (with_first it woken) many.1 (Made-first_at count it woken (goes_on it.goroutine woken) many.0 made)

Made-receivers : (count : ℕ) (them : List Receiver) → ((n : ℕ) → 0 < times n (map (λ (it : Receiver). it.goroutine.number) them) → n < count) → Made count (map closed_receiver them)
Made-receivers count [] all = tt
Made-receivers count (it ∷ them) all =
    let rest = map (λ (it : Receiver). it.goroutine.number) them in
    let here = times_same it.goroutine.number it.goroutine.number rest refl in
    (all it.goroutine.number (omega (arith, here)), Made-receivers count them (λ n some. all n (let less = times_less n it.goroutine.number rest in omega (arith, less, some))))

Made-senders : (count : ℕ) (them : List Sending) → ((n : ℕ) → 0 < times n (map (λ (it : Sending). it.goroutine.number) them) → n < count) → Made count (map closed_sender them)
Made-senders count [] all = tt
Made-senders count (it ∷ them) all =
    let rest = map (λ (it : Sending). it.goroutine.number) them in
    let here = times_same it.goroutine.number it.goroutine.number rest refl in
    (all it.goroutine.number (omega (arith, here)), Made-senders count them (λ n some. all n (let less = times_less n it.goroutine.number rest in omega (arith, less, some))))

Made-closed : (count : ℕ) (chan : Chan) → ((n : ℕ) → 0 < standing_in n chan → n < count) → Made count (served_by_close chan)
Made-closed count chan all =
    Made-firsts count (map closed_sender chan.senders) (with_firsts (map closed_receiver chan.receivers) []) (Made-senders count chan.senders (λ n some. all n (omega arith)))
    (Made-firsts count (map closed_receiver chan.receivers) [] (Made-receivers count chan.receivers (λ n some. all n (omega arith))) tt)

Made-served_at : (s : Sched) (id : ChanId) (o : Option Chan) → slice_get (state_of s).channels id.number ≡ o → Made (state_of s).goroutines (option_map_or served_by_close o [])
Made-served_at s id None at = tt
Made-served_at s id (Some chan) at =
    Made-closed (state_of s).goroutines chan (λ n some. made s n id.number 0
    (let held : standing n (Some chan) ≤ waiting id.number (slice_get (lists_of s.waits.items) n) = subst (λ o. standing n o ≤ waiting id.number (slice_get (lists_of s.waits.items) n)) at (s.standing id.number n) in omega (arith, some, held)))

pub Made-served : (s : Sched) (id : ChanId) → Made (state_of s).goroutines (served_at id (state_of s))
Made-served s id = Made-served_at s id (slice_get (state_of s).channels id.number) refl

pub Made-all : (count : ℕ) (wakes : List Wake) → Made count (map woken_of wakes) → All (λ (it : Wake). it.goroutine.number < count) wakes
Made-all count [] made k d lt = absurd (omega arith)
Made-all count (it ∷ wakes) made zero d lt = made.0
Made-all count (it ∷ wakes) made (suc k) d lt = Made-all count wakes made.1 k d (omega arith)

changed_at : (change : Chan → Chan) (id : ChanId) (state : State) (o : Option Chan) → (option_map_or (λ chan. with_chan id (change chan) state) o state).goroutines ≡ state.goroutines
changed_at change id state None = refl
changed_at change id state (Some chan) = refl

pub changed_goroutines : (change : Chan → Chan) (id : ChanId) (state : State) → (changed change id state).goroutines ≡ state.goroutines
changed_goroutines change id state = changed_at change id state (slice_get state.channels id.number)
