-- Who stands in which lists, and what it is to leave them.
use Rattle.std.proofs.Common.{◌≡◌, ◌≢◌, ◌⊎◌, ℕ, zero, suc, ◌+◌, ◌<◌, ◌≤◌, List, [], ◌∷◌, ◌++◌, map, length, refl, ap, sym, ◌∙◌, subst, Bool, true, false, cond, not, Option, Some, None, arith, inl, inr}
use Rattle.std.specs.Prelude.{◌==◌, slice_get, slice_set}
use Rattle.std.specs.List.{filter}
use Rattle.std.specs.Option.{option_map_or}
use Rattle.std.proofs.lemmas.Bool.{cases_eq, eq-eqb, ne_eqb, cond-true, cond-false}
use Rattle.std.proofs.lemmas.List.{map-append, length-map}
use Rattle.go_base.specs.declared.ids.ChanId.{ChanId}
use Rattle.go_value.specs.Values.{Val}
use Rattle.go_sched.specs.Channels.{Chan, Sending, left_by, is_other, with_receiver, with_sender}
use Rattle.go_sched.specs.Goroutines.{left_in, left_at}
use Rattle.go_sched.specs.Standing.{times, standing_in, standing, waiting, AreHeld}
use Rattle.go_sched.specs.declared.channels.Receiver.{Receiver}

-- ---- items of lists

pub get_set_same : {X : Type 0} (xs : List X) (k : ℕ) (old new : X) → slice_get xs k ≡ Some old → slice_get (slice_set xs k new) k ≡ Some new
get_set_same [] k old new there = cc
get_set_same (x ∷ xs) zero old new there = refl
get_set_same (x ∷ xs) (suc k) old new there = get_set_same xs k old new there

pub get_set_other : {X : Type 0} (xs : List X) (j k : ℕ) (new : X) → (j ≡ k → ⊥) → slice_get (slice_set xs k new) j ≡ slice_get xs j
get_set_other [] j k new ne = refl
get_set_other (x ∷ xs) zero zero new ne = absurd (ne refl)
get_set_other (x ∷ xs) zero (suc k) new ne = refl
get_set_other (x ∷ xs) (suc j) zero new ne = refl
get_set_other (x ∷ xs) (suc j) (suc k) new ne = get_set_other xs j k new (λ e. ne (ap suc e))

pub set_get : {X : Type 0} (xs : List X) (k : ℕ) (x : X) → slice_get xs k ≡ Some x → slice_set xs k x ≡ xs
set_get [] k x there = cc
set_get (y ∷ xs) zero x there = let e : y ≡ x = cc in ap (λ z. z ∷ xs) (sym e)
set_get (y ∷ xs) (suc k) x there = ap (λ zs. y ∷ zs) (set_get xs k x there)

pub map_set : {X Y : Type 0} (f : X → Y) (xs : List X) (k : ℕ) (x : X) → map f (slice_set xs k x) ≡ slice_set (map f xs) k (f x)
map_set f [] k x = refl
map_set f (y ∷ xs) zero x = refl
map_set f (y ∷ xs) (suc k) x = ap (λ zs. f y ∷ zs) (map_set f xs k x)

pub map_get : {X Y : Type 0} (f : X → Y) (xs : List X) (k : ℕ) (x : X) → slice_get xs k ≡ Some x → slice_get (map f xs) k ≡ Some (f x)
map_get f [] k x there = cc
map_get f (y ∷ xs) zero x there = let e : y ≡ x = cc in ap (λ z. Some (f z)) e
map_get f (y ∷ xs) (suc k) x there = map_get f xs k x there

pub map_past : {X Y : Type 0} (f : X → Y) (xs : List X) (k : ℕ) → slice_get xs k ≡ None → slice_get (map f xs) k ≡ None
map_past f [] k past = refl
map_past f (y ∷ xs) zero past = cc
map_past f (y ∷ xs) (suc k) past = map_past f xs k past

-- ---- how often a number is in a list

pub times_same : (n x : ℕ) (xs : List ℕ) → x ≡ n → times n (x ∷ xs) ≡ suc (times n xs)
times_same n x xs e = cond-true (x == n) _ _ (eq-eqb x n e)

pub times_other : (n x : ℕ) (xs : List ℕ) → x ≢ n → times n (x ∷ xs) ≡ times n xs
times_other n x xs ne = cond-false (x == n) _ _ (ne_eqb x n ne)

times_less_at : (n x : ℕ) (xs : List ℕ) (b : Bool) → (x == n) ≡ b → times n xs ≤ cond b (suc (times n xs)) (times n xs)
times_less_at n x xs true is = omega arith
times_less_at n x xs false is = omega arith

pub times_less : (n x : ℕ) (xs : List ℕ) → times n xs ≤ times n (x ∷ xs)
times_less n x xs = times_less_at n x xs (x == n) refl

-- one more where the number is the one
pub one_if : ℕ → ℕ → ℕ
one_if x n = cond (x == n) 1 0

times_push_at : (b : Bool) (t s one : ℕ) → s ≡ t + one → cond b (suc s) s ≡ cond b (suc t) t + one
times_push_at true t s one e = omega arith
times_push_at false t s one e = omega arith

one_more : (b : Bool) → cond b (suc 0) 0 ≡ 0 + cond b 1 0
one_more true = refl
one_more false = refl

pub times_push : (n x : ℕ) (xs : List ℕ) → times n (xs ++ x ∷ []) ≡ times n xs + one_if x n
unfolding one_if
times_push n x [] = one_more (x == n)
times_push n x (y ∷ xs) = times_push_at (y == n) (times n xs) (times n (xs ++ x ∷ [])) (one_if x n) (times_push n x xs)

-- ---- without one

module_less : (b : Bool) (s t : ℕ) → s ≤ t → s ≤ cond b (suc t) t
module_less true s t le = omega arith
module_less false s t le = le

both_less : (b : Bool) (s t : ℕ) → s ≤ t → cond b (suc s) s ≤ cond b (suc t) t
both_less true s t le = omega arith
both_less false s t le = le

filter_less_at : {W : Type 0} (f : W → ℕ) (m : ℕ) (w : W) (ws vs : List W) (b : Bool) → times m (map f vs) ≤ times m (map f ws) → times m (map f (cond b (w ∷ vs) vs)) ≤ times m (map f (w ∷ ws))
filter_less_at f m w ws vs true le = both_less (f w == m) (times m (map f vs)) (times m (map f ws)) le
filter_less_at f m w ws vs false le = module_less (f w == m) (times m (map f vs)) (times m (map f ws)) le

pub filter_less : {W : Type 0} (f : W → ℕ) (p : W → Bool) (m : ℕ) (ws : List W) → times m (map f (filter p ws)) ≤ times m (map f ws)
filter_less f p m [] = omega arith
filter_less f p m (w ∷ ws) = filter_less_at f m w ws (filter p ws) (p w) (filter_less f p m ws)

filter_none_at : {W : Type 0} (f : W → ℕ) (n : ℕ) (w : W) (vs : List W) (b : Bool) → (f w == n) ≡ b → times n (map f vs) ≡ 0 → times n (map f (cond (not b) (w ∷ vs) vs)) ≡ 0
filter_none_at f n w vs true is none = none
filter_none_at f n w vs false is none = cond-false (f w == n) _ _ is ∙ none

pub filter_none : {W : Type 0} (f : W → ℕ) (n : ℕ) (ws : List W) → times n (map f (filter (λ w. not (f w == n)) ws)) ≡ 0
filter_none f n [] = refl
filter_none f n (w ∷ ws) = filter_none_at f n w (filter (λ w. not (f w == n)) ws) (f w == n) refl (filter_none f n ws)

filter_all_at : {W : Type 0} (f : W → ℕ) (n : ℕ) (w : W) (ws vs : List W) (b : Bool) → (f w == n) ≡ b → cond b (suc (times n (map f ws))) (times n (map f ws)) ≡ 0 → (times n (map f ws) ≡ 0 → vs ≡ ws) → cond (not b) (w ∷ vs) vs ≡ w ∷ ws
filter_all_at f n w ws vs true is none rest = absurd (omega arith)
filter_all_at f n w ws vs false is none rest = ap (λ us. w ∷ us) (rest none)

pub filter_all : {W : Type 0} (f : W → ℕ) (n : ℕ) (ws : List W) → times n (map f ws) ≡ 0 → filter (λ w. not (f w == n)) ws ≡ ws
filter_all f n [] none = refl
filter_all f n (w ∷ ws) none = filter_all_at f n w ws (filter (λ w. not (f w == n)) ws) (f w == n) refl none (filter_all f n ws)

-- ---- a goroutine leaves the lists of a channel

pub left_none : (n : ℕ) (chan : Chan) → standing_in n (left_by n chan) ≡ 0
left_none n chan =
    let r = filter_none (λ (it : Receiver). it.goroutine.number) n chan.receivers in
    let s = filter_none (λ (it : Sending). it.goroutine.number) n chan.senders in
    omega (arith, r, s)

pub left_less : (m n : ℕ) (chan : Chan) → standing_in m (left_by n chan) ≤ standing_in m chan
left_less m n chan =
    let r = filter_less (λ (it : Receiver). it.goroutine.number) (λ it. is_other n it.goroutine) m chan.receivers in
    let s = filter_less (λ (it : Sending). it.goroutine.number) (λ it. is_other n it.goroutine) m chan.senders in
    omega (arith, r, s)

pub left_same : (n : ℕ) (chan : Chan) → standing_in n chan ≡ 0 → left_by n chan ≡ chan
left_same n chan none =
    let r : times n (map (λ (it : Receiver). it.goroutine.number) chan.receivers) ≡ 0 = omega arith in
    let s : times n (map (λ (it : Sending). it.goroutine.number) chan.senders) ≡ 0 = omega arith in
    ap (λ (rs : List Receiver). record (left_by n chan) { receivers = rs }) (filter_all (λ (it : Receiver). it.goroutine.number) n chan.receivers r)
    ∙ ap (λ (ss : List Sending). record chan { senders = ss }) (filter_all (λ (it : Sending). it.goroutine.number) n chan.senders s)

pub left_twice : (n : ℕ) (chan : Chan) → left_by n (left_by n chan) ≡ left_by n chan
left_twice n chan = left_same n (left_by n chan) (left_none n chan)

-- ---- it leaves those of some channels, and of all

pub nobody_left : (n : ℕ) (chans : List Chan) → ((k : ℕ) → standing n (slice_get chans k) ≡ 0) → map (left_by n) chans ≡ chans
nobody_left n [] none = refl
nobody_left n (chan ∷ chans) none =
    ap (λ c. c ∷ map (left_by n) chans) (left_same n chan (none 0)) ∙ ap (λ cs. chan ∷ cs) (nobody_left n chans (λ k. none (suc k)))

left_in_map_at : (n : ℕ) (id : ChanId) (chans : List Chan) (o : Option Chan) → slice_get chans id.number ≡ o → map (left_by n) (left_in n id chans) ≡ map (left_by n) chans
left_in_map_at n id chans None there = ap (λ o. map (left_by n) (option_map_or (λ chan. slice_set chans id.number (left_by n chan)) o chans)) there
left_in_map_at n id chans (Some chan) there =
    ap (λ o. map (left_by n) (option_map_or (λ c. slice_set chans id.number (left_by n c)) o chans)) there
    ∙ map_set (left_by n) chans id.number (left_by n chan)
    ∙ ap (slice_set (map (left_by n) chans) id.number) (left_twice n chan)
    ∙ set_get (map (left_by n) chans) id.number (left_by n chan) (map_get (left_by n) chans id.number chan there)

pub map_left_at : (n : ℕ) (ids : List ChanId) (chans : List Chan) → map (left_by n) (left_at n ids chans) ≡ map (left_by n) chans
map_left_at n [] chans = refl
map_left_at n (id ∷ ids) chans = map_left_at n ids (left_in n id chans) ∙ left_in_map_at n id chans (slice_get chans id.number) refl

left_in_here_at : (n : ℕ) (id : ChanId) (chans : List Chan) (o : Option Chan) → slice_get chans id.number ≡ o → standing n (slice_get (left_in n id chans) id.number) ≡ 0
left_in_here_at n id chans None there =
    ap (λ o. standing n (slice_get (option_map_or (λ chan. slice_set chans id.number (left_by n chan)) o chans) id.number)) there ∙ ap (standing n) there
left_in_here_at n id chans (Some chan) there =
    ap (λ o. standing n (slice_get (option_map_or (λ c. slice_set chans id.number (left_by n c)) o chans) id.number)) there
    ∙ ap (standing n) (get_set_same chans id.number chan (left_by n chan) there)
    ∙ left_none n chan

left_in_other_at : (n k : ℕ) (id : ChanId) (chans : List Chan) (o : Option Chan) → slice_get chans id.number ≡ o → (k ≡ id.number → ⊥) → slice_get (left_in n id chans) k ≡ slice_get chans k
left_in_other_at n k id chans None there ne = ap (λ o. slice_get (option_map_or (λ chan. slice_set chans id.number (left_by n chan)) o chans) k) there
left_in_other_at n k id chans (Some chan) there ne =
    ap (λ o. slice_get (option_map_or (λ c. slice_set chans id.number (left_by n c)) o chans) k) there ∙ get_set_other chans k id.number (left_by n chan) ne

none_left_at : (n k : ℕ) (id : ChanId) (ids : List ChanId) (chans : List Chan) → ((cs : List Chan) → standing n (slice_get cs k) ≤ times k (map (λ (id : ChanId). id.number) ids) → standing n (slice_get (left_at n ids cs) k) ≡ 0) → standing n (slice_get chans k) ≤ times k (map (λ (id : ChanId). id.number) (id ∷ ids)) → (id.number ≡ k) ⊎ (id.number ≡ k → ⊥) → standing n (slice_get (left_at n ids (left_in n id chans)) k) ≡ 0
none_left_at n k id ids chans rest le (inl e) =
    rest (left_in n id chans) (subst (λ s. s ≤ times k (map (λ (id : ChanId). id.number) ids)) (sym (subst (λ j. standing n (slice_get (left_in n id chans) j) ≡ 0) e (left_in_here_at n id chans (slice_get chans id.number) refl))) (omega arith))
none_left_at n k id ids chans rest le (inr ne) =
    rest (left_in n id chans)
    (subst (λ o. standing n o ≤ times k (map (λ (id : ChanId). id.number) ids)) (sym (left_in_other_at n k id chans (slice_get chans id.number) refl (λ e. ne (sym e))))
    (subst (λ t. standing n (slice_get chans k) ≤ t) (times_other k id.number (map (λ (id : ChanId). id.number) ids) ne) le))

pub none_left : (n k : ℕ) (ids : List ChanId) (chans : List Chan) → standing n (slice_get chans k) ≤ times k (map (λ (id : ChanId). id.number) ids) → standing n (slice_get (left_at n ids chans) k) ≡ 0
none_left n k [] chans le = omega arith
none_left n k (id ∷ ids) chans le = none_left_at n k id ids chans (λ cs. none_left n k ids cs) le (cases_eq id.number k)

at_waits : (chans : List Chan) (waits : List (List ChanId)) (n : ℕ) (ids : List ChanId) → AreHeld chans waits → slice_get waits n ≡ Some ids → (k : ℕ) → standing n (slice_get chans k) ≤ times k (map (λ (id : ChanId). id.number) ids)
at_waits chans waits n ids held there k = subst (λ o. standing n (slice_get chans k) ≤ waiting k o) there (held k n)

-- one leaves the lists of the channels at which it waits: so it leaves those of all
pub left_all : (chans : List Chan) (waits : List (List ChanId)) (n : ℕ) (ids : List ChanId) → AreHeld chans waits → slice_get waits n ≡ Some ids → left_at n ids chans ≡ map (left_by n) chans
left_all chans waits n ids held there =
    sym (nobody_left n (left_at n ids chans) (λ k. none_left n k ids chans (at_waits chans waits n ids held there k))) ∙ map_left_at n ids chans

pub left_nothing : (chans : List Chan) (waits : List (List ChanId)) (n : ℕ) → AreHeld chans waits → slice_get waits n ≡ Some [] → map (left_by n) chans ≡ chans
left_nothing chans waits n held there = nobody_left n chans (λ k. let le : standing n (slice_get chans k) ≤ 0 = subst (λ o. standing n (slice_get chans k) ≤ waiting k o) there (held k n) in omega arith)

pub left_absent : (chans : List Chan) (waits : List (List ChanId)) (n : ℕ) → AreHeld chans waits → slice_get waits n ≡ None → map (left_by n) chans ≡ chans
left_absent chans waits n held past = nobody_left n chans (λ k. let le : standing n (slice_get chans k) ≤ 0 = subst (λ o. standing n (slice_get chans k) ≤ waiting k o) past (held k n) in omega arith)

-- ---- the invariant is kept

left_at_less : (m n k : ℕ) (chans : List Chan) → standing m (slice_get (map (left_by n) chans) k) ≤ standing m (slice_get chans k)
left_at_less m n k [] = omega arith
left_at_less m n zero (chan ∷ chans) = left_less m n chan
left_at_less m n (suc k) (chan ∷ chans) = left_at_less m n k chans

left_at_none : (n k : ℕ) (chans : List Chan) → standing n (slice_get (map (left_by n) chans) k) ≡ 0
left_at_none n k [] = refl
left_at_none n zero (chan ∷ chans) = left_none n chan
left_at_none n (suc k) (chan ∷ chans) = left_at_none n k chans

pub AreHeld-left : (chans : List Chan) (waits : List (List ChanId)) (n : ℕ) → AreHeld chans waits → AreHeld (map (left_by n) chans) (slice_set waits n [])
AreHeld-left chans waits n held k m = elim (cases_eq m n) [
  | inl e ↦ let none : standing m (slice_get (map (left_by n) chans) k) ≡ 0 = subst (λ j. standing j (slice_get (map (left_by n) chans) k) ≡ 0) (sym e) (left_at_none n k chans) in omega arith
  | inr ne ↦ subst (λ o. standing m (slice_get (map (left_by n) chans) k) ≤ waiting k o) (sym (get_set_other waits m n [] ne)) (let less = left_at_less m n k chans in let le : standing m (slice_get chans k) ≤ waiting k (slice_get waits m) = held k m in omega (arith, less))
]

pub AreHeld-set : (chans : List Chan) (waits : List (List ChanId)) (k : ℕ) (old new : Chan) → AreHeld chans waits → slice_get chans k ≡ Some old → ((n : ℕ) → standing_in n new ≤ standing_in n old) → AreHeld (slice_set chans k new) waits
AreHeld-set chans waits k old new held there less j n = elim (cases_eq j k) [
  | inl e ↦ subst (λ i. standing n (slice_get (slice_set chans k new) i) ≤ waiting i (slice_get waits n)) (sym e)
      (subst (λ o. standing n o ≤ waiting k (slice_get waits n)) (sym (get_set_same chans k old new there))
      (let le : standing_in n old ≤ waiting k (slice_get waits n) = subst (λ o. standing n o ≤ waiting k (slice_get waits n)) there (held k n) in let l : standing_in n new ≤ standing_in n old = less n in omega arith))
  | inr ne ↦ subst (λ o. standing n o ≤ waiting j (slice_get waits n)) (sym (get_set_other chans j k new ne)) (held j n)
]

-- a channel, or a goroutine, more
get_push_new : (chans : List Chan) (chan : Chan) (k n : ℕ) → standing_in n chan ≡ 0 → standing n (slice_get (chans ++ chan ∷ []) k) ≤ standing n (slice_get chans k)
get_push_new [] chan zero n none = omega arith
get_push_new [] chan (suc k) n none = omega arith
get_push_new (c ∷ chans) chan zero n none = omega arith
get_push_new (c ∷ chans) chan (suc k) n none = get_push_new chans chan k n none

pub AreHeld-chan : (chans : List Chan) (waits : List (List ChanId)) (chan : Chan) → AreHeld chans waits → ((n : ℕ) → standing_in n chan ≡ 0) → AreHeld (chans ++ chan ∷ []) waits
AreHeld-chan chans waits chan held none k n =
    let new = get_push_new chans chan k n (none n) in let le : standing n (slice_get chans k) ≤ waiting k (slice_get waits n) = held k n in omega (arith, new)

waits_push : (waits : List (List ChanId)) (k n : ℕ) → waiting k (slice_get waits n) ≤ waiting k (slice_get (waits ++ [] ∷ []) n)
waits_push [] k n = omega arith
waits_push (w ∷ waits) k zero = omega arith
waits_push (w ∷ waits) k (suc n) = waits_push waits k n

pub AreHeld-goroutine : (chans : List Chan) (waits : List (List ChanId)) → AreHeld chans waits → AreHeld chans (waits ++ [] ∷ [])
AreHeld-goroutine chans waits held k n =
    let more = waits_push waits k n in let le : standing n (slice_get chans k) ≤ waiting k (slice_get waits n) = held k n in omega (arith, more)

one_same : (x : ℕ) → one_if x x ≡ 1
unfolding one_if
one_same x = cond-true (x == x) 1 0 (eq-eqb x x refl)

one_other : (x n : ℕ) → x ≢ n → one_if x n ≡ 0
unfolding one_if
one_other x n ne = cond-false (x == n) 1 0 (ne_eqb x n ne)

more_waits : (k : ℕ) (ids : List ChanId) (id : ChanId) → waiting k (Some (ids ++ id ∷ [])) ≡ waiting k (Some ids) + one_if id.number k
more_waits k ids id = ap (times k) (map-append (λ (it : ChanId). it.number) ids (id ∷ [])) ∙ times_push k id.number (map (λ (it : ChanId). it.number) ids)

enter_else : (chans : List Chan) (waits : List (List ChanId)) (id : ChanId) (g j : ℕ) (ids : List ChanId) → AreHeld chans waits → slice_get waits g ≡ Some ids → (n : ℕ) → (n ≡ g) ⊎ (n ≡ g → ⊥) → standing n (slice_get chans j) ≤ waiting j (slice_get (slice_set waits g (ids ++ id ∷ [])) n)
enter_else chans waits id g j ids held there n (inl e) =
    subst (λ m. standing m (slice_get chans j) ≤ waiting j (slice_get (slice_set waits g (ids ++ id ∷ [])) m)) (sym e)
    (subst (λ o. standing g (slice_get chans j) ≤ waiting j o) (sym (get_set_same waits g ids (ids ++ id ∷ []) there))
    (let le : standing g (slice_get chans j) ≤ waiting j (Some ids) = subst (λ o. standing g (slice_get chans j) ≤ waiting j o) there (held j g) in
    let c = more_waits j ids id in
    omega (arith, c)))
enter_else chans waits id g j ids held there n (inr ne) = subst (λ o. standing n (slice_get chans j) ≤ waiting j o) (sym (get_set_other waits n g (ids ++ id ∷ []) ne)) (held j n)

-- a goroutine is about to stand at a channel
pub AreHeld-wait : (chans : List Chan) (waits : List (List ChanId)) (id : ChanId) (g : ℕ) (ids : List ChanId) → AreHeld chans waits → slice_get waits g ≡ Some ids → AreHeld chans (slice_set waits g (ids ++ id ∷ []))
AreHeld-wait chans waits id g ids held there j n = enter_else chans waits id g j ids held there n (cases_eq n g)

pub waits_once_more : (chans : List Chan) (waits : List (List ChanId)) (id : ChanId) (g : ℕ) (ids : List ChanId) → AreHeld chans waits → slice_get waits g ≡ Some ids → standing g (slice_get chans id.number) < waiting id.number (slice_get (slice_set waits g (ids ++ id ∷ [])) g)
waits_once_more chans waits id g ids held there =
    subst (λ o. standing g (slice_get chans id.number) < waiting id.number o) (sym (get_set_same waits g ids (ids ++ id ∷ []) there))
    (let le : standing g (slice_get chans id.number) ≤ waiting id.number (Some ids) = subst (λ o. standing g (slice_get chans id.number) ≤ waiting id.number o) there (held id.number g) in
    let c = more_waits id.number ids id in let d = one_same id.number in
    omega (arith, c, d))

enter_here : (waits : List (List ChanId)) (k : ℕ) (old new : Chan) (g : ℕ) → ((n : ℕ) → standing_in n old ≤ waiting k (slice_get waits n)) → standing_in g old < waiting k (slice_get waits g) → ((n : ℕ) → standing_in n new ≡ standing_in n old + one_if g n) → (n : ℕ) → (n ≡ g) ⊎ (n ≡ g → ⊥) → standing_in n new ≤ waiting k (slice_get waits n)
enter_here waits k old new g held less more n (inl e) =
    subst (λ m. standing_in m new ≤ waiting k (slice_get waits m)) (sym e) (let a = more g in let b = one_same g in omega (arith, a, b))
enter_here waits k old new g held less more n (inr ne) = let a = more n in let b = one_other g n (λ e. ne (sym e)) in let le = held n in omega (arith, a, b, le)

-- it stands there
pub AreHeld-enter : (chans : List Chan) (waits : List (List ChanId)) (k : ℕ) (old new : Chan) (g : ℕ) → AreHeld chans waits → slice_get chans k ≡ Some old → standing g (slice_get chans k) < waiting k (slice_get waits g) → ((n : ℕ) → standing_in n new ≡ standing_in n old + one_if g n) → AreHeld (slice_set chans k new) waits
AreHeld-enter chans waits k old new g held here less more j n = elim (cases_eq j k) [
  | inl e ↦ subst (λ i. standing n (slice_get (slice_set chans k new) i) ≤ waiting i (slice_get waits n)) (sym e)
      (subst (λ o. standing n o ≤ waiting k (slice_get waits n)) (sym (get_set_same chans k old new here))
      (enter_here waits k old new g (λ m. subst (λ o. standing m o ≤ waiting k (slice_get waits m)) here (held k m)) (subst (λ o. standing g o < waiting k (slice_get waits g)) here less) more n (cases_eq n g)))
  | inr ne ↦ subst (λ o. standing n o ≤ waiting j (slice_get waits n)) (sym (get_set_other chans j k new ne)) (held j n)
]

pub receiver_more : (n : ℕ) (chan : Chan) (it : Receiver) → standing_in n (with_receiver it chan) ≡ standing_in n chan + one_if it.goroutine.number n
receiver_more n chan it =
    let f : Receiver → ℕ = λ r. r.goroutine.number in
    let a = ap (times n) (map-append f chan.receivers (it ∷ [])) ∙ times_push n it.goroutine.number (map f chan.receivers) in
    omega (arith, a)

pub sender_more : (n : ℕ) (chan : Chan) (it : Sending) → standing_in n (with_sender it chan) ≡ standing_in n chan + one_if it.goroutine.number n
sender_more n chan it =
    let f : Sending → ℕ = λ r. r.goroutine.number in
    let a = ap (times n) (map-append f chan.senders (it ∷ [])) ∙ times_push n it.goroutine.number (map f chan.senders) in
    omega (arith, a)

-- ---- the first of those that wait leaves

pub receiver_one_less : (chan : Chan) (first : Receiver) (others : List Receiver) → chan.receivers ≡ first ∷ others → suc (standing_in first.goroutine.number (record chan { receivers = others })) ≡ standing_in first.goroutine.number chan
receiver_one_less chan first others is =
    let n = first.goroutine.number in
    let less = times_same n n (map (λ (it : Receiver). it.goroutine.number) others) refl in
    let e = ap (λ (rs : List Receiver). times n (map (λ (it : Receiver). it.goroutine.number) rs)) is in
    omega (arith, less, e)

pub sender_less : (n : ℕ) (chan : Chan) (queue : List Val) (first : Sending) (others : List Sending) → chan.senders ≡ first ∷ others → standing_in n (record chan { queue = queue; senders = others }) ≤ standing_in n chan
sender_less n chan queue first others is =
    let less = times_less n first.goroutine.number (map (λ (it : Sending). it.goroutine.number) others) in
    let e = ap (λ (rs : List Sending). times n (map (λ (it : Sending). it.goroutine.number) rs)) is in
    omega (arith, less, e)

pub sender_one_less : (chan : Chan) (queue : List Val) (first : Sending) (others : List Sending) → chan.senders ≡ first ∷ others → suc (standing_in first.goroutine.number (record chan { queue = queue; senders = others })) ≡ standing_in first.goroutine.number chan
sender_one_less chan queue first others is =
    let n = first.goroutine.number in
    let less = times_same n n (map (λ (it : Sending). it.goroutine.number) others) refl in
    let e = ap (λ (rs : List Sending). times n (map (λ (it : Sending). it.goroutine.number) rs)) is in
    omega (arith, less, e)

-- ---- one that waited in one case alone stands nowhere once it was served

alone_here : (k s : ℕ) (ids : List ChanId) → length ids ≤ 1 → suc s ≤ times k (map (λ (id : ChanId). id.number) ids) → (j : ℕ) → (j ≡ k → ⊥) → times j (map (λ (id : ChanId). id.number) ids) ≡ 0
alone_here k s [] short le j ne = refl
alone_here k s (id ∷ id' ∷ ids) short le j ne = absurd (omega arith)
alone_here k s (id ∷ []) short le j ne = elim (cases_eq id.number k) [
  | inl e ↦ times_other j id.number [] (λ is. ne (sym is ∙ e))
  | inr other ↦ let none = times_other k id.number [] other in absurd (omega (arith, none))
]

short_at : (b : Bool) (t l : ℕ) → t ≤ l → cond b (suc t) t ≤ suc l
short_at true t l le = omega arith
short_at false t l le = omega arith

times_short : (n : ℕ) (xs : List ℕ) → times n xs ≤ length xs
times_short n [] = omega arith
times_short n (x ∷ xs) = short_at (x == n) (times n xs) (length xs) (times_short n xs)

pub served_alone : (chans : List Chan) (waits : List (List ChanId)) (n k : ℕ) (ids : List ChanId) → AreHeld chans waits → slice_get waits n ≡ Some ids → length ids ≤ 1 → suc (standing n (slice_get chans k)) ≤ waiting k (slice_get waits n) → map (left_by n) chans ≡ chans
served_alone chans waits n k ids held there short served =
    let le : suc (standing n (slice_get chans k)) ≤ times k (map (λ (id : ChanId). id.number) ids) = subst (λ o. suc (standing n (slice_get chans k)) ≤ waiting k o) there served in
    nobody_left n chans (λ j. elim (cases_eq j k) [
      | inl e ↦ subst (λ i. standing n (slice_get chans i) ≡ 0) (sym e)
          (let a = times_short k (map (λ (id : ChanId). id.number) ids) in let b : length (map (λ (id : ChanId). id.number) ids) ≡ length ids = length-map ids (λ (id : ChanId). id.number) in omega (arith, a, b))
      | inr ne ↦ let a = alone_here k (standing n (slice_get chans k)) ids short le j ne in
          let b : standing n (slice_get chans j) ≤ times j (map (λ (id : ChanId). id.number) ids) = at_waits chans waits n ids held there j in omega (arith, a, b)
    ])
