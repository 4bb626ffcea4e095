-- A list in cyclic order from a place on, and the choice among it.
use Rattle.std.proofs.Common.{◌≡◌, ◌⊎◌, ℕ, zero, suc, ◌+◌, ◌-◌, ◌%◌, ◌<◌, ◌≤◌, List, [], ◌∷◌, ◌++◌, length, get_or, take, drop, refl, ap, sym, ◌∙◌, subst, Bool, true, false, Some, arith, inl, inr}
use Rattle.std.specs.Prelude.{nat_lt, nat_le, ◌&&◌, slice_get, slice_index, if◌then◌else◌}
use Rattle.std.specs.List.{filter}
use Rattle.std.proofs.Math.Nat.{mod-eq_of_lt, mod-eq-sub-mod, mod-lt}
use Rattle.std.proofs.lemmas.Bool.{cases_lt, cond-true, cond-false}
use Rattle.std.proofs.lemmas.List.{get_or_append_left, get_or-append_right, get_or-drop, get_or-take, length-drop, length-take-le, length-append}
use Rattle.go_sched.specs.Choices.{chosen, next_of, picked, noted, used_up, from_place, cyclic_from, goes_to, next_among, switched_among}
use Rattle.go_sched.specs.Goroutines.{State, below}
use Rattle.go_sched.specs.Standing.{Rises}
use Rattle.go_sched.proofs.Ascending.{take_below, drop_below}

turned_at : (xs : List ℕ) (f k d : ℕ) → f ≤ length xs → k < length xs → (k < length (drop f xs)) ⊎ (length (drop f xs) ≤ k) → get_or (drop f xs ++ take f xs) k d ≡ get_or xs ((f + k) % length xs) d
turned_at xs f k d within below_all (inl front) =
    let l = length-drop f xs in
    let lt : f + k < length xs = omega (arith, l) in
    get_or_append_left (drop f xs) (take f xs) d k front ∙ get_or-drop f xs k d ∙ ap (λ i. get_or xs i d) (sym (mod-eq_of_lt lt))
turned_at xs f k d within below_all (inr back) =
    let l = length-drop f xs in
    let le : length xs ≤ f + k = omega (arith, l) in
    let lt : f + k - length xs < length xs = omega arith in
    let lt_f : k - (length xs - f) < f = omega arith in
    get_or-append_right (drop f xs) (take f xs) (length xs - f) k d l (omega (arith, l))
    ∙ get_or-take f xs (k - (length xs - f)) d lt_f
    ∙ ap (λ i. get_or xs i d) (let e : k - (length xs - f) ≡ f + k - length xs = omega arith in e ∙ sym (mod-eq_of_lt lt) ∙ sym (mod-eq-sub-mod le))

pub turned : (xs : List ℕ) (f k d : ℕ) → f ≤ length xs → k < length xs → get_or (from_place f xs) k d ≡ get_or xs ((f + k) % length xs) d
turned xs f k d within below_all = turned_at xs f k d within below_all (cases_lt k (length (drop f xs)))

pub length_turned : (xs : List ℕ) (f : ℕ) → f ≤ length xs → length (from_place f xs) ≡ length xs
length_turned xs f within = let a = length-append (drop f xs) (take f xs) in let b = length-drop f xs in let e = length-take-le f xs within in omega (arith, a, b, e)

-- those that ascend, in cyclic order from a number on
pub turned_below : (n low high : ℕ) (xs : List ℕ) → Rises low high xs → from_place (below n xs) xs ≡ cyclic_from n xs
turned_below n low high xs rises =
    ap (λ (ys : List ℕ). ys ++ take (below n xs) xs) (drop_below n low high xs rises) ∙ ap (λ (ys : List ℕ). filter (λ x. nat_le n x) xs ++ ys) (take_below n low high xs rises)

-- ---- choices

next_less : (n : ℕ) (numbers : List ℕ) → 0 < n → next_of n numbers < n
next_less n [] some = some
next_less n (number ∷ numbers) some = mod-lt number some

chosen_less_at : (n : ℕ) (state : State) (b : Bool) → nat_le n 1 ≡ b → 0 < n → chosen n state < n
chosen_less_at n state true is some = subst (λ k. k < n) (sym (cond-true (nat_le n 1) _ _ is)) some
chosen_less_at n state false is some = subst (λ k. k < n) (sym (cond-false (nat_le n 1) _ _ is)) (next_less n state.choices some)

pub chosen_less : (n : ℕ) (state : State) → 0 < n → chosen n state < n
chosen_less n state some = chosen_less_at n state (nat_le n 1) refl some

noted_runnable_at : (number : ℕ) (state : State) (b : Bool) → (if b then record state { taken = state.taken ++ number ∷ []; spare = state.spare - 1 } else state).runnable ≡ state.runnable
noted_runnable_at number state true = refl
noted_runnable_at number state false = refl

picked_runnable_at : (n : ℕ) (state : State) (b : Bool) → (if b then state else noted (chosen n state) (used_up state)).runnable ≡ state.runnable
picked_runnable_at n state true = refl
picked_runnable_at n state false = noted_runnable_at (chosen n state) (used_up state) (state.records && nat_lt 0 state.spare)

pub picked_runnable : (n : ℕ) (state : State) → (picked n state).runnable ≡ state.runnable
picked_runnable n state = picked_runnable_at n state (nat_le n 1)

-- ---- the goroutine that runs next

read : (xs : List ℕ) (i x : ℕ) → slice_get xs i ≡ Some x → slice_index xs i ≡ x
read [] i x there = cc
read (y ∷ xs) zero x there = cc
read (y ∷ xs) (suc i) x there = read xs i x there

next_in : (ys : List ℕ) (state : State) → 0 < length ys → next_among ys state ≡ Some (record { number = slice_index ys (chosen (length ys) state) })
next_in [] state some = absurd (omega arith)
next_in (y ∷ ys) state some = refl

switched_in : (ys : List ℕ) (state : State) → 0 < length ys → switched_among ys state ≡ goes_to (slice_index ys (chosen (length ys) state)) (picked (length ys) state)
switched_in [] state some = absurd (omega arith)
switched_in (y ∷ ys) state some = refl

number_is : (first at number : ℕ) (state : State) → first ≤ length state.runnable → 0 < length state.runnable → at ≡ (first + chosen (length state.runnable) state) % length state.runnable → slice_get state.runnable at ≡ Some number → slice_index (from_place first state.runnable) (chosen (length state.runnable) state) ≡ number
number_is first at number state within some is there =
    turned state.runnable first (chosen (length state.runnable) state) 0 within (chosen_less (length state.runnable) state some) ∙ ap (slice_index state.runnable) (sym is) ∙ read state.runnable at number there

pub next_is : (first at number : ℕ) (state : State) → first ≤ length state.runnable → 0 < length state.runnable → at ≡ (first + chosen (length state.runnable) state) % length state.runnable → slice_get state.runnable at ≡ Some number → Some (record { number = number }) ≡ next_among (from_place first state.runnable) state
next_is first at number state within some is there =
    let same = length_turned state.runnable first within in
    sym (next_in (from_place first state.runnable) state (omega (arith, same))
    ∙ ap (λ n. Some (record { number = slice_index (from_place first state.runnable) (chosen n state) })) same
    ∙ ap (λ n. Some (record { number = n })) (number_is first at number state within some is there))

pub switched_is : (first at number : ℕ) (state : State) → first ≤ length state.runnable → 0 < length state.runnable → at ≡ (first + chosen (length state.runnable) state) % length state.runnable → slice_get state.runnable at ≡ Some number → goes_to number (picked (length state.runnable) state) ≡ switched_among (from_place first state.runnable) state
switched_is first at number state within some is there =
    let same = length_turned state.runnable first within in
    sym (switched_in (from_place first state.runnable) state (omega (arith, same))
    ∙ ap (λ n. goes_to (slice_index (from_place first state.runnable) (chosen n state)) (picked n state)) same
    ∙ ap (λ n. goes_to n (picked (length state.runnable) state)) (number_is first at number state within some is there))
