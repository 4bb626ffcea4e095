-- Numbers that ascend: those below one, and those from one on.
use Rattle.std.proofs.Common.{◌≡◌, ◌≢◌, ℕ, zero, suc, ◌+◌, ◌<◌, ◌≤◌, List, [], ◌∷◌, ◌++◌, length, get_or, take, drop, refl, ap, sym, ◌∙◌, subst, Bool, true, false, cond, not, Some, arith}
use Rattle.std.specs.Prelude.{nat_lt, nat_le, ◌==◌, slice_get}
use Rattle.std.specs.List.{filter, insert, remove}
use Rattle.std.proofs.lemmas.List.Edits.{length-insert}
use Rattle.std.proofs.lemmas.Bool.{ltb-true, ltb-false, lt-ltb, le-ltb, le-leb, lt-leb, leb-true, leb-false, eqb-false, eq-eqb, ne_eqb, cond-true, cond-false}
use Rattle.go_sched.specs.Standing.{Rises}
use Rattle.go_sched.specs.Goroutines.{below, inserted, removed}

pub Rises-lower : (low low' high : ℕ) (xs : List ℕ) → low' ≤ low → Rises low high xs → Rises low' high xs
Rises-lower low low' high [] le rises = omega arith
Rises-lower low low' high (x ∷ xs) le rises = let first : low ≤ x = rises.0 in (omega arith, rises.1)

pub none_below : (n low high : ℕ) (xs : List ℕ) → n ≤ low → Rises low high xs → filter (λ x. nat_lt x n) xs ≡ []
none_below n low high [] le rises = refl
none_below n low high (x ∷ xs) le rises =
    let first : low ≤ x = rises.0 in
    cond-false (nat_lt x n) _ _ (le-ltb x n (omega arith)) ∙ none_below n (suc x) high xs (omega arith) rises.1

pub all_from : (n low high : ℕ) (xs : List ℕ) → n ≤ low → Rises low high xs → filter (λ x. nat_le n x) xs ≡ xs
all_from n low high [] le rises = refl
all_from n low high (x ∷ xs) le rises =
    let first : low ≤ x = rises.0 in
    cond-true (nat_le n x) _ _ (le-leb n x (omega arith)) ∙ ap (λ ys. x ∷ ys) (all_from n (suc x) high xs (omega arith) rises.1)

-- ---- where a number stands

below_here : (n x high : ℕ) (xs : List ℕ) → n ≤ x → Rises (suc x) high xs → below n (x ∷ xs) ≡ 0
below_here n x high xs le rises = ap length (cond-false (nat_lt x n) _ _ (le-ltb x n le) ∙ none_below n (suc x) high xs (omega arith) rises)

below_past : (n x : ℕ) (xs : List ℕ) → x < n → below n (x ∷ xs) ≡ suc (below n xs)
below_past n x xs lt = ap length (cond-true (nat_lt x n) _ _ (lt-ltb x n lt))

take_below_at : (n low high x : ℕ) (xs : List ℕ) (b : Bool) → nat_lt x n ≡ b → Rises (suc x) high xs → take (below n xs) xs ≡ filter (λ y. nat_lt y n) xs → take (below n (x ∷ xs)) (x ∷ xs) ≡ filter (λ y. nat_lt y n) (x ∷ xs)
take_below_at n low high x xs true is rises rest =
    ap (λ k. take k (x ∷ xs)) (below_past n x xs (ltb-true x n is)) ∙ ap (λ ys. x ∷ ys) rest ∙ sym (cond-true (nat_lt x n) _ _ is)
take_below_at n low high x xs false is rises rest =
    ap (λ k. take k (x ∷ xs)) (below_here n x high xs (ltb-false x n is) rises) ∙ sym (cond-false (nat_lt x n) _ _ is ∙ none_below n (suc x) high xs (let le : n ≤ x = ltb-false x n is in omega arith) rises)

pub take_below : (n low high : ℕ) (xs : List ℕ) → Rises low high xs → take (below n xs) xs ≡ filter (λ x. nat_lt x n) xs
take_below n low high [] rises = refl
take_below n low high (x ∷ xs) rises = take_below_at n low high x xs (nat_lt x n) refl rises.1 (take_below n (suc x) high xs rises.1)

drop_below_at : (n high x : ℕ) (xs : List ℕ) (b : Bool) → nat_lt x n ≡ b → Rises (suc x) high xs → drop (below n xs) xs ≡ filter (λ y. nat_le n y) xs → drop (below n (x ∷ xs)) (x ∷ xs) ≡ filter (λ y. nat_le n y) (x ∷ xs)
drop_below_at n high x xs true is rises rest =
    ap (λ k. drop k (x ∷ xs)) (below_past n x xs (ltb-true x n is)) ∙ rest ∙ sym (cond-false (nat_le n x) _ _ (lt-leb n x (ltb-true x n is)))
drop_below_at n high x xs false is rises rest =
    let le : n ≤ x = ltb-false x n is in
    ap (λ k. drop k (x ∷ xs)) (below_here n x high xs le rises)
    ∙ sym (cond-true (nat_le n x) _ _ (le-leb n x le) ∙ ap (λ ys. x ∷ ys) (all_from n (suc x) high xs (omega arith) rises))

pub drop_below : (n low high : ℕ) (xs : List ℕ) → Rises low high xs → drop (below n xs) xs ≡ filter (λ x. nat_le n x) xs
drop_below n low high [] rises = refl
drop_below n low high (x ∷ xs) rises = drop_below_at n high x xs (nat_lt x n) refl rises.1 (drop_below n (suc x) high xs rises.1)

within_at : (n x : ℕ) (xs : List ℕ) (b : Bool) → nat_lt x n ≡ b → below n xs ≤ length xs → below n (x ∷ xs) ≤ length (x ∷ xs)
within_at n x xs true is le = subst (λ k. k ≤ suc (length xs)) (sym (ap length (cond-true (nat_lt x n) _ _ is))) (omega arith)
within_at n x xs false is le = subst (λ k. k ≤ suc (length xs)) (sym (ap length (cond-false (nat_lt x n) _ _ is))) (omega arith)

pub below_within : (n : ℕ) (xs : List ℕ) → below n xs ≤ length xs
below_within n [] = omega arith
below_within n (x ∷ xs) = within_at n x xs (nat_lt x n) refl (below_within n xs)

-- ---- how many there are

pub pigeons : (low high : ℕ) (xs : List ℕ) → Rises low high xs → length xs + low ≤ high
pigeons low high [] rises = omega arith
pigeons low high (x ∷ xs) rises =
    let first : low ≤ x = rises.0 in
    let rest : length xs + suc x ≤ high = pigeons (suc x) high xs rises.1 in
    omega arith

pub Rises-higher : (low high : ℕ) (xs : List ℕ) → Rises low high xs → Rises low (high + 1) xs
Rises-higher low high [] rises = omega arith
Rises-higher low high (x ∷ xs) rises = (rises.0, Rises-higher (suc x) high xs rises.1)

pub Rises-push : (low high : ℕ) (xs : List ℕ) → Rises low high xs → Rises low (high + 1) (xs ++ high ∷ [])
Rises-push low high [] rises = (rises, omega arith)
Rises-push low high (x ∷ xs) rises = (rises.0, Rises-push (suc x) high xs rises.1)

-- ---- without one

removed_above : (n low high : ℕ) (xs : List ℕ) → n < low → Rises low high xs → removed n xs ≡ xs
removed_above n low high [] lt rises = refl
removed_above n low high (x ∷ xs) lt rises =
    let first : low ≤ x = rises.0 in
    ap (λ b. cond (not b) (x ∷ removed n xs) (removed n xs)) (ne_eqb x n (λ e. omega arith))
    ∙ ap (λ ys. x ∷ ys) (removed_above n (suc x) high xs (omega arith) rises.1)

removed_other : (n x : ℕ) (xs : List ℕ) → x ≢ n → removed n (x ∷ xs) ≡ x ∷ removed n xs
removed_other n x xs ne = ap (λ b. cond (not b) (x ∷ removed n xs) (removed n xs)) (ne_eqb x n ne)

removed_same : (n x : ℕ) (xs : List ℕ) → x ≡ n → removed n (x ∷ xs) ≡ removed n xs
removed_same n x xs e = ap (λ b. cond (not b) (x ∷ removed n xs) (removed n xs)) (eq-eqb x n e)

some_same : (x n : ℕ) → Some x ≡ Some n → x ≡ n
some_same x n e = cc

removed_there_at : (n high x : ℕ) (xs : List ℕ) (b : Bool) → nat_lt x n ≡ b → Rises (suc x) high xs → (slice_get xs (below n xs) ≡ Some n → remove xs (below n xs) ≡ removed n xs) → slice_get (x ∷ xs) (below n (x ∷ xs)) ≡ Some n → remove (x ∷ xs) (below n (x ∷ xs)) ≡ removed n (x ∷ xs)
removed_there_at n high x xs true is rises rest there =
    let lt : x < n = ltb-true x n is in
    let past = below_past n x xs lt in
    ap (remove (x ∷ xs)) past ∙ ap (λ ys. x ∷ ys) (rest (sym (ap (slice_get (x ∷ xs)) past) ∙ there)) ∙ sym (removed_other n x xs (λ e. omega arith))
removed_there_at n high x xs false is rises rest there =
    let le : n ≤ x = ltb-false x n is in
    let here = below_here n x high xs le rises in
    let same : x ≡ n = some_same x n (sym (ap (slice_get (x ∷ xs)) here) ∙ there) in
    ap (remove (x ∷ xs)) here ∙ sym (removed_same n x xs same ∙ removed_above n (suc x) high xs (omega arith) rises)

pub removed_there : (n low high : ℕ) (xs : List ℕ) → Rises low high xs → slice_get xs (below n xs) ≡ Some n → remove xs (below n xs) ≡ removed n xs
removed_there n low high [] rises there = cc
removed_there n low high (x ∷ xs) rises there = removed_there_at n high x xs (nat_lt x n) refl rises.1 (removed_there n (suc x) high xs rises.1) there

removed_absent_at : (n high x : ℕ) (xs : List ℕ) (b : Bool) → nat_lt x n ≡ b → Rises (suc x) high xs → (slice_get xs (below n xs) ≢ Some n → removed n xs ≡ xs) → slice_get (x ∷ xs) (below n (x ∷ xs)) ≢ Some n → removed n (x ∷ xs) ≡ x ∷ xs
removed_absent_at n high x xs true is rises rest absent =
    let lt : x < n = ltb-true x n is in
    removed_other n x xs (λ e. omega arith) ∙ ap (λ ys. x ∷ ys) (rest (λ there. absent (ap (slice_get (x ∷ xs)) (below_past n x xs lt) ∙ there)))
removed_absent_at n high x xs false is rises rest absent =
    let le : n ≤ x = ltb-false x n is in
    removed_other n x xs (λ e. absent (ap (slice_get (x ∷ xs)) (below_here n x high xs le rises) ∙ ap Some e)) ∙ ap (λ ys. x ∷ ys) (removed_above n (suc x) high xs (omega arith) rises)

pub removed_absent : (n low high : ℕ) (xs : List ℕ) → Rises low high xs → slice_get xs (below n xs) ≢ Some n → removed n xs ≡ xs
removed_absent n low high [] rises absent = refl
removed_absent n low high (x ∷ xs) rises absent = removed_absent_at n high x xs (nat_lt x n) refl rises.1 (removed_absent n (suc x) high xs rises.1) absent

Rises-removed_at : (n low high x : ℕ) (xs : List ℕ) (b : Bool) → (x == n) ≡ b → low ≤ x → Rises (suc x) high (removed n xs) → Rises low high (cond (not b) (x ∷ removed n xs) (removed n xs))
Rises-removed_at n low high x xs true is le rises = Rises-lower (suc x) low high (removed n xs) (omega arith) rises
Rises-removed_at n low high x xs false is le rises = (le, rises)

pub Rises-removed : (n low high : ℕ) (xs : List ℕ) → Rises low high xs → Rises low high (removed n xs)
Rises-removed n low high [] rises = rises
Rises-removed n low high (x ∷ xs) rises = Rises-removed_at n low high x xs (x == n) refl rises.0 (Rises-removed n (suc x) high xs rises.1)

-- ---- with one

inserted_past : (n x : ℕ) (xs : List ℕ) → x < n → inserted n (x ∷ xs) ≡ x ∷ inserted n xs
inserted_past n x xs lt =
    cond-false (nat_lt n x) _ _ (le-ltb n x (omega arith)) ∙ cond-false (x == n) _ _ (ne_eqb x n (λ e. omega arith))

inserted_here : (n x : ℕ) (xs : List ℕ) → n < x → inserted n (x ∷ xs) ≡ n ∷ x ∷ xs
inserted_here n x xs lt = cond-true (nat_lt n x) _ _ (lt-ltb n x lt)

inserted_same : (n x : ℕ) (xs : List ℕ) → x ≡ n → inserted n (x ∷ xs) ≡ x ∷ xs
inserted_same n x xs e = cond-false (nat_lt n x) _ _ (le-ltb n x (omega arith)) ∙ cond-true (x == n) _ _ (eq-eqb x n e)

inserted_there_at : (n high x : ℕ) (xs : List ℕ) (b : Bool) → nat_lt x n ≡ b → Rises (suc x) high xs → (slice_get xs (below n xs) ≡ Some n → inserted n xs ≡ xs) → slice_get (x ∷ xs) (below n (x ∷ xs)) ≡ Some n → inserted n (x ∷ xs) ≡ x ∷ xs
inserted_there_at n high x xs true is rises rest there =
    let lt : x < n = ltb-true x n is in
    inserted_past n x xs lt ∙ ap (λ ys. x ∷ ys) (rest (sym (ap (slice_get (x ∷ xs)) (below_past n x xs lt)) ∙ there))
inserted_there_at n high x xs false is rises rest there =
    let le : n ≤ x = ltb-false x n is in
    inserted_same n x xs (some_same x n (sym (ap (slice_get (x ∷ xs)) (below_here n x high xs le rises)) ∙ there))

pub inserted_there : (n low high : ℕ) (xs : List ℕ) → Rises low high xs → slice_get xs (below n xs) ≡ Some n → inserted n xs ≡ xs
inserted_there n low high [] rises there = cc
inserted_there n low high (x ∷ xs) rises there = inserted_there_at n high x xs (nat_lt x n) refl rises.1 (inserted_there n (suc x) high xs rises.1) there

inserted_absent_at : (n high x : ℕ) (xs : List ℕ) (b : Bool) → nat_lt x n ≡ b → Rises (suc x) high xs → (slice_get xs (below n xs) ≢ Some n → insert xs (below n xs) n ≡ inserted n xs) → slice_get (x ∷ xs) (below n (x ∷ xs)) ≢ Some n → insert (x ∷ xs) (below n (x ∷ xs)) n ≡ inserted n (x ∷ xs)
inserted_absent_at n high x xs true is rises rest absent =
    let lt : x < n = ltb-true x n is in
    let past = below_past n x xs lt in
    ap (λ k. insert (x ∷ xs) k n) past ∙ ap (λ ys. x ∷ ys) (rest (λ there. absent (ap (slice_get (x ∷ xs)) past ∙ there))) ∙ sym (inserted_past n x xs lt)
inserted_absent_at n high x xs false is rises rest absent =
    let le : n ≤ x = ltb-false x n is in
    let here = below_here n x high xs le rises in
    let ne : x ≢ n = λ e. absent (ap (slice_get (x ∷ xs)) here ∙ ap Some e) in
    ap (λ k. insert (x ∷ xs) k n) here ∙ sym (inserted_here n x xs (omega arith))

pub inserted_absent : (n low high : ℕ) (xs : List ℕ) → Rises low high xs → slice_get xs (below n xs) ≢ Some n → insert xs (below n xs) n ≡ inserted n xs
inserted_absent n low high [] rises absent = refl
inserted_absent n low high (x ∷ xs) rises absent = inserted_absent_at n high x xs (nat_lt x n) refl rises.1 (inserted_absent n (suc x) high xs rises.1) absent

Rises-inserted_at : (n low high x : ℕ) (xs : List ℕ) (less same : Bool) → nat_lt n x ≡ less → (x == n) ≡ same → low ≤ n → low ≤ x → Rises (suc x) high xs → (suc x ≤ n → Rises (suc x) high (inserted n xs)) → Rises low high (cond less (n ∷ x ∷ xs) (cond same (x ∷ xs) (x ∷ inserted n xs)))
Rises-inserted_at n low high x xs true same is is_same from le rises rest = let lt : n < x = ltb-true n x is in (from, (omega arith, rises))
Rises-inserted_at n low high x xs false true is is_same from le rises rest = (le, rises)
Rises-inserted_at n low high x xs false false is is_same from le rises rest =
    let above : x ≤ n = ltb-false n x is in
    let ne : x ≢ n = eqb-false x n is_same in
    (le, rest (omega arith))

pub Rises-inserted : (n low high : ℕ) (xs : List ℕ) → low ≤ n → n < high → Rises low high xs → Rises low high (inserted n xs)
Rises-inserted n low high [] from to rises = (from, omega arith)
Rises-inserted n low high (x ∷ xs) from to rises = Rises-inserted_at n low high x xs (nat_lt n x) (x == n) refl refl from rises.0 rises.1 (λ above. Rises-inserted n (suc x) high xs above to rises.1)

pub room_for_one : (n high : ℕ) (xs : List ℕ) → n < high → Rises 0 high xs → slice_get xs (below n xs) ≢ Some n → length xs < high
room_for_one n high xs lt rises absent =
    let most = pigeons 0 high (inserted n xs) (Rises-inserted n 0 high xs (omega arith) lt rises) in
    let same = ap length (inserted_absent n 0 high xs rises absent) in
    let more = length-insert xs (below n xs) n (below_within n xs) in
    omega (arith, most, same, more)

-- ---- where a search by halves ends

pub partition_count : (p : ℕ → Bool) (xs : List ℕ) (i : ℕ) → i ≤ length xs → ((k d : ℕ) → 0 ≤ k → k < i → p (get_or xs k d) ≡ true) → ((k d : ℕ) → i ≤ k → k < length xs → p (get_or xs k d) ≡ false) → i ≡ length (filter p xs)
partition_count p [] i le before after = omega arith
partition_count p (x ∷ xs) zero le before after =
    partition_count p xs zero (omega arith) (λ k d lo hi. absurd (omega arith)) (λ k d lo hi. after (suc k) d (omega arith) (omega arith))
    ∙ ap length (sym (cond-false (p x) _ _ (after zero x (omega arith) (omega arith))))
partition_count p (x ∷ xs) (suc i) le before after =
    ap suc (partition_count p xs i (omega arith) (λ k d lo hi. before (suc k) d (omega arith) (omega arith)) (λ k d lo hi. after (suc k) d (omega arith) (omega arith)))
    ∙ ap length (sym (cond-true (p x) _ _ (before zero x (omega arith) (omega arith))))

rises_from : (low high : ℕ) (xs : List ℕ) → Rises low high xs → (j d : ℕ) → j < length xs → low ≤ get_or xs j d
rises_from low high [] rises j d lt = absurd (omega arith)
rises_from low high (x ∷ xs) rises zero d lt = rises.0
rises_from low high (x ∷ xs) rises (suc j) d lt =
    let first : low ≤ x = rises.0 in let rest : suc x ≤ get_or xs j d = rises_from (suc x) high xs rises.1 j d (omega arith) in omega arith

pub Rises-order : (low high : ℕ) (xs : List ℕ) → Rises low high xs → (i j d : ℕ) → i ≤ j → j < length xs → get_or xs i d ≤ get_or xs j d
Rises-order low high [] rises i j d le lt = absurd (omega arith)
Rises-order low high (x ∷ xs) rises zero zero d le lt = omega arith
Rises-order low high (x ∷ xs) rises zero (suc j) d le lt = let rest : suc x ≤ get_or xs j d = rises_from (suc x) high xs rises.1 j d (omega arith) in omega arith
Rises-order low high (x ∷ xs) rises (suc i) zero d le lt = absurd (omega arith)
Rises-order low high (x ∷ xs) rises (suc i) (suc j) d le lt = Rises-order (suc x) high xs rises.1 i j d (omega arith) (omega arith)

pub split_take : (p : ℕ → Bool) (xs : List ℕ) (i : ℕ) → i ≤ length xs → ((k d : ℕ) → 0 ≤ k → k < i → p (get_or xs k d) ≡ true) → ((k d : ℕ) → i ≤ k → k < length xs → p (get_or xs k d) ≡ false) → take i xs ≡ filter p xs
split_take p [] zero le before after = refl
split_take p [] (suc i) le before after = refl
split_take p (x ∷ xs) zero le before after =
    split_take p xs zero (omega arith) (λ k d lo hi. absurd (omega arith)) (λ k d lo hi. after (suc k) d (omega arith) (omega arith))
    ∙ sym (cond-false (p x) _ _ (after zero x (omega arith) (omega arith)))
split_take p (x ∷ xs) (suc i) le before after =
    ap (λ ys. x ∷ ys) (split_take p xs i (omega arith) (λ k d lo hi. before (suc k) d (omega arith) (omega arith)) (λ k d lo hi. after (suc k) d (omega arith) (omega arith)))
    ∙ sym (cond-true (p x) _ _ (before zero x (omega arith) (omega arith)))

pub split_drop : (p q : ℕ → Bool) → ((x : ℕ) → p x ≡ true → q x ≡ false) → ((x : ℕ) → p x ≡ false → q x ≡ true) → (xs : List ℕ) (i : ℕ) → i ≤ length xs → ((k d : ℕ) → 0 ≤ k → k < i → p (get_or xs k d) ≡ true) → ((k d : ℕ) → i ≤ k → k < length xs → p (get_or xs k d) ≡ false) → drop i xs ≡ filter q xs
split_drop p q nos yeses [] zero le before after = refl
split_drop p q nos yeses [] (suc i) le before after = refl
split_drop p q nos yeses (x ∷ xs) zero le before after =
    ap (λ ys. x ∷ ys) (split_drop p q nos yeses xs zero (omega arith) (λ k d lo hi. absurd (omega arith)) (λ k d lo hi. after (suc k) d (omega arith) (omega arith)))
    ∙ sym (cond-true (q x) _ _ (yeses x (after zero x (omega arith) (omega arith))))
split_drop p q nos yeses (x ∷ xs) (suc i) le before after =
    split_drop p q nos yeses xs i (omega arith) (λ k d lo hi. before (suc k) d (omega arith) (omega arith)) (λ k d lo hi. after (suc k) d (omega arith) (omega arith))
    ∙ sym (cond-false (q x) _ _ (nos x (before zero x (omega arith) (omega arith))))

pub above_no : (n x : ℕ) → nat_le x n ≡ true → nat_lt n x ≡ false
above_no n x is = le-ltb n x (leb-true x n is)

pub above_yes : (n x : ℕ) → nat_le x n ≡ false → nat_lt n x ≡ true
above_yes n x is = lt-ltb n x (leb-false x n is)
