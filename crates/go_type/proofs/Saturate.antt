-- A property of types that shows in steps shows in as many steps as there are types.
use Rattle.std.proofs.Common.{◌≡◌, ℕ, zero, suc, ◌+◌, ◌<◌, ◌≤◌, Bool, true, false, true≢false, cond, refl, sym, ◌∙◌, subst, arith, ◌⊎◌, inl, inr, zero-add}
use Rattle.std.proofs.Math.Nat.{suc-add}
use Rattle.std.proofs.lemmas.Bool.{cases_lt}
use Rattle.go_base.specs.declared.ids.TypeId.{TypeId}

abbrev pub Property : Type 0
Property = TypeId → Bool

abbrev pub Within : Property → Property → Type 0
Within p q = (x : TypeId) → p x ≡ true → q x ≡ true

-- how many of the first k types have a property
abbrev count : Property → ℕ → ℕ
count p zero = 0
count p (suc k) = count p k + cond (p (record { number = k })) 1 0

one : (b c : Bool) → (b ≡ true → c ≡ true) → cond b 1 0 ≤ cond c 1 0
one true c h = rw (h refl) (omega arith)
one false c h = omega arith

count_within : (p q : Property) → Within p q → (k : ℕ) → count p k ≤ count q k
count_within p q h zero = omega arith
count_within p q h (suc k) =
    let rest : count p k ≤ count q k = count_within p q h k in
    let last : cond (p (record { number = k })) 1 0 ≤ cond (q (record { number = k })) 1 0 = one _ _ (h (record { number = k })) in
    omega arith

at_most_one : (b : Bool) → cond b 1 0 ≤ 1
at_most_one true = omega arith
at_most_one false = omega arith

count_below : (p : Property) (k : ℕ) → count p k ≤ k
count_below p zero = omega arith
count_below p (suc k) =
    let rest : count p k ≤ k = count_below p k in
    let last : cond (p (record { number = k })) 1 0 ≤ 1 = at_most_one _ in
    omega arith

same_one : (b c : Bool) → cond c 1 0 ≤ cond b 1 0 → c ≡ true → b ≡ true
same_one true c h e = refl
same_one false true h e = absurd (omega arith)
same_one false false h e = e

-- properties with equal counts, one within the other, are the same
count_same : (p q : Property) → Within p q → (k : ℕ) → count q k ≤ count p k → (j : ℕ) → j < k → q (record { number = j }) ≡ true → p (record { number = j }) ≡ true
count_same p q h zero equal j below = absurd (omega arith)
count_same p q h (suc k) equal j below = by (cases_lt j k) (count_same p q h k)
  where
    by : (j < k) ⊎ (k ≤ j) → (count q k ≤ count p k → (i : ℕ) → i < k → q (record { number = i }) ≡ true → p (record { number = i }) ≡ true)
        → q (record { number = j }) ≡ true → p (record { number = j }) ≡ true
    by (inl less) rest e =
        let last : cond (p (record { number = k })) 1 0 ≤ cond (q (record { number = k })) 1 0 = one _ _ (h (record { number = k })) in
        let fewer : count q k ≤ count p k = omega arith in
        rest fewer j less e
    by (inr more) rest e =
        let fewer : count p k ≤ count q k = count_within p q h k in
        let is : j ≡ k = omega arith in
        let last : cond (q (record { number = k })) 1 0 ≤ cond (p (record { number = k })) 1 0 = omega arith in
        subst (λ i. p (record { number = i }) ≡ true) (sym is)
        (same_one (p (record { number = k })) (q (record { number = k })) last (subst (λ i. q (record { number = i }) ≡ true) is e))

-- F gives the next step from the one before
module _ (F : Property → Property) (mono : (p q : Property) → Within p q → Within (F p) (F q))
    (bound : ℕ) (inside : (p : Property) (x : TypeId) → bound ≤ x.number → F p x ≡ true → ⊥) where
  abbrev pub steps : ℕ → Property
  steps zero = λ x. false
  steps (suc n) = F (steps n)

  grows : (n : ℕ) → Within (steps n) (steps (suc n))
  grows zero = λ x h. absurd (true≢false (sym h))
  grows (suc n) = mono (steps n) (steps (suc n)) (grows n)

  grows_by : (m n : ℕ) → Within (steps n) (steps (m + n))
  grows_by zero n = λ x h. rw (zero-add n) h
  grows_by (suc m) n = λ x h. subst (λ k. steps k x ≡ true) (sym (suc-add m n)) (grows (m + n) x (grows_by m n x h))

  abbrev Stable : ℕ → Type 0
  Stable n = Within (steps (suc n)) (steps n)

  stable_after : (m n : ℕ) → Stable n → Within (steps (m + n)) (steps n)
  stable_after zero n s = λ x h. rw (← zero-add n) h
  stable_after (suc m) n s = λ x h.
      s x (mono (steps (m + n)) (steps n) (stable_after m n s) x (subst (λ k. steps k x ≡ true) (suc-add m n) h))

  -- with equal counts nothing is added
  stable_by_count : (n : ℕ) → count (steps (suc n)) bound ≤ count (steps n) bound → Stable n
  stable_by_count n equal = λ x h. by x h (cases_lt x.number bound)
    where
      by : (x : TypeId) → steps (suc n) x ≡ true → (x.number < bound) ⊎ (bound ≤ x.number) → steps n x ≡ true
      by x h (inl less) = count_same (steps n) (steps (suc n)) (grows n) bound equal x.number less h
      by x h (inr more) = absurd (inside (steps n) x more h)

  -- each step adds a type, or none does from there on
  counted : (n : ℕ) → Stable n ⊎ (n ≤ count (steps n) bound)
  counted zero = inr (omega arith)
  counted (suc n) = by (counted n) (cases_lt (count (steps n) bound) (count (steps (suc n)) bound))
    where
      by : Stable n ⊎ (n ≤ count (steps n) bound) → (count (steps n) bound < count (steps (suc n)) bound) ⊎ (count (steps (suc n)) bound ≤ count (steps n) bound)
          → Stable (suc n) ⊎ (suc n ≤ count (steps (suc n)) bound)
      by (inl s) c = inl (mono (steps (suc n)) (steps n) s)
      by (inr h) (inl more) = inr (omega arith)
      by (inr h) (inr same) = inl (mono (steps (suc n)) (steps n) (stable_by_count n same))

  stable_at_bound : Stable bound
  stable_at_bound = by (counted bound)
    where
      by : Stable bound ⊎ (bound ≤ count (steps bound) bound) → Stable bound
      by (inl s) = s
      by (inr full) =
          let most : count (steps (suc bound)) bound ≤ bound = count_below (steps (suc bound)) bound in
          stable_by_count bound (omega arith)

  -- what shows at all shows in as many steps as there are types
  pub shows_in_bound : (n : ℕ) (x : TypeId) → steps n x ≡ true → steps bound x ≡ true
  shows_in_bound n x h =
      let e : bound + n ≡ n + bound = omega arith in
      stable_after n bound stable_at_bound x (subst (λ k. steps k x ≡ true) e (grows_by bound n x h))

  pub never_shows : (x : TypeId) → steps bound x ≡ false → (n : ℕ) → steps n x ≡ false
  never_shows x none n = by (steps n x) refl
    where
      by : (b : Bool) → steps n x ≡ b → b ≡ false
      by true e = absurd (true≢false (sym (shows_in_bound n x e) ∙ none))
      by false e = refl
