-- Slots that get values one after another.
use Rattle.std.proofs.Common.{◌≡◌, ◌∙◌, ℕ, zero, suc, ◌+◌, ◌<◌, List, [], ◌∷◌, ◌++◌, Option, Some, refl, sym, ap}
use Rattle.std.proofs.Common.{length, arith}
use Rattle.std.specs.Prelude.{slice_set}
use Rattle.plan_mean.specs.Slots.{with_slot, with_slots_from}

-- writes of two places can change their order
sets_turn : {A : Type 0} (xs : List A) (i j : ℕ) (a b : A) → i < j
    → slice_set (slice_set xs i a) j b ≡ slice_set (slice_set xs j b) i a
sets_turn [] i j a b below = refl
sets_turn (x ∷ xs) zero (suc j) a b below = refl
sets_turn (x ∷ xs) (suc i) (suc j) a b below =
    let under : i < j = omega arith in
    ap (λ rest. x ∷ rest) (sets_turn xs i j a b under)
sets_turn (x ∷ xs) i zero a b below = let no : ⊥ = omega arith in absurd no

slots_turn : {A : Type 0} (frames : List (List (Option A))) (i j : ℕ) (a b : A) → i < j
    → with_slot j b (with_slot i a frames) ≡ with_slot i a (with_slot j b frames)
slots_turn [] i j a b below = refl
slots_turn (top ∷ frames) i j a b below = ap (λ top. top ∷ frames) (sets_turn top i j (Some a) (Some b) below)

shifted : (slot n : ℕ) → suc slot + n ≡ slot + suc n
shifted slot n = omega arith

-- the last of the values can be written first
pub last_first : {A : Type 0} (slot : ℕ) (xs : List A) (x : A) (frames : List (List (Option A)))
    → with_slots_from slot (xs ++ x ∷ []) frames ≡ with_slots_from slot xs (with_slot (slot + length xs) x frames)
last_first slot [] x frames = ap (λ n. with_slot n x frames) (plus_none slot)
  where
    plus_none : (n : ℕ) → n ≡ n + 0
    plus_none n = omega arith
last_first slot (y ∷ xs) x frames =
    ap (with_slot slot y) (last_first (suc slot) xs x frames
    ∙ ap (λ n. with_slots_from (suc slot) xs (with_slot n x frames)) (shifted slot (length xs)))

-- or last
pub last_last : {A : Type 0} (slot : ℕ) (xs : List A) (x : A) (frames : List (List (Option A)))
    → with_slots_from slot (xs ++ x ∷ []) frames ≡ with_slot (slot + length xs) x (with_slots_from slot xs frames)
last_last slot [] x frames = ap (λ n. with_slot n x frames) (plus_none slot)
  where
    plus_none : (n : ℕ) → n ≡ n + 0
    plus_none n = omega arith
last_last slot (y ∷ xs) x frames =
    let behind : slot < suc slot + length xs = omega arith in
    ap (with_slot slot y) (last_last (suc slot) xs x frames)
    ∙ sym (slots_turn (with_slots_from (suc slot) xs frames) slot (suc slot + length xs) y x behind)
    ∙ ap (λ n. with_slot n x (with_slot slot y (with_slots_from (suc slot) xs frames))) (shifted slot (length xs))
