-- Names that are not used, one after another.
use Rattle.std.proofs.Common.{◌≡◌, ◌∙◌, ℕ, ◌+◌, ◌<◌, suc, zero, refl, sym, ap, Bool, List, [], ◌∷◌, ◌++◌, length, take, arith, Option}
use Rattle.std.proofs.Math.ListN.{get_or}
use Rattle.std.proofs.lemmas.Grind.{take_at_read}
use Rattle.std.specs.Prelude.{◌&&◌, ◌||◌, ◌==◌, if◌then◌else◌}
use Rattle.std.specs.List.{list_any}
use Rattle.go_base.specs.declared.ids.VarId.{VarId}
use Rattle.go_faults.proofs.Leasts.{reported_after}
use Rattle.go_faults.specs.Faults.{least_with}
use Rattle.go_faults.specs.declared.fault.Fault.{Fault}
use Rattle.use_rules.specs.Uses.{fault_of, unused_from}
use Rattle.use_rules.specs.declared.needs.Need.{Need}

append_empty : (fs : List Fault) → fs ++ [] ≡ fs
append_empty [] = refl
append_empty (f ∷ fs) = ap (λ rest. f ∷ rest) (append_empty fs)

append_three : (fs gs hs : List Fault) → (fs ++ gs) ++ hs ≡ fs ++ (gs ++ hs)
append_three [] gs hs = refl
append_three (f ∷ fs) gs hs = ap (λ rest. f ∷ rest) (append_three fs gs hs)

abbrev pub one_unused : (ℕ → Bool) → ℕ → Need → List Fault
one_unused used number need = if used number then [] else fault_of need ∷ []

next_number : (n : ℕ) (needs : List Need) → suc n + length needs ≡ n + suc (length needs)
next_number n needs = omega arith

unused_behind : (used : ℕ → Bool) (n : ℕ) (needs : List Need) (need : Need)
    → unused_from used n (needs ++ need ∷ []) ≡ unused_from used n needs ++ one_unused used (n + length needs) need
unused_behind used n [] need = append_empty (one_unused used n need) ∙ ap (λ k. one_unused used k need) (omega arith)
unused_behind used n (first ∷ needs) need =
    ap (λ rest. one_unused used n first ++ rest) (unused_behind used (suc n) needs need)
    ∙ sym (append_three (one_unused used n first) (unused_from used (suc n) needs) (one_unused used (suc n + length needs) need))
    ∙ ap (λ k. (one_unused used n first ++ unused_from used (suc n) needs) ++ one_unused used k need) (next_number n needs)

length_taken : (xs : List Need) (i : ℕ) → i < length xs → length (take i xs) ≡ i
length_taken [] i less = absurd (omega (arith, less))
length_taken (x ∷ xs) zero less = refl
length_taken (x ∷ xs) (suc i) less = ap suc (length_taken xs i (omega (arith, less)))

-- one name more
pub unused_more : (used : ℕ → Bool) (needs : List Need) (i : ℕ) (d need : Need) → i < length needs → need ≡ get_or needs i d
    → unused_from used 0 (take (i + 1) needs) ≡ unused_from used 0 (take i needs) ++ one_unused used i need
unused_more used needs i d need less is =
    ap (unused_from used 0) ((take_at_read needs i d less).1 ∙ sym (ap (λ y. take i needs ++ y ∷ []) is))
    ∙ unused_behind used 0 (take i needs) need
    ∙ ap (λ k. unused_from used 0 (take i needs) ++ one_unused used k need) (zero_more (length (take i needs)) ∙ length_taken needs i less)
  where
    zero_more : (k : ℕ) → 0 + k ≡ k
    zero_more k = omega arith

-- what is reported of one name more
pub reported_more : (used : ℕ → Bool) (needs : List Need) (i : ℕ) (d need : Need) (is_used : Bool) (first now next : Option Fault)
    → i < length needs → need ≡ get_or needs i d → is_used ≡ used i
    → now ≡ least_with first (unused_from used 0 (take i needs))
    → next ≡ least_with now (if is_used then [] else fault_of need ∷ [])
    → next ≡ least_with first (unused_from used 0 (take (i + 1) needs))
reported_more used needs i d need is_used first now next less is same before after =
    after ∙ ap (λ b. least_with now (if b then [] else fault_of need ∷ [])) same
    ∙ ap (λ least. least_with least (one_unused used i need)) before
    ∙ sym (reported_after first (unused_from used 0 (take i needs)) (one_unused used i need))
    ∙ ap (least_with first) (sym (unused_more used needs i d need less is))

-- ---- one test told in two ways

pub unused_same : (p q : ℕ → Bool) (n : ℕ) (needs : List Need) → ((k : ℕ) → p k ≡ q k) → unused_from p n needs ≡ unused_from q n needs
unused_same p q n [] same = refl
unused_same p q n (need ∷ needs) same =
    ap (λ b. (if b then [] else fault_of need ∷ []) ++ unused_from p (suc n) needs) (same n)
    ∙ ap (λ rest. (if q n then [] else fault_of need ∷ []) ++ rest) (unused_same p q (suc n) needs same)

pub any_same : (p q : VarId → Bool) (k : ℕ) (named : List (VarId × ℕ)) → ((v : VarId) → p v ≡ q v)
    → list_any (λ it. (it.1 == k) && p it.0) named ≡ list_any (λ it. (it.1 == k) && q it.0) named
any_same p q k [] same = refl
any_same p q k (one ∷ named) same = step (one.1 == k) (p one.0) (q one.0) _ _ (same one.0) (any_same p q k named same)
  where
    step : (is a b x y : Bool) → a ≡ b → x ≡ y → (is && a) || x ≡ (is && b) || y
    step is a b x y e f = ap (λ a. (is && a) || x) e ∙ ap (λ x. (is && b) || x) f
