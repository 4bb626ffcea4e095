-- Registers are counted by kinds.
use Rattle.std.proofs.Common.{◌≡◌, ◌⊎◌, ◌<◌, ◌≤◌, ◌+◌, ◌^◌, ◌||◌, ℕ, List, [], ◌∷◌, Bool, true, false, refl, sym, ap, ◌∙◌, inl, inr, length, arith}
use Rattle.std.specs.Prelude.{count_by}
use Rattle.std.proofs.lemmas.Bool.{cases_lt}
use Rattle.std.proofs.lemmas.List.{get_or_past}
use Rattle.std.proofs.lemmas.List.Sums.{count_by-le-length, sum_by-cons}
use Rattle.cg_solve.specs.Lists.{Has}
use Rattle.ssa_sane.specs.Counts.{is_at, is_start, is_other, one, AllSmall, AddsHome, AreCountsBut}
use Rattle.ssa_sane.specs.Trees.{own_at}
use Rattle.ssa_sane.specs.declared.counts.Counts.{Counts}
use Rattle.ssa_sane.specs.declared.homes.Home.{Home}
use Rattle.ssa_sane.specs.declared.reach.Lacking.{Lacking}

pub count_cons : {A : Type 0} (p : A → Bool) (x : A) (xs : List A) → count_by p (x ∷ xs) ≡ one (p x) + count_by p xs
count_cons p x xs = sum_by-cons (λ y. one (p y)) x xs

-- tests of which one at most passes
pub count_either : {A : Type 0} (p q r : A → Bool) → ((x : A) → r x ≡ (p x || q x)) → ((x : A) → p x ≡ true → q x ≡ false) → (xs : List A) → count_by r xs ≡ count_by p xs + count_by q xs
count_either p q r is once [] = refl
count_either p q r is once (x ∷ xs) =
    let a = count_cons p x xs in let b = count_cons q x xs in let c = count_cons r x xs in
    let rest = count_either p q r is once xs in
    let here : one (r x) ≡ one (p x) + one (q x) = ap one (is x) ∙ either (p x) (q x) (once x) in
    omega arith
  where
    either : (s t : Bool) → (s ≡ true → t ≡ false) → one (s || t) ≡ one s + one t
    either true t only = ap (λ b. 1 + one b) (sym (only refl))
    either false true only = refl
    either false false only = refl

pub count_none : {A : Type 0} (p : A → Bool) (xs : List A) → ((x : A) → Has xs x → p x ≡ false) → count_by p xs ≡ 0
count_none p [] none = refl
count_none p (x ∷ xs) none =
    let a = count_cons p x xs in
    let here : one (p x) ≡ 0 = ap one (none x (inl refl)) in
    let rest = count_none p xs (λ y h. none y (inr h)) in
    omega arith

pub count_same : {A : Type 0} (p q : A → Bool) (xs : List A) → ((x : A) → Has xs x → p x ≡ q x) → count_by p xs ≡ count_by q xs
count_same p q [] same = refl
count_same p q (x ∷ xs) same =
    let a = count_cons p x xs in let b = count_cons q x xs in
    let here : one (p x) ≡ one (q x) = ap one (same x (inl refl)) in
    let rest = count_same p q xs (λ y h. same y (inr h)) in
    omega arith

-- a home more
pub counts_step : (lacking : List Lacking) (all rest : List Home) (home : Home) (blocks : ℕ) (old new : Counts)
    → AreCountsBut lacking all (home ∷ rest) blocks old → AddsHome lacking home old new → AreCountsBut lacking all rest blocks new
counts_step lacking all rest home blocks old new before step = record {
  own_size = step.own.size ∙ before.own_size;
  own = λ b l.
      let e = before.own b l in let m = count_cons (is_at b) home rest in
      let s = before.own_size in
      let n = step.own.each b (omega arith) in
      omega arith;
  starts =
      let e = before.starts in let m = count_cons is_start home rest in
      let n = step.starts in
      omega arith;
  others_size = step.others.size ∙ before.others_size;
  others = λ b l.
      let e = before.others b l in let m = count_cons (is_other lacking b) home rest in
      let s = before.others_size in
      let n = step.others.each b (omega arith) in
      omega arith;
}

all_small : (xs : List ℕ) (blocks total : ℕ) → length xs ≡ blocks → ((b : ℕ) → b < blocks → own_at xs b ≤ total) → total < 2 ^ 63 → AllSmall xs
all_small xs blocks total size low small b = by (cases_lt b blocks)
  where
    by : (b < blocks) ⊎ (blocks ≤ b) → own_at xs b < 2 ^ 63
    by (inl l) = let h = low b l in omega arith
    by (inr h) = let e : own_at xs b ≡ 0 = get_or_past xs b 0 (omega arith) in omega arith

module _ (lacking : List Lacking) (all rest : List Home) (blocks : ℕ) (counts : Counts) (are : AreCountsBut lacking all rest blocks counts) (small : length all < 2 ^ 63) where
  pub own_small : AllSmall counts.own.items
  own_small = all_small counts.own.items blocks (length all) are.own_size (λ b l. let e = are.own b l in let m = count_by-le-length (is_at b) all in omega arith) small

  pub others_small : AllSmall counts.others.items
  others_small = all_small counts.others.items blocks (length all) are.others_size (λ b l. let e = are.others b l in let m = count_by-le-length (is_other lacking b) all in omega arith) small
