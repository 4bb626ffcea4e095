-- A list that is sorted is a rising list exactly where it has the same numbers, each once.
use Rattle.std.proofs.Common.{◌≡◌, ◌⊎◌, ◌↔◌, ◌<◌, ◌≤◌, ◌+◌, ℕ, zero, suc, List, [], ◌∷◌, ◌++◌, Bool, true, false, Contains, refl, sym, ap, ◌∙◌, subst, inl, inr, length, arith, eq-eqb}
use Rattle.std.specs.Prelude.{nat_eq, count_by, IsPermutation, IsSorted}
use Rattle.std.specs.Ordering.{nat_cmp}
use Rattle.std.specs.List.Sorted.{IsNonDecreasingBy}
use Rattle.std.proofs.lemmas.Bool.{cases_eq, cases_lt, ne_eqb}
use Rattle.std.proofs.lemmas.List.Elements.{Contains-append_right, Contains-append_cases}
use Rattle.std.proofs.lemmas.List.Sorted.{IsNonDecreasingBy-from_sort, Contains-permutation, IsPermutation-sym, sum_by-IsPermutation}
use Rattle.std.proofs.lemmas.List.Sums.{sum_by-append}
use Rattle.cg_solve.specs.Lists.{Has, each_below, when}
use Rattle.cg_solve.proofs.Members.{Has-Contains, Contains-Has, Has-cases, Has-when}
use Rattle.ssa_ir.specs.declared.code.Function.{Function}
use Rattle.ssa_sane.specs.Counts.{one}
use Rattle.ssa_sane.specs.Flow.{leads, preds_of}
use Rattle.ssa_sane.specs.Sane.{ArePreds}
use Rattle.ssa_sane.proofs.Counted.{count_cons}
use Rattle.ssa_sane.proofs.Members.{preds_has, preds_only, leads_to, leads_from}

-- each number is below all later ones
abbrev pub Rising : List ℕ → Type 0
Rising [] = Unit {0}
Rising (x ∷ xs) = ((y : ℕ) → Has xs y → x < y) × Rising xs

abbrev count : ℕ → List ℕ → ℕ
count x xs = count_by (nat_eq x) xs

-- ---- how often a number is in a list

counts_none : (x : ℕ) (xs : List ℕ) → (Has xs x → ⊥) → count x xs ≡ 0
counts_none x [] none = refl
counts_none x (y ∷ ys) none =
    let c = count_cons (nat_eq x) y ys in
    let here : one (nat_eq x y) ≡ 0 = ap one (ne_eqb x y (λ e. none (inl (sym e)))) in
    let rest = counts_none x ys (λ h. none (inr h)) in
    omega arith

counts_some : (x : ℕ) (xs : List ℕ) → Has xs x → 0 < count x xs
counts_some x [] h = absurd h
counts_some x (y ∷ ys) (inl e) =
    let c = count_cons (nat_eq x) y ys in let here : one (nat_eq x y) ≡ 1 = ap one (eq-eqb x y (sym e)) in omega arith
counts_some x (y ∷ ys) (inr h) = let c = count_cons (nat_eq x) y ys in let rest = counts_some x ys h in omega arith

abbrev Once : List ℕ → Type 0
Once xs = (front back : List ℕ) (number : ℕ) → xs ≡ front ++ number ∷ back → Contains (front ++ back) number → ⊥

once_tail : (y : ℕ) (ys : List ℕ) → Once (y ∷ ys) → Once ys
once_tail y ys once front back number e c = once (y ∷ front) back number (ap (λ l. y ∷ l) e) (Contains-append_right (y ∷ []) (front ++ back) number c)

once_counts : (xs : List ℕ) → Once xs → (x : ℕ) → count x xs ≤ 1
once_counts [] once x = omega arith
once_counts (y ∷ ys) once x = by (once_counts ys (once_tail y ys once) x) (cases_eq x y)
  where
    by : count x ys ≤ 1 → (x ≡ y) ⊎ (x ≡ y → ⊥) → count x (y ∷ ys) ≤ 1
    by rest (inl e) =
        let c = count_cons (nat_eq x) y ys in
        let here : one (nat_eq x y) ≡ 1 = ap one (eq-eqb x y e) in
        let none = counts_none x ys (λ h. once [] ys y refl (Has-Contains ys y (subst (Has ys) e h))) in
        omega arith
    by rest (inr apart) =
        let c = count_cons (nat_eq x) y ys in
        let here : one (nat_eq x y) ≡ 0 = ap one (ne_eqb x y apart) in
        omega arith

counts_once : (xs : List ℕ) → ((x : ℕ) → count x xs ≤ 1) → Once xs
counts_once xs most front back number e c =
    let whole : count number xs ≡ count number front + count number (number ∷ back) = ap (count number) e ∙ sum_by-append (λ y. one (nat_eq number y)) front (number ∷ back) in
    let rest = count_cons (nat_eq number) number back in
    let here : one (nat_eq number number) ≡ 1 = ap one (eq-eqb number number refl) in
    let m = most number in
    by (let n : count number front + count number back ≡ 0 = omega arith in n) (Contains-append_cases front back number c)
  where
    by : count number front + count number back ≡ 0 → Contains front number ⊎ Contains back number → ⊥
    by none (inl h) = let s = counts_some number front (Contains-Has front number h) in omega arith
    by none (inr h) = let s = counts_some number back (Contains-Has back number h) in omega arith

-- ---- rising lists

rising_once : (xs : List ℕ) → Rising xs → (x : ℕ) → count x xs ≤ 1
rising_once [] rising x = omega arith
rising_once (y ∷ ys) rising x = by (rising_once ys rising.1 x) (cases_eq x y)
  where
    by : count x ys ≤ 1 → (x ≡ y) ⊎ (x ≡ y → ⊥) → count x (y ∷ ys) ≤ 1
    by rest (inl e) =
        let c = count_cons (nat_eq x) y ys in
        let here : one (nat_eq x y) ≡ 1 = ap one (eq-eqb x y e) in
        let none = counts_none x ys (λ h. let l = rising.0 x h in omega arith) in
        omega arith
    by rest (inr apart) =
        let c = count_cons (nat_eq x) y ys in
        let here : one (nat_eq x y) ≡ 0 = ap one (ne_eqb x y apart) in
        omega arith

-- sorted numbers, each once, rise
sorted_rising : (xs : List ℕ) → IsNonDecreasingBy (λ x. x) xs → ((x : ℕ) → count x xs ≤ 1) → Rising xs
sorted_rising [] sorted most = tt
sorted_rising (x ∷ xs) sorted most = (first, sorted_rising xs tail less)
  where
    tail : IsNonDecreasingBy (λ y. y) xs
    tail i j d low below = sorted (suc i) (suc j) d (omega arith) (omega arith)

    less : (y : ℕ) → count y xs ≤ 1
    less y = let c = count_cons (nat_eq y) x xs in let m = most y in omega arith

    no_less : (y : ℕ) → Has xs y → x ≤ y
    no_less y h =
        let c = Has-Contains xs y h in
        let l = sorted 0 (suc c.0) y (omega arith) (let b = c.1 in omega arith) in
        let e = c.2 in omega arith

    first : (y : ℕ) → Has xs y → x < y
    first y h = by (cases_eq y x)
      where
        by : (y ≡ x) ⊎ (y ≡ x → ⊥) → x < y
        by (inl e) =
            let c = count_cons (nat_eq y) x xs in
            let here : one (nat_eq y x) ≡ 1 = ap one (eq-eqb y x e) in
            let s = counts_some y xs h in
            let m = most y in
            absurd (omega arith)
        by (inr apart) = let l = no_less y h in let n : (x ≡ y) → ⊥ = λ e. apart (sym e) in strict l n
          where
            strict : x ≤ y → (x ≡ y → ⊥) → x < y
            strict l n = elim (cases_lt x y) [ inl g ↦ g | inr g ↦ absurd (n (omega arith)) ]

-- rising lists with the same numbers are the same
pub same_rising : (xs ys : List ℕ) → Rising xs → Rising ys → ((z : ℕ) → Has xs z → Has ys z) → ((z : ℕ) → Has ys z → Has xs z) → xs ≡ ys
same_rising [] [] rx ry to from = refl
same_rising [] (y ∷ ys) rx ry to from = absurd (from y (inl refl))
same_rising (x ∷ xs) [] rx ry to from = absurd (to x (inl refl))
same_rising (x ∷ xs) (y ∷ ys) rx ry to from =
    ap (λ l. x ∷ l) (same_rising xs ys rx.1 ry.1 (λ z h. later xs ys x y heads rx.0 z h (to z (inr h))) (λ z h. later ys xs y x (sym heads) ry.0 z h (from z (inr h))))
    ∙ ap (λ v. v ∷ ys) heads
  where
    heads : x ≡ y
    heads = by (to x (inl refl)) (from y (inl refl))
      where
        by : (y ≡ x) ⊎ Has ys x → (x ≡ y) ⊎ Has xs y → x ≡ y
        by (inl e) b = sym e
        by (inr h) (inl e) = e
        by (inr h) (inr g) = let a = ry.0 x h in let b = rx.0 y g in absurd (omega arith)

    later : (us vs : List ℕ) (u v : ℕ) → u ≡ v → ((w : ℕ) → Has us w → u < w) → (z : ℕ) → Has us z → (v ≡ z) ⊎ Has vs z → Has vs z
    later us vs u v e below z h (inl f) = let l = below z h in absurd (omega arith)
    later us vs u v e below z h (inr g) = g

rising_when : (xs : List ℕ) (n : ℕ) (b : Bool) → Rising xs → ((y : ℕ) → Has xs y → y < n) → Rising (xs ++ when b n)
rising_when [] n true rising low = ((λ y h. absurd h), tt)
rising_when [] n false rising low = tt
rising_when (x ∷ xs) n b rising low =
    ((λ y h. by y (Has-cases xs (when b n) y h)), rising_when xs n b rising.1 (λ y h. low y (inr h)))
  where
    by : (y : ℕ) → Has xs y ⊎ Has (when b n) y → x < y
    by y (inl h) = rising.0 y h
    by y (inr h) = let e = (Has-when b n y h).1 in let l = low x (inl refl) in omega arith

below_all : (p : ℕ → Bool) (n y : ℕ) → Has (each_below (λ from. when (p from) from) n) y → y < n
below_all p zero y h = absurd h
below_all p (suc n) y h = by (Has-cases (each_below (λ from. when (p from) from) n) (when (p n) n) y h) (λ g. below_all p n y g)
  where
    by : Has (each_below (λ from. when (p from) from) n) y ⊎ Has (when (p n) n) y → (Has (each_below (λ from. when (p from) from) n) y → y < n) → y < suc n
    by (inl g) rest = let l = rest g in omega arith
    by (inr g) rest = let e = (Has-when (p n) n y g).1 in omega arith

rising_below : (p : ℕ → Bool) (n : ℕ) → Rising (each_below (λ from. when (p from) from) n)
rising_below p zero = tt
rising_below p (suc n) = rising_when (each_below (λ from. when (p from) from) n) n (p n) (rising_below p n) (below_all p n)

-- ---- numbers that are those of the blocks that lead to a block

module _ (f : Function) (block : ℕ) (numbers sorted row : List ℕ) (moved : IsPermutation numbers sorted) (order : IsSorted nat_cmp sorted) (is : row ≡ preds_of f block) where
  row_rising : Rising row
  row_rising = subst Rising (sym is) (rising_below (λ from. leads f from block) (length f.blocks))

  count_moved : (x : ℕ) → count x sorted ≡ count x numbers
  count_moved x = sum_by-IsPermutation (λ y. one (nat_eq x y)) numbers sorted moved

  to_sorted : (x : ℕ) → Contains numbers x → Contains sorted x
  to_sorted x c = Contains-permutation numbers sorted x moved c

  to_numbers : (x : ℕ) → Contains sorted x → Contains numbers x
  to_numbers x c = Contains-permutation sorted numbers x (IsPermutation-sym numbers sorted moved) c

  same_preds : sorted ≡ row → ArePreds f block numbers
  same_preds e = record {
    once = counts_once numbers (λ x. let m = rising_once row row_rising x in let c = count_moved x in let r : count x sorted ≡ count x row = ap (count x) e in omega arith);
    each = λ x. (
      λ c. leads_to f x block (preds_only f x block (subst (λ (l : List ℕ). Has l x) (e ∙ is) (Contains-Has sorted x (to_sorted x c)))),
      λ l. to_numbers x (Has-Contains sorted x (subst (λ (l : List ℕ). Has l x) (sym (e ∙ is)) (preds_has f x block (leads_from f x block l)))),
    );
  }

  preds_same : ArePreds f block numbers → sorted ≡ row
  preds_same are =
      same_rising sorted row
      (sorted_rising sorted (IsNonDecreasingBy-from_sort (λ x. x) sorted order) (λ x. let m = once_counts numbers are.once x in let c = count_moved x in omega arith))
      row_rising
      (λ z h. subst (λ (l : List ℕ). Has l z) (sym is) (preds_has f z block (leads_from f z block ((are.each z).0 (to_numbers z (Has-Contains sorted z h))))))
      (λ z h. Contains-Has sorted z (to_sorted z ((are.each z).1 (leads_to f z block (preds_only f z block (subst (λ (l : List ℕ). Has l z) is h))))))

  pub row_iff : (t : Bool) → ((t ≡ true) ↔ (sorted ≡ row)) → (t ≡ true) ↔ ArePreds f block numbers
  row_iff t same = (λ h. same_preds (same.0 h), λ are. same.1 (preds_same are))
