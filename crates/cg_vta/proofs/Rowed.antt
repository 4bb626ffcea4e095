-- What is made of candidates, row after row.
use Rattle.std.proofs.Common.{◌≡◌, ◌≤◌, ◌<◌, ◌+◌, ℕ, Bool, true, false, List, [], ◌++◌, inl, inr, refl, sym, subst, flat_map, arith}
use Rattle.std.proofs.lemmas.Bool.{cases_lt}
use Rattle.cg_sets.specs.declared.candidates.Candidate.{Candidate}
use Rattle.cg_solve.specs.LeastSets.{marked}
use Rattle.cg_solve.specs.Lists.{Has}
use Rattle.cg_solve.proofs.Members.{Has-left, Has-right, Has-cases, Has-flat_map, from_flat_map}
use Rattle.cg_vta.specs.Rows.{AreOf, called_row, if_so}

-- what f gives of the candidates in the rows below k
pub record Below {A : Type 0} (rows : ℕ → List Candidate) (f : ℕ → Candidate → List A) (k : ℕ) (items : List A) : Type 0 where
  pub only : (x : A) → Has items x → (j : ℕ) × (c : Candidate) × Has (rows j) c × Has (f j c) x
  pub whole : (j : ℕ) (c : Candidate) (x : A) → j < k → Has (rows j) c → Has (f j c) x → Has items x

module _ {A : Type 0} (rows : ℕ → List Candidate) (f : ℕ → Candidate → List A) where
  pub below_none : (items : List A) → items ≡ [] → Below rows f 0 items
  below_none items e = record {
    only = λ x h. absurd (subst (λ (l : List A). Has l x) e h);
    whole = λ j c x l h g. absurd (omega arith);
  }

  pub below_more : (k : ℕ) (old new : List A) → new ≡ old ++ flat_map (f k) (rows k) → Below rows f k old → Below rows f (k + 1) new
  below_more k old new e h = record {
    only = λ x g. elim (Has-cases old (flat_map (f k) (rows k)) x (subst (λ (l : List A). Has l x) e g)) [
      | inl i ↦ h.only x i
      | inr i ↦ (let q = from_flat_map (f k) (rows k) x i in (k, q.0, q.1, q.2))
    ];
    whole = λ j c x l g i. subst (λ (y : List A). Has y x) (sym e) (elim (cases_lt j k) [
      | inl less ↦ Has-left old (flat_map (f k) (rows k)) x (h.whole j c x less g i)
      | inr more ↦ (let q : j ≡ k = omega arith in Has-right old (flat_map (f k) (rows k)) x (subst (λ (m : ℕ). Has (flat_map (f m) (rows m)) x) q (Has-flat_map (f j) (rows j) c x g i)))
    ]);
  }

  -- later rows are empty
  pub below_all : (k : ℕ) (items : List A) → ((j : ℕ) → k ≤ j → rows j ≡ []) → Below rows f k items → AreOf rows f items
  below_all k items none h = record {
    only = h.only;
    whole = λ j c x g i. elim (cases_lt j k) [ inl less ↦ h.whole j c x less g i | inr more ↦ absurd (subst (λ (y : List Candidate). Has y c) (none j more) g) ];
  }

in_if_so : (b : Bool) (xs : List Candidate) (c : Candidate) → Has (if_so b xs) c → (b ≡ true) × Has xs c
in_if_so true xs c h = (refl, h)
in_if_so false xs c h = absurd h

so_has : (b : Bool) (xs : List Candidate) (c : Candidate) → b ≡ true → Has xs c → Has (if_so b xs) c
so_has true xs c e h = h
so_has false xs c e h = absurd (cc)

none_so : (b : Bool) (xs : List Candidate) → xs ≡ [] → if_so b xs ≡ []
none_so true xs e = e
none_so false xs e = refl

pub in_called : (called : List Bool) (rows : ℕ → List Candidate) (k : ℕ) (c : Candidate) → Has (called_row called rows k) c → (marked called k ≡ true) × Has (rows k) c
in_called called rows k c h = in_if_so (marked called k) (rows k) c h

pub called_has : (called : List Bool) (rows : ℕ → List Candidate) (k : ℕ) (c : Candidate) → marked called k ≡ true → Has (rows k) c → Has (called_row called rows k) c
called_has called rows k c e h = so_has (marked called k) (rows k) c e h

pub called_none : (called : List Bool) (rows : ℕ → List Candidate) (k : ℕ) → rows k ≡ [] → called_row called rows k ≡ []
called_none called rows k e = none_so (marked called k) (rows k) e

-- ---- what is kept of each candidate

module _ {A : Type 0} (rows : ℕ → List Candidate) (f : Candidate → List A) where
  -- what f gives of the candidates in the rows below k is there
  abbrev pub Whole : ℕ → List A → Type 0
  Whole k items = (j : ℕ) (c : Candidate) (x : A) → j < k → Has (rows j) c → Has (f c) x → Has items x

  pub whole_none : (items : List A) → Whole 0 items
  whole_none items = λ j c x l. absurd (omega arith)

  pub kept_more : (k : ℕ) (old new : List A) → new ≡ old ++ flat_map f (rows k) → (x : A) → Has old x → Has new x
  kept_more k old new e x h = subst (λ (l : List A). Has l x) (sym e) (Has-left old (flat_map f (rows k)) x h)

  pub whole_more : (k : ℕ) (old new : List A) → new ≡ old ++ flat_map f (rows k) → Whole k old → Whole (k + 1) new
  whole_more k old new e h = λ j c x l g i. subst (λ (y : List A). Has y x) (sym e) (elim (cases_lt j k) [
    | inl less ↦ Has-left old (flat_map f (rows k)) x (h j c x less g i)
    | inr more ↦ (let q : k ≡ j = omega arith in Has-right old (flat_map f (rows k)) x (Has-flat_map f (rows k) c x (subst (λ (m : ℕ). Has (rows m) c) (sym q) g) i))
  ])

  pub whole_all : (k : ℕ) (items : List A) → ((j : ℕ) → k ≤ j → rows j ≡ []) → Whole k items → (j : ℕ) (c : Candidate) (x : A) → Has (rows j) c → Has (f c) x → Has items x
  whole_all k items none h j c x g i = elim (cases_lt j k) [ inl less ↦ h j c x less g i | inr more ↦ absurd (subst (λ (y : List Candidate). Has y c) (none j more) g) ]
