-- The rules of rows, row after row.
use Rattle.std.proofs.Common.{◌≡◌, ◌≤◌, ◌<◌, ◌+◌, ℕ, Bool, true, false, cond, List, [], ◌∷◌, ◌++◌, inl, inr, refl, sym, ap, ◌∙◌, subst, map, arith, true≢false}
use Rattle.std.specs.List.{filter}
use Rattle.std.proofs.lemmas.Bool.{cases_lt}
use Rattle.cg_sets.specs.Reaching.{AreRowRules, IsMade, candidate_rule, is_made}
use Rattle.cg_sets.specs.Rules.{AreRules, IsAny, row_rule}
use Rattle.cg_sets.specs.declared.candidates.Candidate.{Candidate}
use Rattle.cg_solve.specs.Lists.{Has}
use Rattle.cg_solve.specs.declared.solving.Rule.{Rule}
use Rattle.cg_solve.proofs.Members.{Has-left, Has-right, Has-cases, Has-map, from_map}

pub from_filter : {A : Type 0} (f : A → Bool) (xs : List A) (x : A) → Has (filter f xs) x → Has xs x × (f x ≡ true)
from_filter f [] x h = absurd h
from_filter {A = A} f (y ∷ xs) x h = by (from_filter f xs x) (f y) refl h
  where
    by : (Has (filter f xs) x → Has xs x × (f x ≡ true)) → (b : Bool) → f y ≡ b → Has (cond b (y ∷ filter f xs) (filter f xs)) x → Has (y ∷ xs) x × (f x ≡ true)
    by rest true e (inl k) = (inl k, subst (λ (z : A). f z ≡ true) k e)
    by rest true e (inr k) = let r = rest k in (inr r.0, r.1)
    by rest false e k = let r = rest k in (inr r.0, r.1)

pub to_filter : {A : Type 0} (f : A → Bool) (xs : List A) (x : A) → Has xs x → f x ≡ true → Has (filter f xs) x
to_filter f [] x h e = absurd h
to_filter {A = A} f (y ∷ xs) x h e = by (λ i. to_filter f xs x i e) (f y) refl h
  where
    by : (Has xs x → Has (filter f xs) x) → (b : Bool) → f y ≡ b → Has (y ∷ xs) x → Has (cond b (y ∷ filter f xs) (filter f xs)) x
    by rest true k (inl i) = inl i
    by rest true k (inr i) = inr (rest i)
    by rest false k (inl i) = absurd (true≢false (sym e ∙ (sym (ap f i) ∙ k)))
    by rest false k (inr i) = rest i

-- the rules of the rows below k, of which each makes the rules of its candidates
pub record RulesBelow (make : ℕ → Candidate → Rule) (rows : ℕ → List Candidate) (k : ℕ) (rules : List Rule) : Type 0 where
  pub only : (r : Rule) → Has rules r → (j : ℕ) × (c : Candidate) × Has (rows j) c × (r ≡ make j c)
  pub whole : (j : ℕ) (c : Candidate) → j < k → Has (rows j) c → Has rules (make j c)

module _ (make : ℕ → Candidate → Rule) (rows : ℕ → List Candidate) where
  pub rules_none : (rules : List Rule) → rules ≡ [] → RulesBelow make rows 0 rules
  rules_none rules e = record {
    only = λ r h. absurd (subst (λ (l : List Rule). Has l r) e h);
    whole = λ j c l h. absurd (omega arith);
  }

  pub rules_more : (k : ℕ) (old new : List Rule) → new ≡ old ++ map (make k) (rows k) → RulesBelow make rows k old → RulesBelow make rows (k + 1) new
  rules_more k old new e h = record {
    only = λ r g. elim (Has-cases old (map (make k) (rows k)) r (subst (λ (l : List Rule). Has l r) e g)) [
      | inl i ↦ h.only r i
      | inr i ↦ (let q = from_map (make k) (rows k) r i in (k, q.0, q.1, sym q.2))
    ];
    whole = λ j c l g. subst (λ (x : List Rule). Has x (make j c)) (sym e) (elim (cases_lt j k) [
      | inl i ↦ Has-left old (map (make k) (rows k)) (make j c) (h.whole j c i g)
      | inr i ↦ (let q : j ≡ k = omega arith in Has-right old (map (make k) (rows k)) (make j c) (subst (λ (m : ℕ). Has (map (make m) (rows m)) (make j c)) q (Has-map (make j) (rows j) c g)))
    ]);
  }

  -- later rows are empty
  whole_all : (k : ℕ) (rules : List Rule) → ((j : ℕ) → k ≤ j → rows j ≡ []) → RulesBelow make rows k rules → (j : ℕ) (c : Candidate) → Has (rows j) c → Has rules (make j c)
  whole_all k rules none h j c g = elim (cases_lt j k) [ inl l ↦ h.whole j c l g | inr l ↦ absurd (subst (λ (x : List Candidate). Has x c) (none j l) g) ]

pub all_rules : (rows : ℕ → List Candidate) (k : ℕ) (rules : List Rule) → ((j : ℕ) → k ≤ j → rows j ≡ []) → RulesBelow row_rule rows k rules → AreRules rows IsAny rules
all_rules rows k rules none h = record { only = λ r g. (let q = h.only r g in (q.0, q.1, q.2, tt, q.3)); whole = λ j c g any. whole_all row_rule rows k rules none h j c g }

pub all_row_rules : (rows : ℕ → List Candidate) (k : ℕ) (rules : List Rule) → ((j : ℕ) → k ≤ j → rows j ≡ []) → RulesBelow candidate_rule rows k rules → AreRowRules rows rules
all_row_rules rows k rules none h = record { only = h.only; whole = λ j c g. whole_all candidate_rule rows k rules none h j c g }

-- the candidates of a row whose values are made
abbrev pub made_rows : List Bool → (ℕ → List Candidate) → ℕ → List Candidate
made_rows marks rows k = filter (is_made marks) (rows k)

pub all_made_rules : (marks : List Bool) (rows : ℕ → List Candidate) (k : ℕ) (rules : List Rule) → ((j : ℕ) → k ≤ j → rows j ≡ []) → RulesBelow row_rule (made_rows marks rows) k rules → AreRules rows (IsMade marks) rules
all_made_rules marks rows k rules none h = record {
  only = λ r g. (let q = h.only r g in let f = from_filter (is_made marks) (rows q.0) q.1 q.2 in (q.0, q.1, f.0, f.1, q.3));
  whole = λ j c g made. whole_all row_rule (made_rows marks rows) k rules (λ i l. ap (filter (is_made marks)) (none i l)) h j c (to_filter (is_made marks) (rows j) c g made);
}
