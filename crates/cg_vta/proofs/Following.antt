-- The nodes that values are followed to, value after value.
use Rattle.std.proofs.Common.{◌≡◌, ◌<◌, ◌≤◌, ◌+◌, ◌++◌, ℕ, Bool, true, false, List, [], ◌∷◌, inl, inr, refl, sym, ap, ◌∙◌, subst, flat_map, arith, eq-eqb, true≢false}
use Rattle.std.specs.Prelude.{◌==◌, ◌↔◌, if◌then◌else◌}
use Rattle.std.proofs.lemmas.Bool.{cases_lt, eqb-true}
use Rattle.cg_sets.specs.declared.candidates.Candidate.{Candidate}
use Rattle.cg_solve.specs.LeastSets.{Derives, marked}
use Rattle.cg_solve.specs.Lists.{Has, when}
use Rattle.cg_solve.specs.declared.solving.Rule.{Rule}
use Rattle.cg_solve.proofs.Members.{Has-left, Has-right, Has-cases, Has-flat_map, from_flat_map, Has-when, when_has}
use Rattle.cg_solve.proofs.Worklist.{derived}
use Rattle.cg_numbers.specs.declared.sites.Site.{Site}
use Rattle.cg_vta.specs.Facts.{AreReached, Follows, IsChosen, fact_at, goal_nodes, site_nodes}

-- ---- a value

in_test : (b : Bool) (k value node u : ℕ) → Has (if b then when (node == k) value else []) u → (b ≡ true) × (node ≡ k) × (value ≡ u)
in_test true k value node u h = let w = Has-when (node == k) value u h in (refl, eqb-true node k w.0, w.1)
in_test false k value node u h = absurd h

test_in : (b : Bool) (k value : ℕ) → b ≡ true → Has (if b then when (k == k) value else []) value
test_in true k value e = when_has (k == k) value (eq-eqb k k refl)
test_in false k value e = absurd (true≢false (sym e))

pub follows : (rules : List Rule) (seeds : List ℕ) (nodes : List Bool) (follow : Bool) (w : ℕ) (old new : ℕ → List ℕ) (found : List ℕ) → ((k : ℕ) → new k ≡ old k ++ flat_map (fact_at nodes w k) found)
    → ((k : ℕ) → Has found k → Derives seeds rules k) → ((k : ℕ) → Derives seeds rules k → Has found k) → Follows rules seeds nodes follow w old new
follows rules seeds nodes follow w old new found put sound whole = record {
  kept = λ k u h. subst (λ (l : List ℕ). Has l u) (sym (put k)) (Has-left (old k) (flat_map (fact_at nodes w k) found) u h);
  only = λ k u h. elim (Has-cases (old k) (flat_map (fact_at nodes w k) found) u (subst (λ (l : List ℕ). Has l u) (put k) h)) [
    | inl i ↦ inl i
    | inr i ↦ (
        let x = from_flat_map (fact_at nodes w k) found u i in
        let t = in_test (marked nodes x.0) k w x.0 u x.2 in
        inr (t.2, subst (λ (j : ℕ). Derives seeds rules j) t.1 (sound x.0 x.1)))
  ];
  whole = λ k so e d. subst (λ (l : List ℕ). Has l w) (sym (put k)) (Has-right (old k) (flat_map (fact_at nodes w k) found) w (Has-flat_map (fact_at nodes w k) found k w (whole k d) (test_in (marked nodes k) k w e)));
}

-- a value that is not followed
pub follows_not : (rules : List Rule) (seeds : List ℕ) (nodes : List Bool) (follow : Bool) (w : ℕ) (old : ℕ → List ℕ) → follow ≡ false → Follows rules seeds nodes follow w old old
follows_not rules seeds nodes follow w old e = record { kept = λ k u h. h; only = λ k u h. inl h; whole = λ k so m d. absurd (true≢false (sym so ∙ e)) }

-- ---- the values below a number

pub record FollowsBelow (rules : List Rule) (seeds : ℕ → List ℕ) (nodes values : List Bool) (v : ℕ) (facts : ℕ → List ℕ) : Type 0 where
  pub only : (k w : ℕ) → Has (facts k) w → Derives (seeds w) rules k
  pub whole : (k w : ℕ) → w < v → marked nodes k ≡ true → marked values w ≡ true → Derives (seeds w) rules k → Has (facts k) w

module _ (rules : List Rule) (seeds : ℕ → List ℕ) (nodes values : List Bool) where
  pub follows_none : (facts : ℕ → List ℕ) → ((k : ℕ) → facts k ≡ []) → FollowsBelow rules seeds nodes values 0 facts
  follows_none facts e = record {
    only = λ k w h. absurd (subst (λ (l : List ℕ). Has l w) (e k) h);
    whole = λ k w l. absurd (omega arith);
  }

  last_below : (w v : ℕ) → v ≤ w → w < v + 1 → v ≡ w
  last_below w v h g = omega arith

  pub follows_more : (v : ℕ) (old new : ℕ → List ℕ) → Follows rules (seeds v) nodes (marked values v) v old new → FollowsBelow rules seeds nodes values v old → FollowsBelow rules seeds nodes values (v + 1) new
  follows_more v old new f h = record {
    only = λ k w g. elim (f.only k w g) [ inl i ↦ h.only k w i | inr i ↦ subst (λ (j : ℕ). Derives (seeds j) rules k) i.0 i.1 ];
    whole = λ k w l m n d. elim (cases_lt w v) [
      | inl less ↦ f.kept k w (h.whole k w less m n d)
      | inr more ↦ (let e = last_below w v more l in subst (λ (j : ℕ). Has (new k) j) e (f.whole k (ap (marked values) e ∙ n) m (subst (λ (j : ℕ). Derives (seeds j) rules k) (sym e) d)))
    ];
  }

  none_derived : (k : ℕ) → Derives [] rules k → ⊥
  none_derived k d = derived [] rules (λ j. ⊥) (λ j h. h) (λ r h a b. a) k d

  pub follows_all : (v : ℕ) (facts : ℕ → List ℕ) → ((j : ℕ) → v ≤ j → seeds j ≡ []) → FollowsBelow rules seeds nodes values v facts → AreReached rules seeds nodes values facts
  follows_all v facts none h = record {
    only = h.only;
    whole = λ k w m n d. elim (cases_lt w v) [ inl less ↦ h.whole k w less m n d | inr more ↦ absurd (none_derived k (subst (λ (l : List ℕ). Derives l rules k) (none w more) d)) ];
  }

-- ---- what is derived without rules

no_rule : {A : Type 0} (rules : List A) (x : A) → rules ≡ [] → Has rules x → ⊥
no_rule {A = A} rules x e h = subst (λ (l : List A). Has l x) e h

pub only_seeds : (rules : List Rule) (numbers : List ℕ) (marks : List Bool) → rules ≡ [] → ((k : ℕ) → (marked marks k ≡ true) ↔ Derives numbers rules k) → (k : ℕ) → (marked marks k ≡ true) ↔ Has numbers k
only_seeds rules numbers marks e solved = λ k. (
  λ h. derived numbers rules (λ j. Has numbers j) (λ j g. g) (λ r g a b. absurd (no_rule rules r e g)) k ((solved k).0 h),
  λ h. (solved k).1 (Derives.seed k h),
)

-- ---- the nodes that are chosen of

pub chosen_there : (sites : List Site) (rows : ℕ → List Candidate) (nothing : ℕ) (start first second nodes : List ℕ) → first ≡ start ++ nothing ∷ [] → second ≡ first ++ flat_map site_nodes sites → ((k : ℕ) → Has second k → Has nodes k)
    → ((g : ℕ) (c : Candidate) (k : ℕ) → Has (rows g) c → Has (goal_nodes c.goal) k → Has nodes k) → (k : ℕ) → IsChosen sites rows nothing k → Has nodes k
chosen_there sites rows nothing start first second nodes e put kept goals _ (IsChosen.by_site x k h g) = kept k (subst (λ (l : List ℕ). Has l k) (sym put) (Has-right first (flat_map site_nodes sites) k (Has-flat_map site_nodes sites x k h g)))
chosen_there sites rows nothing start first second nodes e put kept goals _ (IsChosen.by_goal g c k h i) = goals g c k h i
chosen_there sites rows nothing start first second nodes e put kept goals _ IsChosen.none =
    kept nothing (subst (λ (l : List ℕ). Has l nothing) (sym put) (Has-left first (flat_map site_nodes sites) nothing (subst (λ (l : List ℕ). Has l nothing) (sym e) (Has-right start (nothing ∷ []) nothing (inl refl)))))
