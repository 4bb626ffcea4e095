-- What values stand for in groups, one after another.
use Rattle.std.proofs.Common.{◌≡◌, ◌⊎◌, ◌<◌, ◌≤◌, ◌+◌, ◌++◌, ℕ, Bool, true, false, List, [], ◌∷◌, inl, inr, refl, sym, ap, ◌∙◌, subst, length, length-append, arith, eq-eqb, append-nil, take, get_or}
use Rattle.std.specs.Prelude.{◌==◌, ◌↔◌}
use Rattle.std.proofs.lemmas.Bool.{cases_lt, eqb-true}
use Rattle.std.proofs.lemmas.List.{take_more}
use Rattle.cg_numbers.specs.Numbered.{Continues, GrowsBy, IsAt, IsOnce}
use Rattle.cg_numbers.proofs.Lists.{at_later}
use Rattle.cg_sets.specs.declared.candidates.Candidate.{Candidate}
use Rattle.cg_sets.specs.declared.candidates.Goal.{Goal}
use Rattle.cg_solve.specs.Lists.{Has, when}
use Rattle.cg_solve.specs.Tables.{row}
use Rattle.cg_solve.proofs.Members.{Has-left, Has-right, Has-cases, Has-when, when_has}
use Rattle.cg_vta.specs.Asks.{AreGoals, HasGoal, IsKept, standing}
use Rattle.cg_vta.specs.declared.goals.Goals.{Goals}
use Rattle.cg_vta.specs.declared.goals.Standing.{Standing}
use Rattle.cg_vta.proofs.Choices.{one_there}
use Rattle.cg_vta.proofs.Streams.{at_earlier, below_length}

pub grows_on : {A : Type 0} (old new : List A) (x : A) → GrowsBy old new x → Continues old new
grows_on old new x (inl e) = ([], e ∙ sym (append-nil old))
grows_on old new x (inr e) = (x ∷ [], e)

pub longer : {A : Type 0} (old new : List A) → Continues old new → length old ≤ length new
longer {A = A} old new c = let e : length new ≡ length old + length c.0 = ap (λ (l : List A). length l) c.1 ∙ length-append old c.0 in omega arith

module _ (old new : Goals) (g v : ℕ) (y : Goal) (place : ℕ) (kept : IsKept old) (grows : GrowsBy old.standings.keys new.standings.keys (standing g v)) (at : IsAt new.standings.keys place (standing g v))
    (once : IsOnce new.standings.keys) (put : (k : ℕ) → row new.rows k ≡ row old.rows k ++ when (place == k) y) where
  on : Continues old.standings.keys new.standings.keys
  on = grows_on old.standings.keys new.standings.keys (standing g v) grows

  none_when : (j : ℕ) (b : Bool) → (place == j) ≡ b → length new.standings.keys ≤ j → when b y ≡ []
  none_when j true e l = let less = below_length new.standings.keys place (standing g v) at in let q = eqb-true place j e in absurd (omega arith)
  none_when j false e l = refl

  none_later : (j : ℕ) → length new.standings.keys ≤ j → row new.rows j ≡ []
  none_later j l =
      let m = longer old.standings.keys new.standings.keys on in
      put j ∙ (ap (λ (xs : List Goal). xs ++ when (place == j) y) (kept.later j (omega arith)) ∙ none_when j (place == j) refl l)

  pub kept_put : IsKept new
  kept_put = record { once = once; later = none_later }

  -- what has a goal has a number
  old_place : (j : ℕ) (z : Goal) → Has (row old.rows j) z → j < length old.standings.keys
  old_place j z h = elim (cases_lt j (length old.standings.keys)) [ inl l ↦ l | inr l ↦ absurd (subst (λ (xs : List Goal). Has xs z) (kept.later j l) h) ]

  pub goal_from : (h u : ℕ) (z : Goal) → HasGoal new h u z → HasGoal old h u z ⊎ ((g ≡ h) × (v ≡ u) × (y ≡ z))
  goal_from h u z has = elim (Has-cases (row old.rows has.0) (when (place == has.0) y) z (subst (λ (xs : List Goal). Has xs z) (put has.0) has.2)) [
    | inl i ↦ inl (has.0, at_earlier old.standings.keys new.standings.keys has.0 (standing h u) on (old_place has.0 z i) has.1, i)
    | inr i ↦ (
        let w = Has-when (place == has.0) y z i in
        let same : standing g v ≡ standing h u = one_there new.standings.keys has.0 (standing g v) (standing h u) (subst (λ (j : ℕ). IsAt new.standings.keys j (standing g v)) (eqb-true place has.0 w.0) at) has.1 in
        inr (ap (λ (s : Standing). s.group) same, ap (λ (s : Standing). s.value) same, w.1))
  ]

  pub goal_kept : (h u : ℕ) (z : Goal) → HasGoal old h u z → HasGoal new h u z
  goal_kept h u z has = (has.0, at_later old.standings.keys new.standings.keys has.0 (standing h u) on has.1, subst (λ (xs : List Goal). Has xs z) (sym (put has.0)) (Has-left (row old.rows has.0) (when (place == has.0) y) z has.2))

  pub goal_new : HasGoal new g v y
  goal_new = (place, at, subst (λ (xs : List Goal). Has xs y) (sym (put place)) (Has-right (row old.rows place) (when (place == place) y) y (when_has (place == place) y (eq-eqb place place refl))))

  same_goal : (h u : ℕ) (z : Goal) → (g ≡ h) × (v ≡ u) × (y ≡ z) → HasGoal new h u z
  same_goal h u z e = subst (λ (x : Goal). HasGoal new h u x) e.2 (subst (λ (k : ℕ). HasGoal new h k y) e.1 (subst (λ (k : ℕ). HasGoal new k v y) e.0 goal_new))

  pub goal_put : (h u : ℕ) (z : Goal) → HasGoal new h u z ↔ (HasGoal old h u z ⊎ ((g ≡ h) × (v ≡ u) × (y ≡ z)))
  goal_put h u z = (goal_from h u z, λ s. elim s [ inl i ↦ goal_kept h u z i | inr e ↦ same_goal h u z e ])

-- ---- a row

abbrev pub OfRow : ℕ → List Candidate → ℕ → ℕ → Goal → Type 0
OfRow group candidates g v y = (group ≡ g) × (c : Candidate) × Has candidates c × (c.value ≡ v) × (c.goal ≡ y)

abbrev pub GoalsMore : Goals → Goals → ℕ → List Candidate → Type 0
GoalsMore old new group candidates = (g v : ℕ) (y : Goal) → HasGoal new g v y ↔ (HasGoal old g v y ⊎ OfRow group candidates g v y)

pub more_none : (goals : Goals) (group : ℕ) → GoalsMore goals goals group []
more_none goals group = λ g v y. (λ h. inl h, λ s. elim s [ inl i ↦ i | inr r ↦ absurd r.2 ])

module _ (old mid new : Goals) (group : ℕ) (candidates : List Candidate) (i : ℕ) (d : Candidate) (less : i < length candidates) where
  abbrev x : Candidate
  x = get_or candidates i d

  next : take (i + 1) candidates ≡ take i candidates ++ x ∷ []
  next = take_more candidates i d less

  front : (c : Candidate) → Has (take i candidates) c → Has (take (i + 1) candidates) c
  front c h = subst (λ (l : List Candidate). Has l c) (sym next) (Has-left (take i candidates) (x ∷ []) c h)

  here : Has (take (i + 1) candidates) x
  here = subst (λ (l : List Candidate). Has l x) (sym next) (Has-right (take i candidates) (x ∷ []) x (inl refl))

  pub more_next : ((g v : ℕ) (y : Goal) → HasGoal new g v y ↔ (HasGoal mid g v y ⊎ ((group ≡ g) × (x.value ≡ v) × (x.goal ≡ y)))) → GoalsMore old mid group (take i candidates) → GoalsMore old new group (take (i + 1) candidates)
  more_next one h = λ g v y. (
    λ k. elim ((one g v y).0 k) [
      | inl j ↦ elim ((h g v y).0 j) [ inl q ↦ inl q | inr q ↦ inr (q.0, q.1, front q.1 q.2, q.3, q.4) ]
      | inr q ↦ inr (q.0, x, here, q.1, q.2)
    ],
    λ s. elim s [
      | inl j ↦ (one g v y).1 (inl ((h g v y).1 (inl j)))
      | inr q ↦ elim (Has-cases (take i candidates) (x ∷ []) q.1 (subst (λ (l : List Candidate). Has l q.1) next q.2)) [
        | inl j ↦ (one g v y).1 (inl ((h g v y).1 (inr (q.0, q.1, j, q.3, q.4))))
        | inr (inl e) ↦ (one g v y).1 (inr (q.0, ap (λ (c : Candidate). c.value) e ∙ q.3, ap (λ (c : Candidate). c.goal) e ∙ q.4))
        | inr (inr j) ↦ absurd j
      ]
    ],
  )

-- ---- all rows

pub record GoalsBelow (rows : ℕ → List Candidate) (k : ℕ) (goals : Goals) : Type 0 where
  pub only : (g v : ℕ) (y : Goal) → HasGoal goals g v y → (c : Candidate) × Has (rows g) c × (c.value ≡ v) × (c.goal ≡ y)
  pub whole : (g : ℕ) (c : Candidate) → g < k → Has (rows g) c → HasGoal goals g c.value c.goal

pub goals_none : (rows : ℕ → List Candidate) (goals : Goals) → goals.standings.keys ≡ [] → GoalsBelow rows 0 goals
goals_none rows goals e = record {
  only = λ g v y h. absurd (let l = below_length goals.standings.keys h.0 (standing g v) h.1 in let z : length goals.standings.keys ≡ 0 = ap (λ (xs : List Standing). length xs) e in omega arith);
  whole = λ g c l. absurd (omega arith);
}

pub goals_more : (rows : ℕ → List Candidate) (k : ℕ) (old new : Goals) → GoalsMore old new k (rows k) → GoalsBelow rows k old → GoalsBelow rows (k + 1) new
goals_more rows k old new more h = record {
  only = λ g v y i. elim ((more g v y).0 i) [ inl j ↦ h.only g v y j | inr q ↦ (q.1, subst (λ (j : ℕ). Has (rows j) q.1) q.0 q.2, q.3, q.4) ];
  whole = λ g c l i. elim (cases_lt g k) [
    | inl less ↦ (more g c.value c.goal).1 (inl (h.whole g c less i))
    | inr more_than ↦ (let e : k ≡ g = omega arith in (more g c.value c.goal).1 (inr (e, c, subst (λ (j : ℕ). Has (rows j) c) (sym e) i, refl, refl)))
  ];
}

pub goals_all : (rows : ℕ → List Candidate) (k : ℕ) (goals : Goals) → ((j : ℕ) → k ≤ j → rows j ≡ []) → IsKept goals → GoalsBelow rows k goals → AreGoals rows goals
goals_all rows k goals none kept h = record {
  kept = kept;
  only = h.only;
  whole = λ g c i. elim (cases_lt g k) [ inl less ↦ h.whole g c less i | inr more ↦ absurd (subst (λ (l : List Candidate). Has l c) (none g more) i) ];
}

-- ---- what is found

pub find_some : (goals : Goals) (g v place : ℕ) (found : List Goal) → IsAt goals.standings.keys place (standing g v) → found ≡ row goals.rows place → IsKept goals → (y : Goal) → Has found y ↔ HasGoal goals g v y
find_some goals g v place found at e kept = λ y. (
  λ h. (place, at, subst (λ (l : List Goal). Has l y) e h),
  λ h. subst (λ (l : List Goal). Has l y) (sym e) (subst (λ (j : ℕ). Has (row goals.rows j) y) (kept.once h.0 place (standing g v) h.1 at) h.2),
)

pub find_none : (goals : Goals) (g v : ℕ) → ((j : ℕ) → IsAt goals.standings.keys j (standing g v) → ⊥) → (y : Goal) → Has [] y ↔ HasGoal goals g v y
find_none goals g v none = λ y. (λ h. absurd h, λ h. absurd (none h.0 h.1))

pub kept_none : (goals : Goals) → goals.standings.keys ≡ [] → ((j : ℕ) → row goals.rows j ≡ []) → IsKept goals
kept_none goals e rows = record {
  once = λ i j x h k. absurd (let l = below_length goals.standings.keys i x h in let z : length goals.standings.keys ≡ 0 = ap (λ (xs : List Standing). length xs) e in omega arith);
  later = λ j l. rows j;
}

-- ---- what the values in a node stand for

abbrev pub FoundIn : (ℕ → List Candidate) → ℕ → List ℕ → List Goal → Type 0
FoundIn rows g values found = (y : Goal) → Has found y ↔ ((c : Candidate) × Has (rows g) c × Has values c.value × (c.goal ≡ y))

pub found_none : (rows : ℕ → List Candidate) (g : ℕ) (found : List Goal) → found ≡ [] → FoundIn rows g [] found
found_none rows g found e = λ y. (λ h. absurd (subst (λ (l : List Goal). Has l y) e h), λ h. absurd h.2)

module _ (rows : ℕ → List Candidate) (goals : Goals) (are : AreGoals rows goals) (g : ℕ) (values : List ℕ) (i : ℕ) (less : i < length values) (old new some : List Goal) where
  abbrev value : ℕ
  value = get_or values i 0

  value_next : take (i + 1) values ≡ take i values ++ value ∷ []
  value_next = take_more values i 0 less

  pub found_more : new ≡ old ++ some → ((y : Goal) → Has some y ↔ HasGoal goals g value y) → FoundIn rows g (take i values) old → FoundIn rows g (take (i + 1) values) new
  found_more put all h = λ y. (
    λ k. elim (Has-cases old some y (subst (λ (l : List Goal). Has l y) put k)) [
      | inl j ↦ (let q = (h y).0 j in (q.0, q.1, subst (λ (l : List ℕ). Has l q.0.value) (sym value_next) (Has-left (take i values) (value ∷ []) q.0.value q.2), q.3))
      | inr j ↦ (
          let q = are.only g value y ((all y).0 j) in
          (q.0, q.1, subst (λ (l : List ℕ). Has l q.0.value) (sym value_next) (Has-right (take i values) (value ∷ []) q.0.value (inl (sym q.2))), q.3))
    ],
    λ q. subst (λ (l : List Goal). Has l y) (sym put) (elim (Has-cases (take i values) (value ∷ []) q.0.value (subst (λ (l : List ℕ). Has l q.0.value) value_next q.2)) [
      | inl j ↦ Has-left old some y ((h y).1 (q.0, q.1, j, q.3))
      | inr (inl e) ↦ Has-right old some y ((all y).1 (subst (λ (z : Goal). HasGoal goals g value z) q.3 (subst (λ (w : ℕ). HasGoal goals g w q.0.goal) (sym e) (are.whole g q.0 q.1))))
      | inr (inr j) ↦ absurd j
    ]),
  )
