-- The steps of the groups that are taken stand in the order of the definition.
use Rattle.std.proofs.Common.{◌≡◌, ◌≢◌, ◌<◌, ◌≤◌, ◌+◌, ◌∙◌, ℕ, suc, zero, Bool, true, false, List, [], ◌∷◌, ◌++◌, ◌⊎◌, inl, inr, Option, Some, None, length, refl, sym, ap, subst, arith, eq-eqb, append_assoc}
use Rattle.std.specs.Option.{option_to_list}
use Rattle.std.proofs.lemmas.Bool.{eqb-true}
use Rattle.std.specs.Prelude.{◌||◌, nat_eq, slice_index}
use Rattle.go_graph.specs.Graph.{IsAmong, Reaches, here, along, StandsOn, next}
use Rattle.go_graph.proofs.Lists.{same_or, trans}
use Rattle.init_order.specs.declared.edges.Edge.{Edge}
use Rattle.init_order.specs.Naming.{Naming}
use Rattle.init_order.specs.Order.{IsReady, IsNext, IsInitOrder}
use Rattle.init_order.specs.Groups.{has, waits}
use Rattle.init_order.proofs.Counting.{by_bool, has_more, is_open, waits_none, taken_stays}
use Rattle.init_order.specs.Taking.{IsTaking, AreParts, steps_of, IsBeginning}

row_within : (rows : List (List ℕ)) (x y : ℕ) → IsAmong y (next rows x) → x < length rows
row_within [] x y h = absurd h
row_within (r ∷ rows) zero y h = omega arith
row_within (r ∷ rows) (suc x) y h = let less = row_within rows x y h in omega arith

pub first_step : {next : ℕ → List ℕ} {x z : ℕ} → Reaches next x z → x ≢ z → StandsOn next x z
first_step here differ = absurd (differ refl)
first_step (along is more) differ = record { part = _; is_part = is; rest = more }

reaches_of : {next : ℕ → List ℕ} {x z : ℕ} → StandsOn next x z → Reaches next x z
reaches_of s = along s.is_part s.rest

append_nil : {A : Type 0} (xs : List A) → xs ++ [] ≡ xs
append_nil [] = refl
append_nil (x ∷ xs) = ap (λ l. x ∷ l) (append_nil xs)

module _ (names : Naming) (of order : List ℕ) (edges : List Edge) (label : ℕ → Option ℕ) (parts : AreParts names of order edges label) where
  abbrev pub group : ℕ → ℕ
  group s = slice_index of (names.variables + s)

  pub down : (e : Edge) → IsAmong e edges → (e.leaves < length order) × (e.enters < e.leaves)
  down e h =
      let s = parts.group_edges.sound e h in
      let less = row_within names.rows s.x s.y s.is_edge in
      let bound = parts.components.within s.x less in
      let low = parts.components.downward s.x s.y s.is_edge in
      let a = s.leaves in let b = s.enters in let c = s.differ in
      (omega arith, omega arith)

  -- an edge between nodes stays in a group, or is one between groups
  crosses : (x y : ℕ) → IsAmong y (next names.rows x) → (slice_index of x ≡ slice_index of y) ⊎ IsAmong (record { leaves = slice_index of x; enters = slice_index of y }) edges
  crosses x y h =
      elim (same_or (slice_index of x) (slice_index of y)) [
        | inl e ↦ inl e
        | inr differ ↦ inr (parts.group_edges.complete (slice_index of x) (slice_index of y) (record { x = x; y = y; is_edge = h; leaves = refl; enters = refl; differ = differ }))
      ]

  -- where all edges of a group lead to groups that are taken, so do all paths
  stays_taken : (taken : List ℕ) (g : ℕ) → waits edges taken g ≡ 0 → ((e : Edge) → IsAmong e edges → has e.leaves taken ≡ true → has e.enters taken ≡ true)
      → {x z : ℕ} → Reaches (next names.rows) x z → (slice_index of x ≡ g) ⊎ (has (slice_index of x) taken ≡ true) → (slice_index of z ≡ g) ⊎ (has (slice_index of z) taken ≡ true)
  stays_taken taken g none closed here at = at
  stays_taken taken g none closed {x = x} (along {y = y} is more) at =
      stays_taken taken g none closed more (elim (crosses x y is) [
        | inl same ↦ elim at [ inl e ↦ inl (sym same ∙ e) | inr t ↦ inr (ap (λ k. has k taken) (sym same) ∙ t) ]
        | inr edge ↦ elim at [
          | inl e ↦ inr (waits_none edges taken g (record { leaves = slice_index of x; enters = slice_index of y }) none edge e)
          | inr t ↦ inr (closed (record { leaves = slice_index of x; enters = slice_index of y }) edge t)
        ]
      ])

  falls : {x z : ℕ} → Reaches (next names.rows) x z → slice_index of z ≤ slice_index of x
  falls here = omega arith
  falls {x = x} (along {y = y} is more) =
      let one = parts.components.downward x y is in let rest = falls more in omega arith

  -- the steps that are before, in any order, are those whose groups are taken
  pub record AreBefore (taken before : List ℕ) : Type 0 where
    pub there : (s : ℕ) → s < names.steps → has (slice_index of (names.variables + s)) taken ≡ true → IsAmong s before
    pub back : (s : ℕ) → IsAmong s before → has (slice_index of (names.variables + s)) taken ≡ true

  module _ (w : ℕ → ℕ) (ready taken before : List ℕ) (inv : IsTaking (length order) edges label group [] w [] ready taken) (are : AreBefore taken before) where
    waits_at : (g : ℕ) → g < length order → waits edges taken g ≡ 0 → w g ≡ 0
    waits_at g less none = let e = inv.counts g less in omega arith

    pub ready_step : (s : ℕ) → IsAmong s ready → IsReady names before s
    ready_step s h =
        let it = inv.is_ready s h in
        let less = (parts.of_label (group s) s it.1).0 in
        let none : waits edges taken (group s) ≡ 0 = (let e = inv.counts (group s) it.0.less in let z = it.0.none in omega arith) in
        record {
          is_step = less;
          is_left = λ k. (let t = are.back s k in let f = it.0.is_left in cc);
          stands = λ t t_less differ stands. are.there t t_less (elim (stays_taken taken (group s) none inv.closed (reaches_of stands) (inl refl)) [
            | inl e ↦ (
                let one : Some t ≡ Some s = sym (parts.labels t t_less) ∙ ap label e ∙ it.1 in
                let same : t ≡ s = cc in
                absurd (differ same)
                )
            | inr in_taken ↦ in_taken
          ]);
        }

    -- what a ready step reaches beyond its group is taken
    reached : (t : ℕ) → IsReady names before t → (k y : ℕ) → slice_index of y < k → y < length names.rows → Reaches (next names.rows) (names.variables + t) y
        → slice_index of y ≢ group t → has (slice_index of y) taken ≡ true
    reached t r zero y low less path differ = absurd (omega arith)
    reached t r (suc k) y low less path differ =
        let bound = parts.components.within y less in
        elim (by_bool (has (slice_index of y) taken)) [
          | inl is_taken ↦ is_taken
          | inr left ↦ elim (is_open edges taken (slice_index of y)) [
            | inl none ↦ elim (inv.kept (slice_index of y) bound left (waits_at (slice_index of y) bound none)) [
              | inl h ↦ absurd h
              | inr o ↦ (
                  let of_step = parts.of_label (slice_index of y) o.step o.is_label in
                  let room = parts.room in
                  let small : names.variables + o.step < length names.rows = (let a = of_step.0 in omega arith) in
                  let other : o.step ≢ t = λ e. differ (sym of_step.1 ∙ ap group e) in
                  let apart : names.variables + t ≢ names.variables + o.step = λ e. other (omega arith) in
                  let whole = trans path (parts.components.together y (names.variables + o.step) less small (sym of_step.1)) in
                  let before_it = r.stands o.step of_step.0 other (first_step whole apart) in
                  let t_taken = ap (λ g. has g taken) (sym of_step.1) ∙ are.back o.step before_it in
                  cc
                  )
            ]
            | inr o ↦ (
                let edge = parts.group_edges.sound (record { leaves = slice_index of y; enters = o.to }) o.is_edge in
                let x_less = row_within names.rows edge.x edge.y edge.is_edge in
                let to_less = parts.graph edge.x edge.y edge.is_edge in
                let lower = (down (record { leaves = slice_index of y; enters = o.to }) o.is_edge).1 in
                let path2 = trans path (trans (parts.components.together y edge.x less x_less (sym edge.leaves)) (along edge.is_edge here)) in
                let under = falls path in
                let at = edge.enters in
                let differ2 : slice_index of edge.y ≢ group t = λ e. omega arith in
                let is_taken = reached t r k edge.y (omega arith) to_less path2 differ2 in
                let left2 = o.is_left in
                absurd (subst (λ b. b ≡ true → ⊥) (sym (ap (λ g. has g taken) at ∙ left2)) (λ e. cc) is_taken)
                )
          ]
        ]

    pub is_first : (s : ℕ) (rest : List ℕ) → ready ≡ s ∷ rest → ((x : ℕ) → IsAmong x rest → s < x) → (t : ℕ) → IsReady names before t → s ≤ t
    is_first s rest is above t r =
        let room = parts.room in
        let is_step = r.is_step in
        let small : names.variables + t < length names.rows = omega arith in
        let bound = parts.components.within (names.variables + t) small in
        let left : has (group t) taken ≡ false = elim (by_bool (has (group t) taken)) [ inl e ↦ absurd (r.is_left (are.there t is_step e)) | inr f ↦ f ] in
        elim (is_open edges taken (group t)) [
          | inl none ↦ elim (inv.kept (group t) bound left (waits_at (group t) bound none)) [
            | inl h ↦ absurd h
            | inr o ↦ (
                let one : Some o.step ≡ Some t = sym o.is_label ∙ parts.labels t is_step in
                let same : o.step ≡ t = cc in
                elim (subst (IsAmong o.step) is o.is_ready) [ inl e ↦ omega arith | inr k ↦ (let more = above o.step k in omega arith) ]
                )
          ]
          | inr o ↦ (
              let edge = parts.group_edges.sound (record { leaves = group t; enters = o.to }) o.is_edge in
              let x_less = row_within names.rows edge.x edge.y edge.is_edge in
              let to_less = parts.graph edge.x edge.y edge.is_edge in
              let lower = (down (record { leaves = group t; enters = o.to }) o.is_edge).1 in
              let path = trans (parts.components.together (names.variables + t) edge.x small x_less (sym edge.leaves)) (along edge.is_edge here) in
              let at = edge.enters in
              let differ : slice_index of edge.y ≢ group t = λ e. omega arith in
              let is_taken = reached t r (suc (slice_index of edge.y)) edge.y (omega arith) to_less path differ in
              absurd (subst (λ b. b ≡ true → ⊥) (sym (ap (λ g. has g taken) at ∙ o.is_left)) (λ e. cc) is_taken)
              )
        ]

steps_end : (label : ℕ → Option ℕ) (taken : List ℕ) (g : ℕ) → steps_of label (taken ++ g ∷ []) ≡ steps_of label taken ++ option_to_list (label g)
steps_end label [] g = append_nil (option_to_list (label g))
steps_end label (x ∷ taken) g =
    ap (λ l. option_to_list (label x) ++ l) (steps_end label taken g) ∙ sym (append_assoc (option_to_list (label x)) (steps_of label taken) (option_to_list (label g)))

pub nothing_taken : (names : Naming) (of : List ℕ) (label : ℕ → Option ℕ) → IsBeginning names of label []
nothing_taken names of label =
    record { before = []; there = λ s less h. cc; back = λ s h. absurd h; goes_on = λ rest h. h }

or_cases : (a b : Bool) → (a || b) ≡ true → (a ≡ true) ⊎ (b ≡ true)
or_cases true b h = inl refl
or_cases false b h = inr h

module _ (names : Naming) (of order : List ℕ) (edges : List Edge) (label : ℕ → Option ℕ) (parts : AreParts names of order edges label) (g : ℕ) (taken : List ℕ) (was : IsBeginning names of label taken) where
  pub free_goes_on : label g ≡ None → IsBeginning names of label (taken ++ g ∷ [])
  free_goes_on none =
      record {
        before = was.before;
        there = λ s less h. elim (or_cases (nat_eq (slice_index of (names.variables + s)) g) (has (slice_index of (names.variables + s)) taken) (sym (has_more (slice_index of (names.variables + s)) g taken) ∙ h)) [
          | inl e ↦ (let one = sym (parts.labels s less) ∙ ap label (eqb-true (slice_index of (names.variables + s)) g e) ∙ none in cc)
          | inr t ↦ was.there s less t
        ];
        back = λ s h. taken_stays (slice_index of (names.variables + s)) g taken (was.back s h);
        goes_on = λ rest h. subst (λ l. IsInitOrder names (l ++ rest)) (sym (steps_end label taken g ∙ ap (λ o. steps_of label taken ++ option_to_list o) none ∙ append_nil (steps_of label taken))) (was.goes_on rest h);
      }

  pub step_goes_on : (s : ℕ) → label g ≡ Some s → IsNext names was.before s → IsBeginning names of label (taken ++ g ∷ [])
  step_goes_on s some next_one =
      record {
        before = s ∷ was.before;
        there = λ t less h. elim (or_cases (nat_eq (slice_index of (names.variables + t)) g) (has (slice_index of (names.variables + t)) taken) (sym (has_more (slice_index of (names.variables + t)) g taken) ∙ h)) [
          | inl e ↦ (let one : Some t ≡ Some s = sym (parts.labels t less) ∙ ap label (eqb-true (slice_index of (names.variables + t)) g e) ∙ some in inl cc)
          | inr k ↦ inr (was.there t less k)
        ];
        back = λ t h. elim h [
          | inl e ↦ (
              let at : slice_index of (names.variables + t) ≡ g = ap (λ x. slice_index of (names.variables + x)) e ∙ (parts.of_label g s some).1 in
              has_more (slice_index of (names.variables + t)) g taken ∙ ap (λ b. b || has (slice_index of (names.variables + t)) taken) (eq-eqb (slice_index of (names.variables + t)) g at)
              )
          | inr k ↦ taken_stays (slice_index of (names.variables + t)) g taken (was.back t k)
        ];
        goes_on = λ rest h.
            subst (λ l. IsInitOrder names l) (sym (ap (λ l. l ++ rest) (steps_end label taken g ∙ ap (λ o. steps_of label taken ++ option_to_list o) some) ∙ append_assoc (steps_of label taken) (s ∷ []) rest))
            (was.goes_on (s ∷ rest) (next_one, h));
      }

pub whole_order : (names : Naming) (of order : List ℕ) (edges : List Edge) (label : ℕ → Option ℕ) → AreParts names of order edges label → (taken : List ℕ) → IsBeginning names of label taken
    → ((g : ℕ) → g < length order → has g taken ≡ true) → IsInitOrder names (steps_of label taken)
whole_order names of order edges label parts taken was whole =
    subst (IsInitOrder names) (append_nil (steps_of label taken))
    (was.goes_on [] (λ s less. was.there s less (whole (slice_index of (names.variables + s)) (parts.components.within (names.variables + s) (let room = parts.room in omega arith)))))
