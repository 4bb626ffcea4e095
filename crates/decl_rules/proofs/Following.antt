-- What an order of nodes finds where each leads to one at most.
use Rattle.std.proofs.Common.{◌≡◌, ◌≢◌, ◌↔◌, ◌<◌, ◌≤◌, ◌+◌, ◌∙◌, inl, inr, sym, refl, ap, subst, ℕ, zero, suc, Bool, true, false, List, [], ◌∷◌, ◌++◌, Option, Some, None, length, replicate, get_or, slice_get, slice_index, cond, arith}
use Rattle.std.proofs.Math.ListN.{set}
use Rattle.std.proofs.lemmas.List.{length-set}
use Rattle.go_graph.specs.Graph.{IsAmong, Reaches, StandsOn, along as passing, here as at_once, next}
use Rattle.go_graph.specs.Marks.{marked}
use Rattle.go_graph.proofs.Lists.{among_at, at_among, before_or, get_within, same_or, trans}
use Rattle.go_graph.proofs.MarkLaws.{item_read, ordered_at}
use Rattle.decl_nodes.specs.declared.nodes.Node.{Node}
use Rattle.decl_nodes.specs.Edges.{IsOrder}
use Rattle.decl_nodes.specs.Numbered.{kind_at, kind_of}
use Rattle.decl_rules.specs.declared.denoting.Denoted.{Denoted}
use Rattle.decl_rules.specs.declared.denoting.Lead.{Lead}
use Rattle.decl_rules.specs.declared.denoting.Lead.TheVariants.{Is, Nowhere, To}
use Rattle.decl_rules.specs.Denoting.{ComesTo, along, found_by, here, settled, step, step_at, step_of, targets_of}

-- rows that are made one after the other
pub next_more : (f : ℕ → List ℕ) (rows : List (List ℕ)) (n : ℕ) (row : List ℕ) → length rows ≡ n → ((x : ℕ) → x < n → next rows x ≡ f x) → row ≡ f n → (x : ℕ) → x < n + 1 → next (rows ++ row ∷ []) x ≡ f x
next_more f rows n row size h is x less = elim (before_or x n) [
  | inl under ↦ left rows x (omega arith) ∙ h x under
  | inr over ↦ (let same : x ≡ n = omega arith in last rows x (omega arith) ∙ is ∙ ap f (sym same))
]
  where
    left : (rows : List (List ℕ)) (x : ℕ) → x < length rows → next (rows ++ row ∷ []) x ≡ next rows x
    left [] x less = absurd (omega arith)
    left (r ∷ rows) zero less = refl
    left (r ∷ rows) (suc x) less = left rows x (omega arith)

    last : (rows : List (List ℕ)) (x : ℕ) → x ≡ length rows → next (rows ++ row ∷ []) x ≡ row
    last [] zero e = refl
    last [] (suc x) e = absurd (omega arith)
    last (r ∷ rows) zero e = absurd (omega arith)
    last (r ∷ rows) (suc x) e = last rows x (omega arith)

pub next_past : (rows : List (List ℕ)) (x : ℕ) → length rows ≤ x → next rows x ≡ []
next_past [] x past = refl
next_past (r ∷ rows) zero past = absurd (omega arith)
next_past (r ∷ rows) (suc x) past = next_past rows x (omega arith)

pub nowhere_past : (list : List Node) (through : Bool) (x : ℕ) → length list ≤ x → step_at list through x ≡ Nowhere
nowhere_past list through x past = ap (λ o. step_of through x o) (past_kind list x past)
  where
    past_kind : (list : List Node) (x : ℕ) → length list ≤ x → kind_at list x ≡ None
    past_kind [] x past = refl
    past_kind (node ∷ list) zero past = absurd (omega arith)
    past_kind (node ∷ list) (suc x) past = past_kind list x (omega arith)

pub step_is : (list : List Node) (through : Bool) (n : ℕ) (node : Node) → n < length list → node ≡ get_or list n node → step through n node.kind ≡ step_at list through n
step_is list through n node less is = ap (λ o. step_of through n (kind_of o)) (sym (item_read list n node less is))

-- the rows of all nodes, where those below the number of nodes are
pub all_rows : (list : List Node) (through : Bool) (rows : List (List ℕ)) → length rows ≡ length list → ((x : ℕ) → x < length list → next rows x ≡ targets_of (step_at list through x))
    → (x : ℕ) → next rows x ≡ targets_of (step_at list through x)
all_rows list through rows size h x = elim (before_or x (length list)) [
  | inl under ↦ h x under
  | inr over ↦ next_past rows x (omega arith) ∙ sym (ap targets_of (nowhere_past list through x over))
]

read_same : {A : Type 0} (xs : List (Option A)) (i j : ℕ) (v : Option A) → j ≡ i → i < length xs → get_or (set xs i v) j None ≡ v
read_same [] i j v e less = absurd (omega arith)
read_same (x ∷ xs) zero zero v e less = refl
read_same (x ∷ xs) zero (suc j) v e less = absurd (omega arith)
read_same (x ∷ xs) (suc i) zero v e less = absurd (omega arith)
read_same (x ∷ xs) (suc i) (suc j) v e less = read_same xs i j v (omega arith) (omega arith)

read_other : {A : Type 0} (xs : List (Option A)) (i j : ℕ) (v : Option A) → j ≢ i → get_or (set xs i v) j None ≡ get_or xs j None
read_other [] i j v ne = refl
read_other (x ∷ xs) zero zero v ne = absurd (ne refl)
read_other (x ∷ xs) zero (suc j) v ne = refl
read_other (x ∷ xs) (suc i) zero v ne = refl
read_other (x ∷ xs) (suc i) (suc j) v ne = read_other xs i j v (λ e. ne (ap suc e))

read_none : {A : Type 0} (n x : ℕ) → get_or (replicate {A = Option A} n None) x None ≡ None
read_none zero x = refl
read_none (suc n) zero = refl
read_none (suc n) (suc x) = read_none n x

length_replicate : {A : Type 0} (n : ℕ) (v : A) → length (replicate n v) ≡ n
length_replicate zero v = refl
length_replicate (suc n) v = ap suc (length_replicate n v)

-- from a node on a cycle to itself, by its next
turned : (next : ℕ → List ℕ) (m x : ℕ) → Reaches next m x → IsAmong m (next x) → StandsOn next m m
turned next m x at_once edge = record { part = m; is_part = edge; rest = at_once }
turned next m x (passing {y = z} first rest) edge = record { part = z; is_part = first; rest = trans rest (passing edge at_once) }

-- the types of the nodes that were passed are found
pub record IsSoFar (list : List Node) (through : Bool) (order : List ℕ) (n : ℕ) (found : List (Option Denoted)) : Type 0 where
  pub size : length found ≡ length list
  pub sound : (x : ℕ) (t : Denoted) → get_or found x None ≡ Some t → ComesTo list through x t
  pub complete : (k x : ℕ) (t : Denoted) → k < n → slice_get order k ≡ Some x → ComesTo list through x t → get_or found x None ≡ Some t

pub none_so_far : (list : List Node) (through : Bool) (order : List ℕ) (found : List (Option Denoted)) → found ≡ replicate (length list) None → IsSoFar list through order 0 found
none_so_far list through order found e = record {
  size = ap length e ∙ length_replicate (length list) None;
  sound = λ x t h. (let none = ap (λ l. get_or l x None) e ∙ read_none (length list) x in cc);
  complete = λ k x t less. absurd (omega arith);
}

module _ (list : List Node) (through : Bool) (rows : List (List ℕ)) (of order : List ℕ) (marks : List Bool) (are : (x : ℕ) → next rows x ≡ targets_of (step_at list through x)) (count : length rows ≡ length list) (ordered : IsOrder rows of order marks) where
  edge_to : (x m : ℕ) → step_at list through x ≡ To m → IsAmong m (next rows x)
  edge_to x m e = subst (IsAmong m) (sym (are x ∙ ap targets_of e)) (inl refl)

  only_edge : (x m y : ℕ) → step_at list through x ≡ To m → IsAmong y (next rows x) → y ≡ m
  only_edge x m y e h = elim (subst (IsAmong y) (are x ∙ ap targets_of e) h) [ inl same ↦ same | inr none ↦ absurd none ]

  -- what comes to a type does not lead back to itself
  not_round : (x : ℕ) (t : Denoted) → ComesTo list through x t → StandsOn (next rows) x x → ⊥
  not_round x t (here e) s = subst (IsAmong s.part) (are x ∙ ap targets_of e) s.is_part
  not_round x t (along {to = m} e more) s =
      let same : s.part ≡ m = only_edge x m s.part e s.is_part in
      not_round m t more (turned (next rows) m x (subst (λ y. Reaches (next rows) y x) same s.rest) (edge_to x m e))

  -- what a node leads to comes before it
  earlier : (i x m : ℕ) → slice_get order i ≡ Some x → marked marks x ≡ false → step_at list through x ≡ To m → (j : ℕ) × (j < i) × (slice_get order j ≡ Some m)
  earlier i x m at free e =
      let g = ordered.components in
      let edge = edge_to x m e in
      let low = ordered.graph x m edge in
      let x_low = g.nodes x (among_at order i x at) in
      let place = at_among m order (g.listed m low) in
      elim (before_or place.0 i) [
        | inl under ↦ (place.0, under, place.1)
        | inr over ↦ absurd (
            let one = ordered_at rows of order ordered.graph g order i place.0 x m g.ordered over at place.1 in
            let two = g.downward x m edge in
            let same : slice_index of m ≡ slice_index of x = omega arith in
            let round : StandsOn (next rows) x x = record { part = m; is_part = edge; rest = g.together m x low x_low same } in
            let is = ordered.cyclic.complete x x_low round in
            true_false (sym is ∙ free)
            )
      ]
    where
      true_false : true ≡ false → ⊥
      true_false e = cc

  module _ (n x : ℕ) (found : List (Option Denoted)) (h : IsSoFar list through order n found) (at : slice_get order n ≡ Some x) where
    x_less : x < length found
    x_less = let less = ordered.components.nodes x (among_at order n x at) in let size = h.size in omega arith

    same_at : (k y : ℕ) → k < n + 1 → n ≤ k → slice_get order k ≡ Some y → y ≡ x
    same_at k y less over is = let same : k ≡ n = omega arith in let e : Some y ≡ Some x = sym is ∙ ap (slice_get order) same ∙ at in cc

    -- a node that leads back to itself has no type
    passed_by : marked marks x ≡ true → IsSoFar list through order (n + 1) found
    passed_by round = record {
      size = h.size;
      sound = h.sound;
      complete = λ k y t less is comes. elim (before_or k n) [
        | inl under ↦ h.complete k y t under is comes
        | inr over ↦ absurd (not_round x t (subst (λ z. ComesTo list through z t) (same_at k y less over is) comes) (ordered.cyclic.sound x round))
      ];
    }

    -- what is found at the node is right
    right : (s : Lead) (t : Denoted) → step_at list through x ≡ s → found_by found s ≡ Some t → ComesTo list through x t
    right (To m) t e is = along e (h.sound m t is)
    right (Is u) t e is = let same : u ≡ t = cc in here (e ∙ ap Is same)
    right Nowhere t e is = cc

    all : marked marks x ≡ false → (t : Denoted) → ComesTo list through x t → found_by found (step_at list through x) ≡ Some t
    all free t (here e) = ap (found_by found) e
    all free t (along {to = m} e more) = let before = earlier n x m at free e in ap (found_by found) e ∙ h.complete before.0 m t before.1 before.2 more

    taken : marked marks x ≡ false → IsSoFar list through order (n + 1) (set found x (found_by found (step_at list through x)))
    taken free = record {
      size = length-set found x (found_by found (step_at list through x)) ∙ h.size;
      sound = λ y t e. elim (same_or y x) [
        | inl same ↦ subst (λ z. ComesTo list through z t) (sym same) (right (step_at list through x) t refl (sym (read_same found x y (found_by found (step_at list through x)) same x_less) ∙ e))
        | inr differ ↦ h.sound y t (sym (read_other found x y (found_by found (step_at list through x)) differ) ∙ e)
      ];
      complete = λ k y t less is comes. elim (same_or y x) [
        | inl same ↦ read_same found x y (found_by found (step_at list through x)) same x_less ∙ all free t (subst (λ z. ComesTo list through z t) same comes)
        | inr differ ↦ elim (before_or k n) [
          | inl under ↦ read_other found x y (found_by found (step_at list through x)) differ ∙ h.complete k y t under is comes
          | inr over ↦ absurd (differ (same_at k y less over is))
        ]
      ];
    }

    pub so_far_more : IsSoFar list through order (n + 1) (settled list through marks x found)
    so_far_more = by_test (marked marks x) refl
      where
        by_test : (b : Bool) → marked marks x ≡ b → IsSoFar list through order (n + 1) (cond b found (set found x (found_by found (step_at list through x))))
        by_test true e = passed_by e
        by_test false e = taken e

  pub all_found : (n : ℕ) (found : List (Option Denoted)) → length order ≤ n → IsSoFar list through order n found → (x : ℕ) (t : Denoted) → (get_or found x None ≡ Some t) ↔ ComesTo list through x t
  all_found n found past h x t = (h.sound x t, complete)
    where
      within : ComesTo list through x t → x < length rows
      within comes = elim (before_or x (length list)) [
        | inl under ↦ let low : x < length rows = omega arith in low
        | inr over ↦ absurd (nowhere comes (nowhere_past list through x over))
      ]
        where
          nowhere : {y : ℕ} {u : Denoted} → ComesTo list through y u → step_at list through y ≡ Nowhere → ⊥
          nowhere (here e) none = cc
          nowhere (along e more) none = cc

      complete : ComesTo list through x t → get_or found x None ≡ Some t
      complete comes =
          let at = at_among x order (ordered.components.listed x (within comes)) in
          h.complete at.0 x t (let low = get_within order at.0 x at.1 in omega arith) at.1 comes
