-- Lists of edges.
use Rattle.std.proofs.Common.{◌≡◌, ◌≢◌, ◌<◌, ◌≤◌, ◌+◌, ◌∙◌, ℕ, suc, zero, Bool, true, false, List, [], ◌∷◌, ◌++◌, inl, inr, length, take, get_or, refl, sym, ap, subst, arith, add-one, eq-eqb, All}
use Rattle.std.proofs.Math.ListN.{set}
use Rattle.std.specs.Prelude.{◌&&◌, not, nat_eq, slice_index, if◌then◌else◌}
use Rattle.std.proofs.lemmas.Bool.{eqb-true}
use Rattle.go_graph.specs.Graph.{IsAmong, IsGraph, next}
use Rattle.go_graph.proofs.Lists.{among_split, among_left, among_right, same_or}
use Rattle.init_order.specs.declared.edges.Edge.{Edge}
use Rattle.init_order.specs.Groups.{AreGroupEdges, AreEdgesBelow, edge_between, edges_to, waits, sources}
use Rattle.init_order.proofs.Counting.{by_bool}

pub not_eqb : (x y : ℕ) → x ≢ y → nat_eq x y ≡ false
not_eqb x y differ = elim (by_bool (nat_eq x y)) [ inl e ↦ absurd (differ (eqb-true x y e)) | inr e ↦ e ]

take_suc : {A : Type 0} (xs : List A) (i : ℕ) (d : A) → i < length xs → take (suc i) xs ≡ take i xs ++ get_or xs i d ∷ []
take_suc [] i d less = absurd (omega arith)
take_suc (x ∷ xs) zero d less = refl
take_suc (x ∷ xs) (suc i) d less = ap (λ l. x ∷ l) (take_suc xs i d (omega arith))

pub take_more : {A : Type 0} (xs : List A) (i : ℕ) (d : A) → i < length xs → take (i + 1) xs ≡ take i xs ++ get_or xs i d ∷ []
take_more xs i d less = rw add-one (take_suc xs i d less)

pub take_whole : {A : Type 0} (xs : List A) (i : ℕ) → length xs ≤ i → take i xs ≡ xs
take_whole [] zero less = refl
take_whole [] (suc i) less = refl
take_whole (x ∷ xs) zero less = absurd (omega arith)
take_whole (x ∷ xs) (suc i) less = ap (λ l. x ∷ l) (take_whole xs i (omega arith))

pub among_get : {A : Type 0} (xs : List A) (i : ℕ) (d : A) → i < length xs → IsAmong (get_or xs i d) xs
among_get [] i d less = absurd (omega arith)
among_get (x ∷ xs) zero d less = inl refl
among_get (x ∷ xs) (suc i) d less = inr (among_get xs i d (omega arith))

pub edge_at : (edges : List Edge) (i : ℕ) (d : Edge) → i < length edges → IsAmong (get_or edges i d) edges
edge_at edges i d less = among_get edges i d less

sources_end_by : (b : Bool) (x : ℕ) (xs ys : List ℕ) → (if b then x ∷ (xs ++ ys) else xs ++ ys) ≡ (if b then x ∷ xs else xs) ++ ys
sources_end_by true x xs ys = refl
sources_end_by false x xs ys = refl

sources_end : (edges : List Edge) (e : Edge) (h : ℕ) → sources (edges ++ e ∷ []) h ≡ sources edges h ++ (if nat_eq e.enters h then e.leaves ∷ [] else [])
sources_end [] e h = refl
sources_end (d ∷ edges) e h =
    ap (λ l. if nat_eq d.enters h then d.leaves ∷ l else l) (sources_end edges e h)
    ∙ sources_end_by (nat_eq d.enters h) d.leaves (sources edges h) (if nat_eq e.enters h then e.leaves ∷ [] else [])

next_same : (rows : List (List ℕ)) (i : ℕ) (v : List ℕ) → i < length rows → next (set rows i v) i ≡ v
next_same [] i v less = absurd (omega arith)
next_same (r ∷ rows) zero v less = refl
next_same (r ∷ rows) (suc i) v less = next_same rows i v (omega arith)

next_other : (rows : List (List ℕ)) (i j : ℕ) (v : List ℕ) → j ≢ i → next (set rows i v) j ≡ next rows j
next_other [] i j v differ = refl
next_other (r ∷ rows) zero zero v differ = absurd (differ refl)
next_other (r ∷ rows) zero (suc j) v differ = refl
next_other (r ∷ rows) (suc i) zero v differ = refl
next_other (r ∷ rows) (suc i) (suc j) v differ = next_other rows i j v (λ e. differ (ap suc e))

append_nil : {A : Type 0} (xs : List A) → xs ++ [] ≡ xs
append_nil [] = refl
append_nil (x ∷ xs) = ap (λ l. x ∷ l) (append_nil xs)

pub source_more : (edges : List Edge) (i : ℕ) (d : Edge) (rows new : List (List ℕ)) (count : ℕ) → i < length edges → (get_or edges i d).enters < length rows
    → new ≡ set rows (get_or edges i d).enters (next rows (get_or edges i d).enters ++ (get_or edges i d).leaves ∷ [])
    → ((g : ℕ) → g < count → next rows g ≡ sources (take i edges) g) → (g : ℕ) → g < count → next new g ≡ sources (take (i + 1) edges) g
source_more edges i d rows new count less room is so_far g low =
    let e = get_or edges i d in
    let whole = ap (λ l. sources l g) (take_more edges i d less) ∙ sources_end (take i edges) e g in
    elim (same_or g e.enters) [
      | inl same ↦
          ap (λ l. next l g) is ∙ ap (next (set rows e.enters (next rows e.enters ++ e.leaves ∷ []))) same ∙ next_same rows e.enters (next rows e.enters ++ e.leaves ∷ []) room
          ∙ ap (λ k. next rows k ++ e.leaves ∷ []) (sym same) ∙ ap (λ l. l ++ e.leaves ∷ []) (so_far g low)
          ∙ sym (whole ∙ ap (λ b. sources (take i edges) g ++ (if b then e.leaves ∷ [] else [])) (eq-eqb e.enters g (sym same)))
      | inr differ ↦
          ap (λ l. next l g) is ∙ next_other rows e.enters g (next rows e.enters ++ e.leaves ∷ []) differ ∙ so_far g low
          ∙ sym (whole ∙ ap (λ b. sources (take i edges) g ++ (if b then e.leaves ∷ [] else [])) (not_eqb e.enters g (λ k. differ (sym k))) ∙ append_nil (sources (take i edges) g))
    ]

-- the edges of one more node
between_by : (e : Edge) (a b : ℕ) (t : Bool) → nat_eq a b ≡ t → IsAmong e (if t then [] else (let x : Edge = record { leaves = a; enters = b } in x) ∷ []) → (e.leaves ≡ a) × (e.enters ≡ b) × (a ≢ b)
between_by e a b true same h = absurd h
between_by e a b false same (inl is) = (ap (λ (x : Edge). x.leaves) is, ap (λ (x : Edge). x.enters) is, λ k. (let f = eq-eqb a b k in cc))
between_by e a b false same (inr h) = absurd h

among_between : (e : Edge) (a b : ℕ) → IsAmong e (edge_between a b) → (e.leaves ≡ a) × (e.enters ≡ b) × (a ≢ b)
among_between e a b h = between_by e a b (nat_eq a b) refl h

between_has : (a b : ℕ) → a ≢ b → IsAmong (record { leaves = a; enters = b }) (edge_between a b)
between_has a b differ = subst (λ t. IsAmong (let x : Edge = record { leaves = a; enters = b } in x) (if t then [] else (let x : Edge = record { leaves = a; enters = b } in x) ∷ [])) (sym (not_eqb a b differ)) (inl refl)

-- an edge that stands among those to targets
pub record ToTarget (of : List ℕ) (g : ℕ) (ys : List ℕ) (e : Edge) : Type 0 where
  pub y : ℕ
  pub is_target : IsAmong y ys
  pub leaves_it : e.leaves ≡ g
  pub enters_it : e.enters ≡ slice_index of y
  pub differ : g ≢ slice_index of y

among_to : (of : List ℕ) (g : ℕ) (ys : List ℕ) (e : Edge) → IsAmong e (edges_to of g ys) → ToTarget of g ys e
among_to of g [] e h = absurd h
among_to of g (y ∷ ys) e h =
    elim (among_split e (edge_between g (slice_index of y)) (edges_to of g ys) h) [
      | inl k ↦ (let f = among_between e g (slice_index of y) k in record { y = y; is_target = inl refl; leaves_it = f.0; enters_it = f.1; differ = f.2 })
      | inr k ↦ (let f = among_to of g ys e k in record { y = f.y; is_target = inr f.is_target; leaves_it = f.leaves_it; enters_it = f.enters_it; differ = f.differ })
    ]

to_has : (of : List ℕ) (g y : ℕ) (ys : List ℕ) → IsAmong y ys → g ≢ slice_index of y → IsAmong (record { leaves = g; enters = slice_index of y }) (edges_to of g ys)
to_has of g y [] h differ = absurd h
to_has of g y (x ∷ ys) (inl e) differ =
    among_left _ (edge_between g (slice_index of x)) (edges_to of g ys)
    (subst (λ z. IsAmong (let k : Edge = record { leaves = g; enters = slice_index of y } in k) (edge_between g (slice_index of z))) e (between_has g (slice_index of y) differ))
to_has of g y (x ∷ ys) (inr h) differ = among_right _ (edge_between g (slice_index of x)) (edges_to of g ys) (to_has of g y ys h differ)

pub none_below : (rows : List (List ℕ)) (of : List ℕ) → AreEdgesBelow rows of 0 []
none_below rows of = record { sound = λ e h. absurd h; complete = λ a b k less. absurd (omega arith) }

pub node_more : (rows : List (List ℕ)) (of : List ℕ) (x : ℕ) (edges new : List Edge) → AreEdgesBelow rows of x edges → new ≡ edges ++ edges_to of (slice_index of x) (next rows x)
    → AreEdgesBelow rows of (x + 1) new
node_more rows of x edges new was is =
    record {
      sound = λ e h. elim (among_split e edges (edges_to of (slice_index of x) (next rows x)) (subst (IsAmong e) is h)) [
        | inl old ↦ was.sound e old
        | inr k ↦ (
            let f = among_to of (slice_index of x) (next rows x) e k in
            record { x = x; y = f.y; is_edge = f.is_target; leaves = sym f.leaves_it; enters = sym f.enters_it; differ = λ same. f.differ (sym f.leaves_it ∙ same ∙ f.enters_it) }
            )
      ];
      complete = λ a b k less. subst (IsAmong (record { leaves = a; enters = b })) (sym is) (elim (same_or k.x x) [
        | inl same ↦ among_right _ edges (edges_to of (slice_index of x) (next rows x)) (
            let from : slice_index of x ≡ a = ap (slice_index of) (sym same) ∙ k.leaves in
            let there = to_has of (slice_index of x) k.y (next rows x) (subst (λ z. IsAmong k.y (next rows z)) same k.is_edge) (λ e. k.differ (sym from ∙ e ∙ k.enters)) in
            subst (λ c. IsAmong (let z : Edge = record { leaves = a; enters = c } in z) (edges_to of (slice_index of x) (next rows x))) k.enters
            (subst (λ c. IsAmong (let z : Edge = record { leaves = c; enters = slice_index of k.y } in z) (edges_to of (slice_index of x) (next rows x))) from there)
            )
        | inr other ↦ among_left _ edges (edges_to of (slice_index of x) (next rows x)) (was.complete a b k (omega arith))
      ]);
    }

row_less : (rows : List (List ℕ)) (x y : ℕ) → IsAmong y (next rows x) → x < length rows
row_less [] x y h = absurd h
row_less (r ∷ rows) zero y h = omega arith
row_less (r ∷ rows) (suc x) y h = let less = row_less rows x y h in omega arith

pub all_below : (rows : List (List ℕ)) (of : List ℕ) (x : ℕ) (edges : List Edge) → AreEdgesBelow rows of x edges → length rows ≤ x → AreGroupEdges rows of edges
all_below rows of x edges was end =
    record { sound = was.sound; complete = λ a b k. was.complete a b k (let less = row_less rows k.x k.y k.is_edge in omega arith) }

end_none : (b : Bool) → (if b && not false then suc 0 else 0) ≡ 0 + (if b then 1 else 0)
end_none true = omega arith
end_none false = omega arith

end_more : (b : Bool) (W V k : ℕ) → V ≡ W + k → (if b && not false then suc V else V) ≡ (if b && not false then suc W else W) + k
end_more true W V k e = omega arith
end_more false W V k e = e

waits_end : (edges : List Edge) (e : Edge) (g : ℕ) → waits (edges ++ e ∷ []) [] g ≡ waits edges [] g + (if nat_eq e.leaves g then 1 else 0)
waits_end [] e g = end_none (nat_eq e.leaves g)
waits_end (d ∷ edges) e g = end_more (nat_eq d.leaves g) (waits edges [] g) (waits (edges ++ e ∷ []) [] g) (if nat_eq e.leaves g then 1 else 0) (waits_end edges e g)

bound_by : (b : Bool) (W n : ℕ) → W ≤ n → (if b && not false then suc W else W) ≤ suc n
bound_by true W n le = omega arith
bound_by false W n le = omega arith

pub waits_bound : (edges : List Edge) (g : ℕ) → waits edges [] g ≤ length edges
waits_bound [] g = omega arith
waits_bound (d ∷ edges) g = bound_by (nat_eq d.leaves g) (waits edges [] g) (length edges) (waits_bound edges g)

index_same : (xs : List ℕ) (i v : ℕ) → i < length xs → slice_index (set xs i v) i ≡ v
index_same [] i v less = absurd (omega arith)
index_same (x ∷ xs) zero v less = refl
index_same (x ∷ xs) (suc i) v less = index_same xs i v (omega arith)

index_other : (xs : List ℕ) (i j v : ℕ) → j ≢ i → slice_index (set xs i v) j ≡ slice_index xs j
index_other [] i j v differ = refl
index_other (x ∷ xs) zero zero v differ = absurd (differ refl)
index_other (x ∷ xs) zero (suc j) v differ = refl
index_other (x ∷ xs) (suc i) zero v differ = refl
index_other (x ∷ xs) (suc i) (suc j) v differ = index_other xs i j v (λ e. differ (ap suc e))

pub count_more : (edges : List Edge) (i : ℕ) (d : Edge) (counts : List ℕ) (count : ℕ) → i < length edges → (get_or edges i d).leaves < length counts
    → ((g : ℕ) → g < count → slice_index counts g ≡ waits (take i edges) [] g + 1)
    → (g : ℕ) → g < count → slice_index (set counts (get_or edges i d).leaves (slice_index counts (get_or edges i d).leaves + 1)) g ≡ waits (take (i + 1) edges) [] g + 1
count_more edges i d counts count less room so_far g low =
    let e = get_or edges i d in
    let whole = ap (λ l. waits l [] g) (take_more edges i d less) ∙ waits_end (take i edges) e g in
    elim (same_or g e.leaves) [
      | inl same ↦ (
          let one = whole ∙ ap (λ b. waits (take i edges) [] g + (if b then 1 else 0)) (eq-eqb e.leaves g (sym same)) in
          let at = ap (slice_index (set counts e.leaves (slice_index counts e.leaves + 1))) same ∙ index_same counts e.leaves (slice_index counts e.leaves + 1) room ∙ ap (λ k. slice_index counts k + 1) (sym same) in
          let old = so_far g low in
          omega arith
          )
      | inr differ ↦ (
          let none = whole ∙ ap (λ b. waits (take i edges) [] g + (if b then 1 else 0)) (not_eqb e.leaves g (λ k. differ (sym k))) in
          let at = index_other counts e.leaves g (slice_index counts e.leaves + 1) differ in
          let old = so_far g low in
          omega arith
          )
    ]

pub targets_in : (rows : List (List ℕ)) (of : List ℕ) (x : ℕ) → IsGraph rows → length of ≡ length rows → All (λ y. y < length of) (next rows x)
targets_in rows of x graph size = λ k d less. (let low = graph x _ (among_get (next rows x) k d less) in omega arith)

pub take_length : {A : Type 0} (xs : List A) (i : ℕ) → length (take i xs) ≤ i
take_length [] zero = omega arith
take_length [] (suc i) = omega arith
take_length (x ∷ xs) zero = omega arith
take_length (x ∷ xs) (suc i) = let less = take_length xs i in omega arith
