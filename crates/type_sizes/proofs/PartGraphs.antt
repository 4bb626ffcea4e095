-- The graph of parts, a row at a time.
use Rattle.std.proofs.Common.{◌≡◌, ◌∙◌, inl, inr, sym, refl, ap, ℕ, zero, suc, ◌<◌, ◌+◌, Bool, true, false, cond, List, [], ◌∷◌, ◌++◌, length, take, map, slice_get, Some, append_assoc, append-nil, length-append, arith}
use Rattle.std.proofs.Math.ListN.{get_or}
use Rattle.std.proofs.lemmas.List.{map-append}
use Rattle.std.proofs.lemmas.Grind.{take_at_read}
use Rattle.go_base.specs.declared.ids.TypeId.{TypeId}
use Rattle.go_graph.specs.Graph.{next}
use Rattle.go_graph.proofs.Lists.{before_or, get_left, get_within, get_some}
use Rattle.go_type.specs.Levels.{is_seen}
use Rattle.go_type.specs.Same.{same_id, same_id-Decides}
use Rattle.go_type.specs.Table.{Table}
use Rattle.type_sizes.specs.Nesting.{whole_parts, IsRow, IsPartGraphTo}

-- ---- what was placed stays at its place

places_stay : (ids more : List TypeId) (row : List ℕ) (parts : List TypeId) → map (slice_get ids) row ≡ map Some parts → map (slice_get (ids ++ more)) row ≡ map Some parts
places_stay ids more [] [] e = refl
places_stay ids more [] (t ∷ parts) e = cc
places_stay ids more (r ∷ row) [] e = cc
places_stay ids more (r ∷ row) (t ∷ parts) e =
    let heads : slice_get ids r ≡ Some t = cc in
    let tails : map (slice_get ids) row ≡ map Some parts = cc in
    let head : slice_get (ids ++ more) r ≡ Some t = get_left ids more r t heads in
    let tail : map (slice_get (ids ++ more)) row ≡ map Some parts = places_stay ids more row parts tails in
    cc

inserted : (mid new : List TypeId) (x : TypeId) → new ≡ cond (is_seen mid x) mid (mid ++ x ∷ []) → (more : List TypeId) × (new ≡ mid ++ more)
inserted mid new x is = by (is_seen mid x) is
  where
    by : (b : Bool) → new ≡ cond b mid (mid ++ x ∷ []) → (more : List TypeId) × (new ≡ mid ++ more)
    by true e = ([], e ∙ sym (append-nil mid))
    by false e = (x ∷ [], e)

-- ---- one more place of a row

pub row_none : (ids : List TypeId) → IsRow [] ids ids []
row_none ids = record { kept = ([], sym (append-nil ids)); places = refl }

pub row_more : (parts : List TypeId) (i place : ℕ) (d key : TypeId) (old mid new : List TypeId) (row longer : List ℕ) → i < length parts → IsRow (take i parts) old mid row
    → new ≡ cond (is_seen mid (get_or parts i d)) mid (mid ++ get_or parts i d ∷ []) → slice_get new place ≡ Some key → same_id (get_or parts i d) key ≡ true → longer ≡ row ++ place ∷ []
    → IsRow (take (i + 1) parts) old new longer
row_more parts i place d key old mid new row longer h is added at same more = record {
  kept = (is.kept.0 ++ (grows.0), grows.1 ∙ ap (λ l. l ++ grows.0) is.kept.1 ∙ append_assoc old is.kept.0 grows.0);
  places =
      ap (map (slice_get new)) more ∙ map-append (slice_get new) row (place ∷ []) ∙ ap (λ l. l ++ slice_get new place ∷ []) before ∙ ap (λ o. map Some (take i parts) ++ o ∷ []) here
      ∙ sym (map-append Some (take i parts) (get_or parts i d ∷ [])) ∙ ap (map Some) (sym (take_at_read parts i d h).1);
}
  where
    grows : (m : List TypeId) × (new ≡ mid ++ m)
    grows = inserted mid new (get_or parts i d) added

    before : map (slice_get new) row ≡ map Some (take i parts)
    before = ap (λ l. map (slice_get l) row) grows.1 ∙ places_stay mid grows.0 row (take i parts) is.places

    here : slice_get new place ≡ Some (get_or parts i d)
    here = at ∙ ap Some (sym ((same_id-Decides (get_or parts i d) key).0 same))

-- ---- one more row of the graph

next_left : (rows : List (List ℕ)) (row : List ℕ) (k : ℕ) → k < length rows → next (rows ++ row ∷ []) k ≡ next rows k
next_left [] row k h = absurd (omega arith)
next_left (r ∷ rows) row zero h = refl
next_left (r ∷ rows) row (suc k) h = next_left rows row k (omega arith)

next_last : (rows : List (List ℕ)) (row : List ℕ) (k : ℕ) → k ≡ length rows → next (rows ++ row ∷ []) k ≡ row
next_last [] row zero h = refl
next_last [] row (suc k) h = absurd (omega arith)
next_last (r ∷ rows) row zero h = absurd (omega arith)
next_last (r ∷ rows) row (suc k) h = next_last rows row k (omega arith)

pub graph_none : (types : Table) (id : TypeId) (ids : List TypeId) → ids ≡ id ∷ [] → IsPartGraphTo types id ids []
graph_none types id ids is = record {
  first = ap (λ l. slice_get l 0) is;
  room = omega arith;
  parts = λ k x less at. absurd (omega arith);
}

pub graph_more : (types : Table) (id part : TypeId) (ids new parts : List TypeId) (rows : List (List ℕ)) (row : List ℕ) → IsPartGraphTo types id ids rows
    → slice_get ids (length rows) ≡ Some part → parts ≡ whole_parts types part → IsRow parts ids new row → IsPartGraphTo types id new (rows ++ row ∷ [])
graph_more types id part ids new parts rows row graph at are added = record {
  first = still 0 id graph.first;
  room = let inside = get_within new (length rows) part (still (length rows) part at) in let longer = length-append rows (row ∷ []) in omega arith;
  parts = λ k x less there. elim (before_or k (length rows)) [
    | inl before ↦ (let same = old_at k x before there in
        ap (map (slice_get new)) (next_left rows row k before) ∙ ap (λ l. map (slice_get l) (next rows k)) added.kept.1
        ∙ places_stay ids added.kept.0 (next rows k) (whole_parts types x) (graph.parts k x before same))
    | inr over ↦ (let longer = length-append rows (row ∷ []) in let last : k ≡ length rows = omega arith in
        let same : Some part ≡ Some x = sym (still (length rows) part at) ∙ ap (slice_get new) (sym last) ∙ there in
        let is : part ≡ x = cc in
        ap (map (slice_get new)) (next_last rows row k last) ∙ added.places ∙ ap (map Some) (are ∙ ap (whole_parts types) is))
  ];
}
  where
    still : (k : ℕ) (x : TypeId) → slice_get ids k ≡ Some x → slice_get new k ≡ Some x
    still k x h = ap (λ l. slice_get l k) added.kept.1 ∙ get_left ids added.kept.0 k x h

    old_at : (k : ℕ) (x : TypeId) → k < length rows → slice_get new k ≡ Some x → slice_get ids k ≡ Some x
    old_at k x less there =
        let room = graph.room in
        let some = get_some ids k (omega arith) in
        let same : Some some.0 ≡ Some x = sym (still k some.0 some.1) ∙ there in
        some.1 ∙ same
