-- Which types have a nesting, by the graph of their parts.
use Rattle.std.proofs.Common.{◌≡◌, ◌∙◌, inl, inr, sym, refl, ap, ℕ, zero, suc, ◌<◌, Bool, true, false, true≢false, not, ◌&&◌, cond, List, [], ◌∷◌, ◌++◌, length, map, slice_get, slice_index, slice_index_or, Option, Some, IsTrue, ◌↔◌, arith}
use Rattle.std.specs.List.{list_all, flat_map}
use Rattle.std.proofs.lemmas.List.Folds.{list_all-append}
use Rattle.go_base.specs.declared.ids.TypeId.{TypeId}
use Rattle.go_graph.specs.Graph.{IsAmong, Reaches, here, along, StandsOn, next, IsGraph, AreComponents}
use Rattle.go_graph.specs.Marks.{marked, AreMarks, AreReaching}
use Rattle.go_graph.proofs.Lists.{same_or, get_within, get_some}
use Rattle.go_type.specs.declared.term.Field.{Field}
use Rattle.go_type.specs.declared.term.MethodType.{MethodType}
use Rattle.go_type.specs.declared.term.TypeTerm.{TypeTerm}
use Rattle.go_type.specs.declared.term.TypeTerm.TheVariants.{Pointer, Slice, Array, Map, Chan, Func, Struct, Interface, Tuple, Iter}
use Rattle.go_type.specs.Same.{both, each}
use Rattle.go_type.specs.Sizes.{is_declared, parts_pass, nests_as_part, nests_within}
use Rattle.go_type.specs.Table.{Table, term_at, underlying_of}
use Rattle.type_sizes.specs.Nesting.{HasNesting, IsNestedAbove, whole, whole_in, whole_parts, IsPartGraph}

-- ---- a term's parts, as a list

all_split : (q : TypeId → Bool) (xs ys : List TypeId) → list_all q (xs ++ ys) ≡ true → (list_all q xs ≡ true) × (list_all q ys ≡ true)
all_split q xs ys h = both (list_all q xs) (list_all q ys) (sym (list_all-append q xs ys) ∙ h)

all_join : (q : TypeId → Bool) (xs ys : List TypeId) → list_all q xs ≡ true → list_all q ys ≡ true → list_all q (xs ++ ys) ≡ true
all_join q xs ys h k = list_all-append q xs ys ∙ each (list_all q xs) (list_all q ys) h k

fields_all : (q : TypeId → Bool) (fields : List Field) → list_all q (map (λ field. field.of) fields) ≡ list_all (λ (field : Field). q field.of) fields
fields_all q [] = refl
fields_all q (f ∷ fields) = ap (λ b. q f.of && b) (fields_all q fields)

module _ (types : Table) (part q : TypeId → Bool) where
  parts_down : {A : Type 0} (f : A → TypeId) → ((z : TypeId) → part z ≡ true → list_all q (whole types z) ≡ true) → (xs : List A) → list_all (λ x. part (f x)) xs ≡ true
      → list_all q (flat_map (λ x. whole types (f x)) xs) ≡ true
  parts_down f h [] e = refl
  parts_down f h (x ∷ xs) e =
      let parts = both (part (f x)) (list_all (λ y. part (f y)) xs) e in
      all_join q (whole types (f x)) (flat_map (λ y. whole types (f y)) xs) (h (f x) parts.0) (parts_down f h xs parts.1)

  parts_up : {A : Type 0} (f : A → TypeId) → ((z : TypeId) → list_all q (whole types z) ≡ true → part z ≡ true) → (xs : List A)
      → list_all q (flat_map (λ x. whole types (f x)) xs) ≡ true → list_all (λ x. part (f x)) xs ≡ true
  parts_up f h [] e = refl
  parts_up f h (x ∷ xs) e =
      let parts = all_split q (whole types (f x)) (flat_map (λ y. whole types (f y)) xs) e in
      each (part (f x)) (list_all (λ y. part (f y)) xs) (h (f x) parts.0) (parts_up f h xs parts.1)

  pass_down : ((z : TypeId) → part z ≡ true → list_all q (whole types z) ≡ true) → (t : Option TypeTerm) → parts_pass q part t ≡ true → list_all q (whole_in types t) ≡ true
  pass_down h (Some (Array len elem)) e = each (q elem) true e refl
  pass_down h (Some (Struct fields)) e = fields_all q fields ∙ e
  pass_down h (Some (Pointer elem)) e = h elem e
  pass_down h (Some (Slice elem)) e = h elem e
  pass_down h (Some (Map key elem)) e = let parts = both (part key) (part elem) e in all_join q (whole types key) (whole types elem) (h key parts.0) (h elem parts.1)
  pass_down h (Some (Chan dir elem)) e = h elem e
  pass_down h (Some (Func signature)) e =
      let parts = both (list_all part signature.params) (list_all part signature.results) e in
      all_join q (flat_map (whole types) signature.params) (flat_map (whole types) signature.results)
      (parts_down (λ (x : TypeId). x) h signature.params parts.0) (parts_down (λ (x : TypeId). x) h signature.results parts.1)
  pass_down h (Some (Interface methods)) e = parts_down (λ (method : MethodType). method.of) h methods e
  pass_down h (Some (Tuple ids)) e = parts_down (λ (x : TypeId). x) h ids e
  pass_down h (Some (Iter over)) e = h over e
  pass_down h _ e = refl

  pass_up : ((z : TypeId) → list_all q (whole types z) ≡ true → part z ≡ true) → (t : Option TypeTerm) → list_all q (whole_in types t) ≡ true → parts_pass q part t ≡ true
  pass_up h (Some (Array len elem)) e = (both (q elem) true e).0
  pass_up h (Some (Struct fields)) e = sym (fields_all q fields) ∙ e
  pass_up h (Some (Pointer elem)) e = h elem e
  pass_up h (Some (Slice elem)) e = h elem e
  pass_up h (Some (Map key elem)) e = let parts = all_split q (whole types key) (whole types elem) e in each (part key) (part elem) (h key parts.0) (h elem parts.1)
  pass_up h (Some (Chan dir elem)) e = h elem e
  pass_up h (Some (Func signature)) e =
      let parts = all_split q (flat_map (whole types) signature.params) (flat_map (whole types) signature.results) e in
      each (list_all part signature.params) (list_all part signature.results)
      (parts_up (λ (x : TypeId). x) h signature.params parts.0) (parts_up (λ (x : TypeId). x) h signature.results parts.1)
  pass_up h (Some (Interface methods)) e = parts_up (λ (method : MethodType). method.of) h methods e
  pass_up h (Some (Tuple ids)) e = parts_up (λ (x : TypeId). x) h ids e
  pass_up h (Some (Iter over)) e = h over e
  pass_up h _ e = refl

whole_down : (n : ℕ) (types : Table) (z : TypeId) → nests_as_part n (nests_within n types) types z ≡ true → list_all (nests_within n types) (whole types z) ≡ true
whole_down zero types z e = absurd (true≢false (sym e))
whole_down (suc n) types z e = by (is_declared (term_at types z)) e
  where
    by : (b : Bool) → cond b true (nests_within (suc n) types z) ≡ true → list_all (nests_within (suc n) types) (cond b [] (z ∷ [])) ≡ true
    by true k = refl
    by false k = each (nests_within (suc n) types z) true k refl

whole_up : (n : ℕ) (types : Table) (z : TypeId) → list_all (nests_within (suc n) types) (whole types z) ≡ true → nests_as_part (suc n) (nests_within (suc n) types) types z ≡ true
whole_up n types z e = by (is_declared (term_at types z)) e
  where
    by : (b : Bool) → list_all (nests_within (suc n) types) (cond b [] (z ∷ [])) ≡ true → cond b true (nests_within (suc n) types z) ≡ true
    by true k = refl
    by false k = (both (nests_within (suc n) types z) true k).0

-- a type that is nested has parts that are
nested_down : (n : ℕ) (types : Table) (x : TypeId) → nests_within (suc n) types x ≡ true → list_all (nests_within n types) (whole_parts types x) ≡ true
nested_down n types x e =
    pass_down types (nests_as_part n (nests_within n types) types) (nests_within n types) (whole_down n types) (term_at types (underlying_of types x)) e

nested_up : (n : ℕ) (types : Table) (x : TypeId) → list_all (nests_within (suc n) types) (whole_parts types x) ≡ true → nests_within (suc (suc n)) types x ≡ true
nested_up n types x e =
    pass_up types (nests_as_part (suc n) (nests_within (suc n) types) types) (nests_within (suc n) types) (whole_up n types) (term_at types (underlying_of types x)) e

-- ---- a row of the graph

row_part : (ids : List TypeId) (row : List ℕ) (parts : List TypeId) (y : ℕ) → map (slice_get ids) row ≡ map Some parts → IsAmong y row
    → (t : TypeId) × (slice_get ids y ≡ Some t) × ((q : TypeId → Bool) → list_all q parts ≡ true → q t ≡ true)
row_part ids [] parts y e is = absurd is
row_part ids (r ∷ row) [] y e is = cc
row_part ids (r ∷ row) (t ∷ parts) y e (inl same) =
    let heads : slice_get ids r ≡ Some t = cc in
    (t, ap (slice_get ids) same ∙ heads, λ q all. (both (q t) (list_all q parts) all).0)
row_part ids (r ∷ row) (t ∷ parts) y e (inr more) =
    let tails : map (slice_get ids) row ≡ map Some parts = cc in
    let found = row_part ids row parts y tails more in
    (found.0, found.1, λ q all. found.2 q (both (q t) (list_all q parts) all).1)

row_all : (ids : List TypeId) (q : TypeId → Bool) (row : List ℕ) (parts : List TypeId) → map (slice_get ids) row ≡ map Some parts
    → ((y : ℕ) (t : TypeId) → IsAmong y row → slice_get ids y ≡ Some t → q t ≡ true) → list_all q parts ≡ true
row_all ids q row [] e h = refl
row_all ids q [] (t ∷ parts) e h = cc
row_all ids q (r ∷ row) (t ∷ parts) e h =
    let heads : slice_get ids r ≡ Some t = cc in
    let tails : map (slice_get ids) row ≡ map Some parts = cc in
    each (q t) (list_all q parts) (h r t (inl refl) heads) (row_all ids q row parts tails (λ y u is at. h y u (inr is) at))

-- ---- one comes from a node to one that stands on itself

abbrev pub IsEndless : List (List ℕ) → ℕ → Type 0
IsEndless rows x = (e : ℕ) × Reaches (next rows) x e × StandsOn (next rows) e e

further : (rows : List (List ℕ)) (x e : ℕ) → Reaches (next rows) x e → StandsOn (next rows) e e → (y : ℕ) × IsAmong y (next rows x) × IsEndless rows y
further rows x e here stands = (stands.part, stands.is_part, (e, stands.rest, stands))
further rows x e (along {y = y} is more) stands = (y, is, (e, more, stands))

row_within : (rows : List (List ℕ)) (x y : ℕ) → IsAmong y (next rows x) → x < length rows
row_within [] x y h = absurd h
row_within (r ∷ rows) zero y h = omega arith
row_within (r ∷ rows) (suc x) y h = let less = row_within rows x y h in omega arith

module _ (types : Table) (id : TypeId) (rows : List (List ℕ)) (g : IsPartGraph types id rows) where
  pub is_graph : IsGraph rows
  is_graph x y is =
      let less = row_within rows x y is in
      let some = get_some g.ids x (let room = g.graph.room in omega arith) in
      let found = row_part g.ids (next rows x) (whole_parts types some.0) y (g.graph.parts x some.0 less some.1) is in
      let inside = get_within g.ids y found.0 found.1 in
      let all = g.all in
      omega arith

  pub first_within : 0 < length rows
  first_within = let inside = get_within g.ids 0 id g.graph.first in let all = g.all in omega arith

  -- none of the types from which one comes to such a node is nested within a number
  endless : (n k : ℕ) (x : TypeId) → slice_get g.ids k ≡ Some x → IsEndless rows k → nests_within n types x ≡ true → ⊥
  endless zero k x at h e = true≢false (sym e)
  endless (suc n) k x at h e =
      let to = further rows k h.0 h.1 h.2 in
      let found = row_part g.ids (next rows k) (whole_parts types x) to.0 (g.graph.parts k x (row_within rows k to.0 to.1) at) to.1 in
      endless n to.0 found.0 found.1 to.2 (found.2 (nests_within n types) (nested_down n types x e))

  -- and each other is nested within the number of its component and two more
  module _ (of order : List ℕ) (components : AreComponents rows of order) where
    finite : (c k : ℕ) (x : TypeId) → slice_get g.ids k ≡ Some x → slice_index of k < c → (IsEndless rows k → ⊥) → nests_within (suc c) types x ≡ true
    finite zero k x at less h = absurd (omega arith)
    finite (suc c) k x at less h =
        nested_up c types x (row_all g.ids (nests_within (suc c) types) (next rows k) (whole_parts types x) (g.graph.parts k x within at) (λ y t is there. finite c y t there (lower y is) (λ k. h (k.0, along is k.1, k.2))))
      where
        within : k < length rows
        within = let inside = get_within g.ids k x at in let all = g.all in omega arith

        lower : (y : ℕ) → IsAmong y (next rows k) → slice_index of y < c
        lower y is = elim (same_or (slice_index of y) (slice_index of k)) [
          | inl same ↦ absurd (h (k, here, record { part = y; is_part = is; rest = components.together y k (is_graph k y is) within same }))
          | inr differ ↦ (let down = components.downward k y is in omega (arith, differ))
        ]

    pub nesting : (marks flags : List Bool) (b : Bool) → AreMarks (length rows) (λ x. StandsOn (next rows) x x) marks → AreReaching rows of order marks flags
        → b ≡ not (marked flags (slice_index of 0)) → IsTrue b ↔ HasNesting types id
    nesting marks flags b standing reaching is = (
      λ yes. (suc (suc (slice_index of 0)), finite (suc (slice_index of 0)) 0 id g.graph.first (omega arith) (λ h. true≢false (sym yes ∙ is ∙ ap not (flagged h)))),
      λ nested. is ∙ ap not (unflagged (marked flags (slice_index of 0)) refl nested),
    )
      where
        flagged : IsEndless rows 0 → marked flags (slice_index of 0) ≡ true
        flagged h = reaching.complete 0 first_within (record {
          end = h.0;
          reaches = h.1;
          is_marked = standing.complete h.0 (row_within rows h.0 h.2.part h.2.is_part) h.2;
        })

        unflagged : (m : Bool) → marked flags (slice_index of 0) ≡ m → HasNesting types id → m ≡ false
        unflagged false e nested = refl
        unflagged true e nested =
            let mark = reaching.sound 0 first_within e in
            absurd (endless nested.0 0 id g.graph.first (mark.end, mark.reaches, standing.sound mark.end mark.is_marked) nested.1)

pub marked_read : (flags : List Bool) (i : ℕ) (r : Bool) → i < length flags → r ≡ slice_index_or flags i r → r ≡ marked flags i
marked_read [] i r less h = absurd (omega arith)
marked_read (f ∷ flags) zero r less h = h
marked_read (f ∷ flags) (suc i) r less h = marked_read flags i r (omega arith) h

-- a type that is not nested within a limit
pub above : (limit : ℕ) (types : Table) (id : TypeId) (b : Bool) → IsTrue b ↔ HasNesting types id → nests_within limit types id ≡ false → (not b ≡ false) ↔ IsNestedAbove limit types id
above limit types id true is h = (λ e. record { nested = is.0 refl; above = h }, λ nested. refl)
above limit types id false is h = (λ e. absurd (true≢false e), λ nested. absurd (true≢false (sym (is.1 nested.nested))))
