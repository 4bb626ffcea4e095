-- What the components say of what stands on what.
use Rattle.std.proofs.Common.{◌≡◌, ◌≢◌, ◌⊎◌, ◌∙◌, inl, inr, sym, refl, ap, subst, ℕ, zero, suc, ◌<◌, ◌≤◌, ◌+◌, Bool, true, false, cond, not, ◌&&◌, ◌||◌, List, [], ◌∷◌, ◌++◌, length, set, replicate, slice_get, slice_index, slice_index_or, nat_eq, All, Some, arith}
use Rattle.std.proofs.lemmas.List.{length-set}
use Rattle.std.proofs.lemmas.Bool.{eqb-true, eqb-false, eq-eqb}
use Rattle.go_graph.specs.Graph.{IsAmong, Reaches, here, along, StandsOn, next, IsGraph, AreComponents, IsOrdered}
use Rattle.go_graph.specs.Marks.{marked, AreMarks, has_component, has_flag, flagged, ReachesMark, AreReaching, leaves}
use Rattle.go_graph.proofs.Lists.{same_or, before_or, among_at, at_among, get_within, trans}

pub among_get : {A : Type 0} (xs : List A) (k : ℕ) (d : A) → k < length xs → IsAmong (slice_index_or xs k d) xs
among_get [] k d h = absurd (omega arith)
among_get (x ∷ xs) zero d h = inl refl
among_get (x ∷ xs) (suc k) d h = inr (among_get xs k d (omega arith))

-- a test of two tests
or_split : (a b : Bool) → (a || b) ≡ true → (a ≡ true) ⊎ (b ≡ true)
or_split true b h = inl refl
or_split false b h = inr h

or_right : (a b : Bool) → b ≡ true → (a || b) ≡ true
or_right true b h = refl
or_right false b h = h

or_left : (a b : Bool) → a ≡ true → (a || b) ≡ true
or_left a b h = rw h refl

pub test_or : (b : Bool) → (b ≡ true) ⊎ (b ≡ false)
test_or true = inl refl
test_or false = inr refl

pub marked_within : (marks : List Bool) (x : ℕ) → marked marks x ≡ true → x < length marks
marked_within [] x h = cc
marked_within (m ∷ marks) zero h = omega arith
marked_within (m ∷ marks) (suc x) h = let less = marked_within marks x h in omega arith

pub marked_left : (marks : List Bool) (b : Bool) (x : ℕ) → x < length marks → marked (marks ++ b ∷ []) x ≡ marked marks x
marked_left [] b x h = absurd (omega arith)
marked_left (m ∷ marks) b zero h = refl
marked_left (m ∷ marks) b (suc x) h = marked_left marks b x (omega arith)

pub marked_last : (marks : List Bool) (b : Bool) (x : ℕ) → x ≡ length marks → marked (marks ++ b ∷ []) x ≡ b
marked_last [] b zero h = refl
marked_last [] b (suc x) h = absurd (omega arith)
marked_last (m ∷ marks) b zero h = absurd (omega arith)
marked_last (m ∷ marks) b (suc x) h = marked_last marks b x (omega arith)

pub marks_more : (f : ℕ → Bool) (marks : List Bool) (n : ℕ) (b : Bool) → length marks ≡ n → ((x : ℕ) → x < n → marked marks x ≡ f x) → b ≡ f n → (x : ℕ) → x < n + 1 → marked (marks ++ b ∷ []) x ≡ f x
marks_more f marks n b len h is x less = elim (before_or x n) [
  | inl under ↦ marked_left marks b x (omega arith) ∙ h x under
  | inr over ↦ (let same : x ≡ n = omega arith in marked_last marks b x (omega arith) ∙ is ∙ ap f (sym same))
]

pub marked_set_same : (marks : List Bool) (x y : ℕ) → y ≡ x → x < length marks → marked (set marks x true) y ≡ true
marked_set_same [] x y e h = absurd (omega arith)
marked_set_same (m ∷ marks) zero zero e h = refl
marked_set_same (m ∷ marks) zero (suc y) e h = absurd (omega arith)
marked_set_same (m ∷ marks) (suc x) zero e h = absurd (omega arith)
marked_set_same (m ∷ marks) (suc x) (suc y) e h = marked_set_same marks x y (omega arith) (omega arith)

pub marked_set_other : (marks : List Bool) (x y : ℕ) → y ≢ x → marked (set marks x true) y ≡ marked marks y
marked_set_other [] x y ne = refl
marked_set_other (m ∷ marks) zero zero ne = absurd (ne refl)
marked_set_other (m ∷ marks) zero (suc y) ne = refl
marked_set_other (m ∷ marks) (suc x) zero ne = refl
marked_set_other (m ∷ marks) (suc x) (suc y) ne = marked_set_other marks x y (λ e. ne (ap suc e))

pub marked_set_on : (marks : List Bool) (x y : ℕ) → marked marks y ≡ true → marked (set marks x true) y ≡ true
marked_set_on marks x y h = elim (same_or y x) [
  | inl same ↦ (let less = marked_within marks y h in marked_set_same marks x y same (omega arith))
  | inr differ ↦ marked_set_other marks x y differ ∙ h
]

pub marked_none : (n x : ℕ) → marked (replicate n false) x ≡ false
marked_none zero x = refl
marked_none (suc n) zero = refl
marked_none (suc n) (suc x) = marked_none n x

pub length_none : (n : ℕ) → length (replicate n false) ≡ n
length_none zero = refl
length_none (suc n) = ap suc (length_none n)

-- what a loop over the nodes of a row finds
pub has_component_sound : (of : List ℕ) (g : ℕ) (xs : List ℕ) → has_component of g xs ≡ true → (y : ℕ) × IsAmong y xs × (slice_index of y ≡ g)
has_component_sound of g [] h = cc
has_component_sound of g (x ∷ xs) h = elim (or_split (nat_eq (slice_index of x) g) (has_component of g xs) h) [
  | inl first ↦ (x, inl refl, eqb-true (slice_index of x) g first)
  | inr rest ↦ (let found = has_component_sound of g xs rest in (found.0, inr found.1, found.2))
]

pub has_component_complete : (of : List ℕ) (g y : ℕ) (xs : List ℕ) → IsAmong y xs → slice_index of y ≡ g → has_component of g xs ≡ true
has_component_complete of g y [] h e = absurd h
has_component_complete of g y (x ∷ xs) (inl same) e = or_left (nat_eq (slice_index of x) g) (has_component of g xs) (eq-eqb (slice_index of x) g (ap (slice_index of) (sym same) ∙ e))
has_component_complete of g y (x ∷ xs) (inr more) e = or_right (nat_eq (slice_index of x) g) (has_component of g xs) (has_component_complete of g y xs more e)

pub has_flag_sound : (of : List ℕ) (flags : List Bool) (xs : List ℕ) → has_flag of flags xs ≡ true → (y : ℕ) × IsAmong y xs × (marked flags (slice_index of y) ≡ true)
has_flag_sound of flags [] h = cc
has_flag_sound of flags (x ∷ xs) h = elim (or_split (marked flags (slice_index of x)) (has_flag of flags xs) h) [
  | inl first ↦ (x, inl refl, first)
  | inr rest ↦ (let found = has_flag_sound of flags xs rest in (found.0, inr found.1, found.2))
]

pub has_flag_complete : (of : List ℕ) (flags : List Bool) (y : ℕ) (xs : List ℕ) → IsAmong y xs → marked flags (slice_index of y) ≡ true → has_flag of flags xs ≡ true
has_flag_complete of flags y [] h e = absurd h
has_flag_complete of flags y (x ∷ xs) (inl same) e = or_left (marked flags (slice_index of x)) (has_flag of flags xs) (ap (λ n. marked flags (slice_index of n)) (sym same) ∙ e)
has_flag_complete of flags y (x ∷ xs) (inr more) e = or_right (marked flags (slice_index of x)) (has_flag of flags xs) (has_flag_complete of flags y xs more e)

pub leaves_sound : (of : List ℕ) (flags : List Bool) (g : ℕ) (xs : List ℕ) → leaves of flags g xs ≡ true → (y : ℕ) × IsAmong y xs × (slice_index of y ≢ g) × (marked flags (slice_index of y) ≡ true)
leaves_sound of flags g [] h = cc
leaves_sound of flags g (x ∷ xs) h = elim (or_split (not (nat_eq (slice_index of x) g) && marked flags (slice_index of x)) (leaves of flags g xs) h) [
  | inl first ↦ (let both = parts (nat_eq (slice_index of x) g) (marked flags (slice_index of x)) first in (x, inl refl, eqb-false (slice_index of x) g both.0, both.1))
  | inr rest ↦ (let found = leaves_sound of flags g xs rest in (found.0, inr found.1, found.2, found.3))
]
  where
    parts : (a b : Bool) → (not a && b) ≡ true → (a ≡ false) × (b ≡ true)
    parts true b h = cc
    parts false b h = (refl, h)

pub leaves_complete : (of : List ℕ) (flags : List Bool) (g y : ℕ) (xs : List ℕ) → IsAmong y xs → slice_index of y ≢ g → marked flags (slice_index of y) ≡ true → leaves of flags g xs ≡ true
leaves_complete of flags g y [] h ne e = absurd h
leaves_complete of flags g y (x ∷ xs) (inl same) ne e =
    or_left (not (nat_eq (slice_index of x) g) && marked flags (slice_index of x)) (leaves of flags g xs)
    (parts (nat_eq (slice_index of x) g) (marked flags (slice_index of x)) (λ t. ne (ap (slice_index of) same ∙ eqb-true (slice_index of x) g t)) (ap (λ n. marked flags (slice_index of n)) (sym same) ∙ e))
  where
    parts : (a b : Bool) → a ≢ true → b ≡ true → (not a && b) ≡ true
    parts true b h e = absurd (h refl)
    parts false b h e = e
leaves_complete of flags g y (x ∷ xs) (inr more) ne e = or_right (not (nat_eq (slice_index of x) g) && marked flags (slice_index of x)) (leaves of flags g xs) (leaves_complete of flags g y xs more ne e)

-- the marks of components, as far as the loop has come
pub record AreSoFar (rows : List (List ℕ)) (of order : List ℕ) (marks flags : List Bool) (n : ℕ) : Type 0 where
  pub size : length flags ≡ length order
  pub sound : (x : ℕ) → x < length rows → marked flags (slice_index of x) ≡ true → ReachesMark rows marks x
  pub seeds : (k x : ℕ) → k < n → slice_get order k ≡ Some x → marked marks x ≡ true → marked flags (slice_index of x) ≡ true
  pub closed : (k x y : ℕ) → k < n → slice_get order k ≡ Some x → IsAmong y (next rows x) → marked flags (slice_index of y) ≡ true → marked flags (slice_index of x) ≡ true

-- of components
module _ (rows : List (List ℕ)) (of order : List ℕ) (graph : IsGraph rows) (g : AreComponents rows of order) where
  pub targets_below : (x : ℕ) → All (λ y. y < length of) (next rows x)
  targets_below x = λ k d less. (let low = graph x _ (among_get (next rows x) k d less) in let size = g.sizes in omega arith)

  pub reach_down : (x y : ℕ) → Reaches (next rows) x y → slice_index of y ≤ slice_index of x
  reach_down x y here = omega arith
  reach_down x y (along {y = z} edge more) = let one = g.downward x z edge in let two = reach_down z y more in omega arith

  pub on_sound : (x : ℕ) → x < length rows → has_component of (slice_index of x) (next rows x) ≡ true → StandsOn (next rows) x x
  on_sound x less h =
      let found = has_component_sound of (slice_index of x) (next rows x) h in
      record { part = found.0; is_part = found.1; rest = g.together found.0 x (graph x found.0 found.1) less found.2 }

  pub on_complete : (x : ℕ) → StandsOn (next rows) x x → has_component of (slice_index of x) (next rows x) ≡ true
  on_complete x s =
      let one = g.downward x s.part s.is_part in
      let two = reach_down s.part x s.rest in
      has_component_complete of (slice_index of x) s.part (next rows x) s.is_part (omega arith)

  pub on_marks : (marks : List Bool) (n : ℕ) → n ≡ length rows → length marks ≡ n → ((x : ℕ) → x < n → marked marks x ≡ has_component of (slice_index of x) (next rows x)) → AreMarks n (λ x. StandsOn (next rows) x x) marks
  on_marks marks n size len h = record {
    size = len;
    sound = λ x e. (let less = marked_within marks x e in on_sound x (omega arith) (sym (h x (omega arith)) ∙ e));
    complete = λ x less s. h x less ∙ on_complete x s;
  }

  pub so_far_none : (marks flags : List Bool) → flags ≡ replicate (length order) false → AreSoFar rows of order marks flags 0
  so_far_none marks flags e = record {
    size = ap length e ∙ length_none (length order);
    sound = λ x less h. (let none = ap (λ l. marked l (slice_index of x)) e ∙ marked_none (length order) (slice_index of x) in cc);
    seeds = λ k x less. absurd (omega arith);
    closed = λ k x y less. absurd (omega arith);
  }

  -- a node's component is not before those of the nodes that stood before it
  pub ordered_at : (xs : List ℕ) (j k x y : ℕ) → IsOrdered of xs → j ≤ k → slice_get xs j ≡ Some x → slice_get xs k ≡ Some y → slice_index of x ≤ slice_index of y
  ordered_at [] j k x y h le a b = cc
  ordered_at (z ∷ xs) zero zero x y h le a b = let same : x ≡ y = cc in rw same (omega arith)
  ordered_at (z ∷ xs) zero (suc k) x y h le a b = let same : z ≡ x = cc in subst (λ n. slice_index of n ≤ slice_index of y) same (h.0 y (among_at xs k y b))
  ordered_at (z ∷ xs) (suc j) zero x y h le a b = absurd (omega arith)
  ordered_at (z ∷ xs) (suc j) (suc k) x y h le a b = ordered_at xs j k x y h.1 (omega arith) a b

  -- one more node, by whether its component is to be marked
  module _ (marks flags : List Bool) (n x : ℕ) (h : AreSoFar rows of order marks flags n) (at : slice_get order n ≡ Some x) where
    x_less : x < length rows
    x_less = g.nodes x (among_at order n x at)

    x_component : slice_index of x < length flags
    x_component = let less = g.within x x_less in let size = h.size in omega arith

    reach_x : (marked marks x || has_flag of flags (next rows x)) ≡ true → ReachesMark rows marks x
    reach_x hit = elim (or_split (marked marks x) (has_flag of flags (next rows x)) hit) [
      | inl seed ↦ record { end = x; reaches = here; is_marked = seed }
      | inr flag ↦ (
          let found = has_flag_sound of flags (next rows x) flag in
          let more = h.sound found.0 (graph x found.0 found.1) found.2 in
          record { end = more.end; reaches = along found.1 more.reaches; is_marked = more.is_marked }
          )
    ]

    hit_more : (marked marks x || has_flag of flags (next rows x)) ≡ true → AreSoFar rows of order marks (set flags (slice_index of x) true) (n + 1)
    hit_more hit = record {
      size = length-set flags (slice_index of x) true ∙ h.size;
      sound = λ y less e. elim (same_or (slice_index of y) (slice_index of x)) [
        | inl same ↦ (let more = reach_x hit in record { end = more.end; reaches = trans (g.together y x less x_less same) more.reaches; is_marked = more.is_marked })
        | inr differ ↦ h.sound y less (sym (marked_set_other flags (slice_index of x) (slice_index of y) differ) ∙ e)
      ];
      seeds = λ k y less is e. elim (before_or k n) [
        | inl under ↦ marked_set_on flags (slice_index of x) (slice_index of y) (h.seeds k y under is e)
        | inr over ↦ marked_set_same flags (slice_index of x) (slice_index of y) (ap (slice_index of) (same_at k y less over is)) x_component
      ];
      closed = λ k y z less is edge e. elim (before_or k n) [
        | inr over ↦ marked_set_same flags (slice_index of x) (slice_index of y) (ap (slice_index of) (same_at k y less over is)) x_component
        | inl under ↦ elim (same_or (slice_index of z) (slice_index of x)) [
          | inr differ ↦ marked_set_on flags (slice_index of x) (slice_index of y) (h.closed k y z under is edge (sym (marked_set_other flags (slice_index of x) (slice_index of z) differ) ∙ e))
          | inl same ↦ (
              let one = g.downward y z edge in
              let two = ordered_at order k n y x g.ordered (omega arith) is at in
              marked_set_same flags (slice_index of x) (slice_index of y) (omega arith) x_component
              )
        ]
      ];
    }
      where
        same_at : (k y : ℕ) → k < n + 1 → n ≤ k → slice_get order k ≡ Some y → y ≡ x
        same_at k y less over is = let same : k ≡ n = omega arith in let e : Some y ≡ Some x = sym is ∙ ap (slice_get order) same ∙ at in cc

    miss_more : (marked marks x || has_flag of flags (next rows x)) ≡ false → AreSoFar rows of order marks flags (n + 1)
    miss_more miss = record {
      size = h.size;
      sound = h.sound;
      seeds = λ k y less is e. elim (before_or k n) [
        | inl under ↦ h.seeds k y under is e
        | inr over ↦ (
            let same = same_at k y less over is in
            let bad : (marked marks x || has_flag of flags (next rows x)) ≡ true = or_left (marked marks x) (has_flag of flags (next rows x)) (ap (marked marks) (sym same) ∙ e) in
            cc
            )
      ];
      closed = λ k y z less is edge e. elim (before_or k n) [
        | inl under ↦ h.closed k y z under is edge e
        | inr over ↦ (
            let same = same_at k y less over is in
            let bad : (marked marks x || has_flag of flags (next rows x)) ≡ true = or_right (marked marks x) (has_flag of flags (next rows x)) (has_flag_complete of flags z (next rows x) (subst (λ m. IsAmong z (next rows m)) same edge) e) in
            cc
            )
      ];
    }
      where
        same_at : (k y : ℕ) → k < n + 1 → n ≤ k → slice_get order k ≡ Some y → y ≡ x
        same_at k y less over is = let same : k ≡ n = omega arith in let e : Some y ≡ Some x = sym is ∙ ap (slice_get order) same ∙ at in cc

    pub so_far_more : AreSoFar rows of order marks (flagged rows of marks x flags) (n + 1)
    so_far_more = by_test (marked marks x || has_flag of flags (next rows x)) refl
      where
        by_test : (b : Bool) → (marked marks x || has_flag of flags (next rows x)) ≡ b → AreSoFar rows of order marks (cond b (set flags (slice_index of x) true) flags) (n + 1)
        by_test true e = hit_more e
        by_test false e = miss_more e

  -- at the end of the loop
  pub so_far_all : (marks flags : List Bool) (n : ℕ) → length order ≤ n → AreSoFar rows of order marks flags n → AreReaching rows of order marks flags
  so_far_all marks flags n all h = record {
    size = h.size;
    sound = h.sound;
    complete = λ x less r. back x r.end less r.reaches r.is_marked;
  }
    where
      back : (x y : ℕ) → x < length rows → Reaches (next rows) x y → marked marks y ≡ true → marked flags (slice_index of x) ≡ true
      back x y less here e = let at = at_among x order (g.listed x less) in h.seeds at.0 x (let low = get_within order at.0 x at.1 in omega arith) at.1 e
      back x y less (along {y = z} edge more) e =
          let at = at_among x order (g.listed x less) in
          h.closed at.0 x z (let low = get_within order at.0 x at.1 in omega arith) at.1 edge (back z y (graph x z edge) more e)

-- what the code reads
pub index_read : (xs : List ℕ) (i r : ℕ) → i < length xs → r ≡ slice_index_or xs i r → r ≡ slice_index xs i
index_read [] i r less h = absurd (omega arith)
index_read (x ∷ xs) zero r less h = h
index_read (x ∷ xs) (suc i) r less h = index_read xs i r (omega arith) h

pub item_read : {A : Type 0} (xs : List A) (i : ℕ) (x : A) → i < length xs → x ≡ slice_index_or xs i x → slice_get xs i ≡ Some x
item_read [] i x less h = absurd (omega arith)
item_read (y ∷ xs) zero x less h = ap Some (sym h)
item_read (y ∷ xs) (suc i) x less h = item_read xs i x (omega arith) h
