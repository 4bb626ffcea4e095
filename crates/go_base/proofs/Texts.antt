-- Looking a text up among things that have texts.
use Rattle.std.proofs.Common.{◌≡◌, ℕ, suc, ◌+◌, ◌<◌, nat_lt, Bool, true, false, true≢false, not, ◌||◌, cond, List, [], ◌∷◌, ◌++◌, length, take, map, Some, None, refl, sym, ap, ◌∙◌, if◌then◌else◌, slice_get, arith}
use Rattle.std.proofs.lemmas.List.{map-append}
use Rattle.std.specs.List.{list_any, position_or_len, position, IsDistinct}
use Rattle.std.proofs.Math.ListN.{get_or}
use Rattle.std.proofs.lemmas.Grind.{take_at_read}
use Rattle.std.proofs.lemmas.List.{length-map, length-take, get_or-take, get_or_default, get_or-map}
use Rattle.std.proofs.lemmas.List.Folds.{list_any_none}
use Rattle.std.proofs.lemmas.Map.Keys.{IsDistinct-push, apart_from_distinct}
use Rattle.std.specs.Str.{bytes_eq}
use Rattle.std.specs.Cmp.Lexicographic.{nat_list_eq_equiv}
use Rattle.std.proofs.lemmas.Slice.Eq.{bytes_eq-Decides}
use Rattle.std.proofs.lemmas.Bool.Decides.{nat_tests}
use Rattle.go_base.specs.NameTable.{with_text, place_of, AreDistinct}

module _ {X : Type 0} (f : X → List ℕ) (t : List ℕ) where
  pub place-map : (xs : List X) → place_of t (map f xs) ≡ position_or_len (λ x. bytes_eq t (f x)) xs
  place-map [] = refl
  place-map (x ∷ xs) = ap (λ n. cond (not (bytes_eq t (f x))) (1 + n) 0) (place-map xs)

  pub any-map : (xs : List X) → list_any (bytes_eq t) (map f xs) ≡ list_any (λ x. bytes_eq t (f x)) xs
  any-map [] = refl
  any-map (x ∷ xs) = ap (λ b. bytes_eq t (f x) || b) (any-map xs)

  pub position-map : (xs : List X) → position (bytes_eq t) (map f xs) ≡ position (λ x. bytes_eq t (f x)) xs
  position-map xs = λ i. cond (nat_lt (place-map xs i) (length-map xs f i)) (Some (place-map xs i)) None

  -- one that comes in as o, where it is not there yet
  pub inserted : (xs ys : List X) (o : X) → f o ≡ t → ys ≡ (if list_any (λ x. bytes_eq (f o) (f x)) xs then xs else xs ++ o ∷ [])
      → map f ys ≡ with_text t (map f xs)
  inserted xs ys o e h = ap (map f) h ∙ by (list_any (λ x. bytes_eq (f o) (f x)) xs) ∙ ap (λ b. if b then map f xs else map f xs ++ t ∷ []) same
    where
      same : list_any (λ x. bytes_eq (f o) (f x)) xs ≡ list_any (bytes_eq t) (map f xs)
      same = ap (λ s. list_any (λ x. bytes_eq s (f x)) xs) e ∙ sym (any-map xs)

      by : (b : Bool) → map f (if b then xs else xs ++ o ∷ []) ≡ (if b then map f xs else map f xs ++ t ∷ [])
      by true = refl
      by false = map-append f xs (o ∷ []) ∙ ap (λ s. map f xs ++ s ∷ []) e

  -- a text that is there
  pub found_place : (xs : List X) (i : ℕ) → Some i ≡ position (λ x. bytes_eq t (f x)) xs → i ≡ place_of t (map f xs)
  found_place xs i h =
      let e : i ≡ position_or_len (λ x. bytes_eq t (f x)) xs = grind (arith, nat_tests) in
      e ∙ sym (place-map xs)

  pub found_stays : (xs : List X) → true ≡ list_any (λ x. bytes_eq t (f x)) xs → map f xs ≡ with_text t (map f xs)
  found_stays xs h = sym (ap (λ b. cond b (map f xs) (map f xs ++ t ∷ [])) (any-map xs ∙ sym h))

  -- one that is not, and comes in as o
  pub new_place : (xs : List X) (o : X) (i : ℕ) → f o ≡ t → i ≡ position_or_len (λ x. bytes_eq (f o) (f x)) xs → i ≡ place_of t (map f xs)
  new_place xs o i e h = h ∙ ap (λ s. position_or_len (λ x. bytes_eq s (f x)) xs) e ∙ sym (place-map xs)

  pub added : (xs ys : List X) (o : X) → f o ≡ t → false ≡ list_any (λ x. bytes_eq t (f x)) xs
      → ys ≡ (if list_any (λ x. bytes_eq (f o) (f x)) xs then xs else xs ++ o ∷ []) → map f ys ≡ with_text t (map f xs)
  added xs ys o e none h =
      let absent : list_any (λ x. bytes_eq (f o) (f x)) xs ≡ false = ap (λ s. list_any (λ x. bytes_eq s (f x)) xs) e ∙ sym none in
      let is : ys ≡ xs ++ o ∷ [] = h ∙ ap (λ b. if b then xs else xs ++ o ∷ []) absent in
      let last : map f ys ≡ map f xs ++ t ∷ [] = ap (map f) is ∙ map-append f xs (o ∷ []) ∙ ap (λ s. map f xs ++ s ∷ []) e in
      last ∙ sym (ap (λ b. if b then map f xs else map f xs ++ t ∷ []) (any-map xs ∙ sym none))

-- ---- distinct texts

pub distinct_none : AreDistinct []
unfolding IsDistinct
distinct_none = tt

-- a text that is new
pub distinct_more : (t : List ℕ) (texts : List (List ℕ)) → AreDistinct texts → AreDistinct (with_text t texts)
distinct_more t texts d = by (list_any (bytes_eq t) texts) refl
  where
    by : (b : Bool) → list_any (bytes_eq t) texts ≡ b → AreDistinct (if b then texts else texts ++ t ∷ [])
    by true h = d
    by false h = IsDistinct-push nat_list_eq_equiv texts t d h

-- ---- the place of a text

one_more : (n : ℕ) → 1 + n ≡ suc n
one_more n = omega arith

-- a text that is there is at its place
there : (t : List ℕ) (xs : List (List ℕ)) → list_any (bytes_eq t) xs ≡ true → slice_get xs (place_of t xs) ≡ Some t
there t [] h = absurd (true≢false (sym h))
there t (x ∷ xs) h = first (bytes_eq t x) refl (there t xs)
  where
    first : (b : Bool) → bytes_eq t x ≡ b → (list_any (bytes_eq t) xs ≡ true → slice_get xs (place_of t xs) ≡ Some t)
        → slice_get (x ∷ xs) (place_of t (x ∷ xs)) ≡ Some t
    first true e rest = ap (λ c. slice_get (x ∷ xs) (cond (not c) (1 + place_of t xs) 0)) e ∙ ap Some (sym ((bytes_eq-Decides t x).0 e))
    first false e rest =
        ap (λ c. slice_get (x ∷ xs) (cond (not c) (1 + place_of t xs) 0)) e ∙ ap (slice_get (x ∷ xs)) (one_more (place_of t xs))
        ∙ rest (sym (ap (λ c. c || list_any (bytes_eq t) xs) e) ∙ h)

-- the place of one that is not is behind the others
behind : (t : List ℕ) (xs : List (List ℕ)) → list_any (bytes_eq t) xs ≡ false → slice_get (xs ++ t ∷ []) (place_of t xs) ≡ Some t
behind t [] h = refl
behind t (x ∷ xs) h = first (bytes_eq t x) refl (behind t xs)
  where
    first : (b : Bool) → bytes_eq t x ≡ b → (list_any (bytes_eq t) xs ≡ false → slice_get (xs ++ t ∷ []) (place_of t xs) ≡ Some t)
        → slice_get (x ∷ xs ++ t ∷ []) (place_of t (x ∷ xs)) ≡ Some t
    first true e rest = absurd (true≢false (sym (ap (λ c. c || list_any (bytes_eq t) xs) e) ∙ h))
    first false e rest =
        ap (λ c. slice_get (x ∷ xs ++ t ∷ []) (cond (not c) (1 + place_of t xs) 0)) e
        ∙ ap (slice_get (x ∷ xs ++ t ∷ [])) (one_more (place_of t xs)) ∙ rest (sym (ap (λ c. c || list_any (bytes_eq t) xs) e) ∙ h)

pub place_holds : (t : List ℕ) (texts : List (List ℕ)) → slice_get (with_text t texts) (place_of t texts) ≡ Some t
place_holds t texts = by (list_any (bytes_eq t) texts) refl
  where
    by : (b : Bool) → list_any (bytes_eq t) texts ≡ b → slice_get (if b then texts else texts ++ t ∷ []) (place_of t texts) ≡ Some t
    by true h = there t texts h
    by false h = behind t texts h

-- ---- texts that are copied from the front on

-- no text stands twice
absent_before : (texts : List (List ℕ)) (i : ℕ) (d : List ℕ) → AreDistinct texts → i < length texts
    → list_any (bytes_eq (get_or texts i d)) (take i texts) ≡ false
absent_before texts i d distinct h = list_any_none (bytes_eq (get_or texts i d)) (take i texts) (λ k e below.
    let less : k < i = omega (arith, length-take i texts) in
    ap (bytes_eq (get_or texts i d)) (get_or-take i texts k e less) ∙ nat_list_eq_equiv.symm (get_or texts i d) (get_or texts k e)
    ∙ ap (λ x. bytes_eq x (get_or texts i d)) (get_or_default texts k e d (omega arith)) ∙ apart_from_distinct bytes_eq texts k i d distinct less h)

-- so each goes behind those before it
pub next_text : (texts : List (List ℕ)) (i : ℕ) (d : List ℕ) → AreDistinct texts → i < length texts
    → with_text (get_or texts i d) (take i texts) ≡ take (i + 1) texts
next_text texts i d distinct h =
    ap (λ b. if b then take i texts else take i texts ++ get_or texts i d ∷ []) (absent_before texts i d distinct h) ∙ sym (take_at_read texts i d h).1

pub copied_next : {X : Type 0} (f : X → List ℕ) (texts copy next : List X) (i : ℕ) (x o : X)
    → AreDistinct (map f texts) → i < length texts → map f copy ≡ take i (map f texts)
    → x ≡ get_or texts i x → f o ≡ f x → next ≡ (if list_any (λ y. bytes_eq (f o) (f y)) copy then copy else copy ++ o ∷ [])
    → map f next ≡ take (i + 1) (map f texts)
copied_next f texts copy next i x o distinct h before is same e =
    let read : get_or (map f texts) i (f x) ≡ f x = get_or-map f texts i x (f x) h ∙ ap f (sym is) in
    let within : i < length (map f texts) = omega (arith, length-map texts f) in
    inserted f (f x) copy next o same e ∙ ap (with_text (f x)) before ∙ ap (λ s. with_text s (take i (map f texts))) (sym read)
    ∙ next_text (map f texts) i (f x) distinct within
