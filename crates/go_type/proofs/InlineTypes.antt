-- What elements of arrays and fields lead to.
use Rattle.std.proofs.Common.{◌≡◌, ℕ, zero, suc, ◌+◌, ◌<◌, ◌≤◌, Bool, true, false, true≢false, not, ◌||◌, ◌&&◌, cond, List, [], ◌∷◌, ◌++◌, length, take, map, Option, Some, None, is_some, slice_get, refl, sym, ap, subst, ◌∙◌, arith, ◌⊎◌, inl, inr, append_assoc, append-nil, IsTrue, ◌↔◌}
use Rattle.std.specs.List.{list_any, list_all, position_or_len}
use Rattle.std.proofs.Math.ListN.{get_or}
use Rattle.std.proofs.lemmas.List.{map-append}
use Rattle.std.proofs.lemmas.List.Folds.{list_any-append}
use Rattle.std.proofs.lemmas.Grind.{take_at_read}
use Rattle.std.proofs.lemmas.Bool.{cases_lt}
use Rattle.go_base.specs.declared.ids.TypeId.{TypeId}
use Rattle.go_type.specs.declared.term.Basic.{Basic}
use Rattle.go_type.specs.declared.term.Basic.TheVariants as basic
use Rattle.go_type.specs.declared.term.Field.{Field}
use Rattle.go_type.specs.declared.term.TypeTerm.{TypeTerm}
use Rattle.go_type.specs.declared.term.TypeTerm.TheVariants.{Basic as Plain, Array, Struct}
use Rattle.go_type.specs.Comparable.{incomparable_term, incomparable_to, Comparable}
use Rattle.go_type.specs.Conditions.{has_inline, reaches_to, is_held, is_definable, CanDefine}
use Rattle.go_type.specs.Inline.{inline_parts, parts_of, IsInherited, Reached, ReachedTo, Adds}
use Rattle.go_type.specs.Levels.{is_seen}
use Rattle.go_type.specs.Same.{same_id, same_id-Decides, both, each}
use Rattle.go_type.specs.Sizes.{is_declared}
use Rattle.go_type.specs.Table.{Table, term_at, underlying_of, definition_at}
use Rattle.go_type.proofs.Held.{inside}
use Rattle.go_type.proofs.Places.{at_place}
use Rattle.go_type.proofs.Comparables.{comparable_in_bound}
use Rattle.go_type.proofs.Reaching.{reaches_in_bound}

pub self_same : (id : TypeId) → same_id id id ≡ true
self_same id = (same_id-Decides id id).1 refl

pub or_left : (b c : Bool) → b ≡ true → b || c ≡ true
or_left true c h = refl
or_left false c h = absurd (true≢false (sym h))

pub or_right : (b c : Bool) → c ≡ true → b || c ≡ true
or_right true c h = refl
or_right false c h = h

pub which : (b c : Bool) → b || c ≡ true → (b ≡ true) ⊎ (c ≡ true)
which true c h = inl refl
which false c h = inr h

seen_before : (old more : List TypeId) (x : TypeId) → is_seen old x ≡ true → is_seen (old ++ more) x ≡ true
seen_before old more x h = list_any-append (same_id x) old more ∙ or_left _ _ h

seen_after : (old more : List TypeId) (x : TypeId) → is_seen more x ≡ true → is_seen (old ++ more) x ≡ true
seen_after old more x h = list_any-append (same_id x) old more ∙ or_right _ _ h

seen_which : (old more : List TypeId) (x : TypeId) → is_seen (old ++ more) x ≡ true → (is_seen old x ≡ true) ⊎ (is_seen more x ≡ true)
seen_which old more x h = which (is_seen old x) (is_seen more x) (sym (list_any-append (same_id x) old more) ∙ h)

pub all_mono : {X : Type 0} (p q : X → Bool) → ((x : X) → p x ≡ true → q x ≡ true) → (xs : List X) → list_all p xs ≡ true → list_all q xs ≡ true
all_mono p q h [] e = refl
all_mono p q h (x ∷ xs) e = let parts = both (p x) (list_all p xs) e in each (q x) (list_all q xs) (h x parts.0) (all_mono p q h xs parts.1)

all_append : {X : Type 0} (p : X → Bool) (xs ys : List X) → list_all p xs ≡ true → list_all p ys ≡ true → list_all p (xs ++ ys) ≡ true
all_append p [] ys h k = k
all_append p (x ∷ xs) ys h k = let parts = both (p x) (list_all p xs) h in each (p x) (list_all p (xs ++ ys)) parts.0 (all_append p xs ys parts.1 k)

pub all_at : (p : TypeId → Bool) (ids : List TypeId) (x : TypeId) → list_all p ids ≡ true → is_seen ids x ≡ true → p x ≡ true
all_at p [] x h at = absurd (true≢false (sym at))
all_at p (y ∷ ids) x h at = by (which (same_id x y) (is_seen ids x) at) (all_at p ids x (both (p y) (list_all p ids) h).1)
  where
    by : (same_id x y ≡ true) ⊎ (is_seen ids x ≡ true) → (is_seen ids x ≡ true → p x ≡ true) → p x ≡ true
    by (inl same) rest = ap p ((same_id-Decides x y).0 same) ∙ (both (p y) (list_all p ids) h).0
    by (inr later) rest = rest later

pub seen_at : (ids : List TypeId) (k : ℕ) (x : TypeId) → slice_get ids k ≡ Some x → is_seen ids x ≡ true
seen_at [] k x h = cc
seen_at (y ∷ ids) zero x h = let is : y ≡ x = cc in or_left _ _ (ap (same_id x) is ∙ self_same x)
seen_at (y ∷ ids) (suc k) x h = or_right (same_id x y) _ (seen_at ids k x h)

pub get_before : {X : Type 0} (old more : List X) (k : ℕ) → k < length old → slice_get (old ++ more) k ≡ slice_get old k
get_before [] more k h = absurd (omega arith)
get_before (y ∷ old) more zero h = refl
get_before (y ∷ old) more (suc k) h = let less : k < length old = omega arith in get_before old more k less

place_in : (ids : List TypeId) (x : TypeId) → is_seen ids x ≡ true → (k : ℕ) × (slice_get ids k ≡ Some x)
place_in ids x h = (position_or_len (same_id x) ids, at_place same_id x (λ y e. (same_id-Decides x y).0 e) ids h)

-- ---- what is added

pub adds_none : (old : List TypeId) → Adds [] old old
adds_none old = record { all = refl; kept = ([], sym (append-nil old)); only = λ x h. inl h }

pub adds_one : (parts old mid new : List TypeId) (y : TypeId) → Adds parts old mid → new ≡ cond (is_seen mid y) mid (mid ++ y ∷ []) → Adds (parts ++ y ∷ []) old new
adds_one parts old mid new y adds is = by (is_seen mid y) refl is
  where
    first : (x : TypeId) → is_seen mid x ≡ true → (is_seen old x ≡ true) ⊎ (is_seen (parts ++ y ∷ []) x ≡ true)
    first x h = side (adds.only x h)
      where
        side : (is_seen old x ≡ true) ⊎ (is_seen parts x ≡ true) → (is_seen old x ≡ true) ⊎ (is_seen (parts ++ y ∷ []) x ≡ true)
        side (inl before) = inl before
        side (inr part) = inr (seen_before parts (y ∷ []) x part)

    by : (b : Bool) → is_seen mid y ≡ b → new ≡ cond b mid (mid ++ y ∷ []) → Adds (parts ++ y ∷ []) old new
    by true e same = subst (λ (l : List TypeId). Adds (parts ++ y ∷ []) old l) (sym same) (record {
      all = all_append (is_seen mid) parts (y ∷ []) adds.all (each (is_seen mid y) true e refl);
      kept = adds.kept;
      only = first;
    })
    by false e longer = subst (λ (l : List TypeId). Adds (parts ++ y ∷ []) old l) (sym longer) (record {
      all = all_append (is_seen (mid ++ y ∷ [])) parts (y ∷ []) (all_mono (is_seen mid) (is_seen (mid ++ y ∷ [])) (seen_before mid (y ∷ [])) parts adds.all)
          (each (is_seen (mid ++ y ∷ []) y) true (seen_after mid (y ∷ []) y (or_left _ _ (self_same y))) refl);
      kept = (adds.kept.0 ++ y ∷ [], ap (λ l. l ++ y ∷ []) adds.kept.1 ∙ append_assoc old adds.kept.0 (y ∷ []));
      only = λ x h. side x (seen_which mid (y ∷ []) x h);
    })
      where
        side : (x : TypeId) → (is_seen mid x ≡ true) ⊎ (is_seen (y ∷ []) x ≡ true) → (is_seen old x ≡ true) ⊎ (is_seen (parts ++ y ∷ []) x ≡ true)
        side x (inl before) = first x before
        side x (inr here) = inr (seen_after parts (y ∷ []) x here)

-- one more field
pub adds_field : (fields : List Field) (i : ℕ) (d : Field) (old mid new : List TypeId) → i < length fields → Adds (map (λ field. field.of) (take i fields)) old mid
    → new ≡ cond (is_seen mid (get_or fields i d).of) mid (mid ++ (get_or fields i d).of ∷ []) → Adds (map (λ field. field.of) (take (i + 1) fields)) old new
adds_field fields i d old mid new h adds is =
    let longer : map (λ (field : Field). field.of) (take (i + 1) fields) ≡ map (λ (field : Field). field.of) (take i fields) ++ (get_or fields i d).of ∷ [] =
    ap (map (λ (field : Field). field.of)) (take_at_read fields i d h).1 ∙ map-append (λ (field : Field). field.of) (take i fields) (get_or fields i d ∷ []) in
    rw longer (adds_one (map (λ (field : Field). field.of) (take i fields)) old mid new (get_or fields i d).of adds is)

-- ---- one type further

pub reached_start : (types : Table) (a : TypeId) (ids : List TypeId) → ids ≡ a ∷ [] → ReachedTo types a 0 ids
reached_start types a ids is = record {
  itself = ap (λ l. is_seen l a) is ∙ or_left _ _ (self_same a);
  closed = λ k x less at. absurd (omega arith);
  only = λ p inherited x at px. by p x px (which (same_id x a) false (sym (ap (λ l. is_seen l x) is) ∙ at));
}
  where
    by : (p : TypeId → Bool) (x : TypeId) → p x ≡ true → (same_id x a ≡ true) ⊎ (false ≡ true) → p a ≡ true
    by p x px (inl same) = sym (ap p ((same_id-Decides x a).0 same)) ∙ px
    by p x px (inr never) = absurd (true≢false (sym never))

pub reached_next : (types : Table) (a : TypeId) (n : ℕ) (ids new : List TypeId) (x : TypeId) → ReachedTo types a n ids → slice_get ids n ≡ Some x → Adds (parts_of types x) ids new
    → ReachedTo types a (n + 1) new
reached_next types a n ids new x reached at adds = record {
  itself = still a reached.itself;
  closed = λ k y less here. close k y here (cases_lt k n) less;
  only = λ p inherited y seen py. by p inherited y py (adds.only y seen);
}
  where
    still : (y : TypeId) → is_seen ids y ≡ true → is_seen new y ≡ true
    still y h = ap (λ l. is_seen l y) adds.kept.1 ∙ seen_before ids adds.kept.0 y h

    room : n < length ids
    room = inside ids n x at

    before : (k : ℕ) (y : TypeId) → k ≤ n → slice_get new k ≡ Some y → slice_get ids k ≡ Some y
    before k y le here =
        let short : k < length ids = let r = room in omega arith in
        sym (get_before ids adds.kept.0 k short) ∙ sym (ap (λ l. slice_get l k) adds.kept.1) ∙ here

    close : (k : ℕ) (y : TypeId) → slice_get new k ≡ Some y → (k < n) ⊎ (n ≤ k) → k < n + 1 → list_all (is_seen new) (parts_of types y) ≡ true
    close k y here (inl less) most = all_mono (is_seen ids) (is_seen new) still (parts_of types y) (reached.closed k y less (before k y (omega arith) here))
    close k y here (inr more) most =
        let is : k ≡ n = omega arith in
        let was : slice_get ids k ≡ Some y = before k y (omega arith) here in
        let same : Some y ≡ Some x = sym was ∙ ap (slice_get ids) is ∙ at in
        let one : y ≡ x = cc in
        ap (λ z. list_all (is_seen new) (parts_of types z)) one ∙ adds.all

    by : (p : TypeId → Bool) → IsInherited types p → (y : TypeId) → p y ≡ true → (is_seen ids y ≡ true) ⊎ (is_seen (parts_of types x) y ≡ true) → p a ≡ true
    by p inherited y py (inl early) = reached.only p inherited y early py
    by p inherited y py (inr part) = reached.only p inherited x (seen_at ids n x at) (inherited x y part py)

pub reached_all : (types : Table) (a : TypeId) (n : ℕ) (ids : List TypeId) → ReachedTo types a n ids → length ids ≤ n → Reached types a ids
reached_all types a n ids reached most = record {
  itself = reached.itself;
  closed = λ x seen. close x (place_in ids x seen);
  only = reached.only;
}
  where
    close : (x : TypeId) → (k : ℕ) × (slice_get ids k ≡ Some x) → list_all (is_seen ids) (parts_of types x) ≡ true
    close x at = let less : at.0 < length ids = inside ids at.0 x at.1 in reached.closed at.0 x (omega arith) at.1

-- ---- what is comparable

pub any_seen : (p : TypeId → Bool) (ids : List TypeId) → list_any p ids ≡ true → (x : TypeId) × ((is_seen ids x ≡ true) × (p x ≡ true))
any_seen p [] h = absurd (true≢false (sym h))
any_seen p (y ∷ ids) h = by (which (p y) (list_any p ids) h) (any_seen p ids)
  where
    by : (p y ≡ true) ⊎ (list_any p ids ≡ true) → (list_any p ids ≡ true → (x : TypeId) × ((is_seen ids x ≡ true) × (p x ≡ true)))
        → (x : TypeId) × ((is_seen (y ∷ ids) x ≡ true) × (p x ≡ true))
    by (inl here) more = (y, (or_left _ _ (self_same y), here))
    by (inr later) more = ((more later).0, (or_right (same_id (more later).0 y) _ (more later).1.0, (more later).1.1))

not_any : (p : TypeId → Bool) (ids : List TypeId) → list_any p ids ≡ false → (x : TypeId) → is_seen ids x ≡ true → p x ≡ false
not_any p [] h x at = absurd (true≢false (sym at))
not_any p (y ∷ ids) h x at = by (p y) refl (which (same_id x y) (is_seen ids x) at) (λ none later. not_any p ids none x later)
  where
    by : (b : Bool) → p y ≡ b → (same_id x y ≡ true) ⊎ (is_seen ids x ≡ true) → (list_any p ids ≡ false → is_seen ids x ≡ true → p x ≡ false) → p x ≡ false
    by true e at rest = absurd (true≢false (sym (ap (λ b. b || list_any p ids) e) ∙ h))
    by false e (inl same) rest = ap p ((same_id-Decides x y).0 same) ∙ e
    by false e (inr later) rest = rest (sym (ap (λ b. b || list_any p ids) e) ∙ h) later

any_field : (p : TypeId → Bool) (fields : List Field) → list_any (λ field. p field.of) fields ≡ list_any p (map (λ field. field.of) fields)
any_field p [] = refl
any_field p (field ∷ fields) = ap (λ b. p field.of || b) (any_field p fields)

plain_alone : (p : TypeId → Bool) (kind : Basic) → incomparable_term p (Some (Plain kind)) ≡ true → incomparable_term (λ y. false) (Some (Plain kind)) ≡ true
plain_alone p basic.UntypedNil h = refl
plain_alone p _ h = h

-- a term that is not comparable is so by itself or by a part
by_part : (p : TypeId → Bool) (t : Option TypeTerm) → incomparable_term p t ≡ true → (incomparable_term (λ y. false) t ≡ true) ⊎ (list_any p (inline_parts t) ≡ true)
by_part p (Some (Array len elem)) h = inr (or_left _ _ h)
by_part p (Some (Struct fields)) h = inr (sym (any_field p fields) ∙ h)
by_part p (Some (Plain kind)) h = inl (plain_alone p kind h)
by_part p (Some _) h = inl h
by_part p None h = inl h

pub any_at : (p : TypeId → Bool) (ids : List TypeId) (y : TypeId) → is_seen ids y ≡ true → p y ≡ true → list_any p ids ≡ true
any_at p [] y at py = absurd (true≢false (sym at))
any_at p (z ∷ ids) y at py = side (which (same_id y z) (is_seen ids y) at) (λ later. any_at p ids y later py)
  where
    side : (same_id y z ≡ true) ⊎ (is_seen ids y ≡ true) → (is_seen ids y ≡ true → list_any p ids ≡ true) → p z || list_any p ids ≡ true
    side (inl same) rest = or_left _ _ (sym (ap p ((same_id-Decides y z).0 same)) ∙ py)
    side (inr later) rest = or_right (p z) _ (rest later)

part_of : (p : TypeId → Bool) (t : Option TypeTerm) (y : TypeId) → is_seen (inline_parts t) y ≡ true → p y ≡ true → incomparable_term p t ≡ true
part_of p (Some (Array len elem)) y at py = by (which (same_id y elem) false at)
  where
    by : (same_id y elem ≡ true) ⊎ (false ≡ true) → p elem ≡ true
    by (inl same) = sym (ap p ((same_id-Decides y elem).0 same)) ∙ py
    by (inr never) = absurd (true≢false (sym never))
part_of p (Some (Struct fields)) y at py = any_field p fields ∙ any_at p (map (λ field. field.of) fields) y at py
part_of p _ y at py = absurd (true≢false (sym at))

module _ (types : Table) (counts : length types.definitions ≡ length types.terms) (a : TypeId) (ids : List TypeId) (reached : Reached types a ids) where
  never : list_any (incomparable_to 1 types) ids ≡ false → (n : ℕ) (x : TypeId) → is_seen ids x ≡ true → incomparable_to n types x ≡ false
  never none zero x seen = refl
  never none (suc n) x seen = by (incomparable_to (suc n) types x) refl (λ y there. never none n y there)
    where
      side : ((y : TypeId) → is_seen ids y ≡ true → incomparable_to n types y ≡ false)
          → (incomparable_term (λ y. false) (term_at types (underlying_of types x)) ≡ true) ⊎ (list_any (incomparable_to n types) (parts_of types x) ≡ true) → true ≡ false
      side below (inl alone) = sym alone ∙ not_any (incomparable_to 1 types) ids none x seen
      side below (inr part) =
          let found = any_seen (incomparable_to n types) (parts_of types x) part in
          sym found.1.1 ∙ below found.0 (all_at (is_seen ids) (parts_of types x) found.0 (reached.closed x seen) found.1.0)

      by : (b : Bool) → incomparable_to (suc n) types x ≡ b → ((y : TypeId) → is_seen ids y ≡ true → incomparable_to n types y ≡ false) → b ≡ false
      by false e below = refl
      by true e below = side below (by_part (incomparable_to n types) (term_at types (underlying_of types x)) e)

  pub comparable_reached : (any r : Bool) → any ≡ list_any (incomparable_to 1 types) ids → r ≡ not any → IsTrue r ↔ Comparable types a
  comparable_reached any r is e = (
    λ h n. never (sym is ∙ not_true any (sym e ∙ h)) n a reached.itself,
    λ all. e ∙ ap not (by any refl all),
  )
    where
      not_true : (b : Bool) → not b ≡ true → b ≡ false
      not_true true h = sym h
      not_true false h = refl

      by : (b : Bool) → any ≡ b → Comparable types a → b ≡ false
      by false k all = refl
      by true k all =
          let found = any_seen (incomparable_to 1 types) ids (sym is ∙ k) in
          sym (reached.only (incomparable_to (length types.terms) types)
          (λ x y part py. comparable_in_bound types counts (suc (length types.terms)) x (part_of (incomparable_to (length types.terms) types) (term_at types (underlying_of types x)) y part py))
          found.0 found.1.0 (comparable_in_bound types counts 1 found.0 found.1.1))
          ∙ all (length types.terms)

-- ---- what may be defined

pub by_inline : (id : TypeId) (p : TypeId → Bool) (t : Option TypeTerm) → has_inline id p t ≡ true → list_any (λ y. same_id id y || p y) (inline_parts t) ≡ true
by_inline id p (Some (Array len elem)) h = or_left _ _ h
by_inline id p (Some (Struct fields)) h = sym (any_field (λ y. same_id id y || p y) fields) ∙ h
by_inline id p _ h = h

pub inline_of : (id : TypeId) (p : TypeId → Bool) (t : Option TypeTerm) (y : TypeId) → is_seen (inline_parts t) y ≡ true → same_id id y || p y ≡ true → has_inline id p t ≡ true
inline_of id p (Some (Array len elem)) y at py = part_of (λ z. same_id id z || p z) (Some (Array len elem)) y at py
inline_of id p (Some (Struct fields)) y at py = part_of (λ z. same_id id z || p z) (Some (Struct fields)) y at py
inline_of id p _ y at py = absurd (true≢false (sym at))

module _ (types : Table) (counts : length types.definitions ≡ length types.terms) (id from : TypeId) (ids : List TypeId) (reached : Reached types from ids) where
  none_reached : is_seen ids id ≡ false → (n : ℕ) (x : TypeId) → is_seen ids x ≡ true → reaches_to n types id x ≡ false
  none_reached none zero x seen = refl
  none_reached none (suc n) x seen = by (reaches_to (suc n) types id x) refl (λ y there. none_reached none n y there)
    where
      side : ((y : TypeId) → is_seen ids y ≡ true → reaches_to n types id y ≡ false)
          → (y : TypeId) → is_seen ids y ≡ true → (same_id id y ≡ true) ⊎ (reaches_to n types id y ≡ true) → true ≡ false
      side below y there (inl same) = sym there ∙ sym (ap (is_seen ids) ((same_id-Decides id y).0 same)) ∙ none
      side below y there (inr deeper) = sym deeper ∙ below y there

      by : (b : Bool) → reaches_to (suc n) types id x ≡ b → ((y : TypeId) → is_seen ids y ≡ true → reaches_to n types id y ≡ false) → b ≡ false
      by false e below = refl
      by true e below =
          let found = any_seen (λ y. same_id id y || reaches_to n types id y) (parts_of types x) (by_inline id (reaches_to n types id) (term_at types (underlying_of types x)) e) in
          let there : is_seen ids found.0 ≡ true = all_at (is_seen ids) (parts_of types x) found.0 (reached.closed x seen) found.1.0 in
          side below found.0 there (which (same_id id found.0) (reaches_to n types id found.0) found.1.1)

  pub definable_reached : (first there r : Bool) → first ≡ is_definable types id from → first ≡ true → there ≡ is_seen ids id → r ≡ not there → IsTrue r ↔ CanDefine types id from
  definable_reached first there r is_first holds is e = (
    λ h. (sym is_first ∙ holds, λ n. none_reached (sym is ∙ not_true there (sym e ∙ h)) n from reached.itself),
    λ k. e ∙ ap not (by there refl k),
  )
    where
      not_true : (b : Bool) → not b ≡ true → b ≡ false
      not_true true h = sym h
      not_true false h = refl

      held : is_definable types id from ≡ true → is_declared (term_at types id) && not (is_some (definition_at types id).underlying) && is_held types from ≡ true
      held h = (both (is_declared (term_at types id) && not (is_some (definition_at types id).underlying) && is_held types from) (not (is_declared (term_at types from))) h).0

      declared : is_definable types id from ≡ true → is_declared (term_at types id) ≡ true
      declared h =
          let rest : is_declared (term_at types id) && not (is_some (definition_at types id).underlying) ≡ true =
          (both (is_declared (term_at types id) && not (is_some (definition_at types id).underlying)) (is_held types from) (held h)).0 in
          (both (is_declared (term_at types id)) (not (is_some (definition_at types id).underlying)) rest).0

      undeclared : is_definable types id from ≡ true → not (is_declared (term_at types from)) ≡ true
      undeclared h = (both (is_declared (term_at types id) && not (is_some (definition_at types id).underlying) && is_held types from) (not (is_declared (term_at types from))) h).1

      apart : is_definable types id from ≡ true → same_id id from ≡ true → ⊥
      apart h same =
          true≢false (sym (declared h) ∙ ap (λ x. is_declared (term_at types x)) ((same_id-Decides id from).0 same) ∙ not_true (is_declared (term_at types from)) (undeclared h))

      by : (b : Bool) → there ≡ b → CanDefine types id from → b ≡ false
      by false k can = refl
      by true k can =
          side (which (same_id id from) (reaches_to (length types.terms) types id from)
          (reached.only (λ y. same_id id y || reaches_to (length types.terms) types id y)
          (λ x y part py. or_right (same_id id x) _ (reaches_in_bound types counts id (suc (length types.terms)) x (inline_of id (reaches_to (length types.terms) types id) (term_at types (underlying_of types x)) y part py)))
          id (sym is ∙ k) (or_left _ _ (self_same id))))
        where
          side : (same_id id from ≡ true) ⊎ (reaches_to (length types.terms) types id from ≡ true) → true ≡ false
          side (inl same) = absurd (apart can.0 same)
          side (inr reaches) = sym reaches ∙ can.1 (length types.terms)

pub past_end : (ids : List TypeId) (k : ℕ) → slice_get ids k ≡ None → length ids ≤ k
past_end [] k h = omega arith
past_end (y ∷ ids) zero h = cc
past_end (y ∷ ids) (suc k) h = let rest : length ids ≤ k = past_end ids k h in omega arith
