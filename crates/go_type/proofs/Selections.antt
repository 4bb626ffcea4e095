-- What is selected at any depth is selected at a depth below the number of types.
use Rattle.std.proofs.Common.{◌≡◌, ℕ, zero, suc, ◌+◌, ◌<◌, ◌≤◌, Bool, true, false, true≢false, ◌||◌, ◌&&◌, if◌then◌else◌, nat_eq, List, [], ◌∷◌, ◌++◌, length, Option, Some, Ok, Err, refl, sym, ap, ◌∙◌, arith, ◌⊎◌, inl, inr}
use Rattle.std.specs.List.{list_any, flat_map}
use Rattle.std.proofs.lemmas.List.Folds.{list_any-append}
use Rattle.std.proofs.lemmas.List.{nil_from_length}
use Rattle.std.specs.Cmp.{unsigned_Decides}
use Rattle.std.proofs.lemmas.Bool.{cases_lt}
use Rattle.go_base.specs.declared.ids.TypeId.{TypeId}
use Rattle.go_type.specs.declared.methods.SelectError.TheVariants as error
use Rattle.go_type.specs.declared.members.Wanted.{Wanted}
use Rattle.go_type.specs.Selector.{Place}
use Rattle.go_type.specs.declared.members.Member.{Member}
use Rattle.go_type.specs.declared.term.Field.{Field}
use Rattle.go_type.specs.declared.term.TypeTerm.{TypeTerm}
use Rattle.go_type.specs.declared.term.TypeTerm.TheVariants.{Struct, Interface}
use Rattle.go_type.specs.Table.{Table, term_at, underlying_of, definition_at}
use Rattle.go_type.proofs.Saturate.{Property, Within, steps, never_shows}
use Rattle.go_type.proofs.Comparables.{undefined, termless}
use Rattle.go_type.specs.Levels.{IsBarren}
use Rattle.go_type.specs.Selector.{is_wanted, flat_map_from, method_named, signature_named, field_named, members_named, embedded_by, embedded_of, selected_in, embedded_in, members_below, selected_at, NoneAbove, Finds, without_pointer, start, is_pointer}

-- one more depth without a selection
pub none_more : (types : Table) (wanted : Wanted) (a : TypeId) (n : ℕ) → NoneAbove n types wanted a → selected_at n types wanted a ≡ [] → NoneAbove (n + 1) types wanted a
none_more types wanted a n none here k less = by (cases_lt k n)
  where
    by : (k < n) ⊎ (n ≤ k) → selected_at k types wanted a ≡ []
    by (inl below) = none k below
    by (inr above) = let is : k ≡ n = omega arith in ap (λ m. selected_at m types wanted a) is ∙ here

-- the least depth with a selection is one
pub least_same : (types : Table) (wanted : Wanted) (a : TypeId) (n m : ℕ) (x y : Member) (xs ys : List Member)
    → selected_at n types wanted a ≡ x ∷ xs → NoneAbove n types wanted a → selected_at m types wanted a ≡ y ∷ ys → NoneAbove m types wanted a → x ∷ xs ≡ y ∷ ys
least_same types wanted a n m x y xs ys en none_n em none_m = by (cases_lt n m) (cases_lt m n)
  where
    by : (n < m) ⊎ (m ≤ n) → (m < n) ⊎ (n ≤ m) → x ∷ xs ≡ y ∷ ys
    by (inl less) other = let none : selected_at n types wanted a ≡ [] = none_m n less in cc
    by (inr le) (inl less) = let none : selected_at m types wanted a ≡ [] = none_n m less in cc
    by (inr le) (inr ge) = let is : n ≡ m = omega arith in sym en ∙ ap (λ k. selected_at k types wanted a) is ∙ em

pub finds_same : (types : Table) (wanted : Wanted) (a : TypeId) (x y : Member) → Finds types wanted a (Ok x) → Finds types wanted a (Ok y) → x ≡ y
finds_same types wanted a x y h k = let same : x ∷ [] ≡ y ∷ [] = least_same types wanted a h.0 k.0 x y [] [] h.1 h.2 k.1 k.2 in cc

pub finds_not_absent : (types : Table) (wanted : Wanted) (a : TypeId) (x : Member) → Finds types wanted a (Ok x) → Finds types wanted a (Err error.Absent) → ⊥
finds_not_absent types wanted a x h k = let some : selected_at h.0 types wanted a ≡ x ∷ [] = h.1 in let none : selected_at h.0 types wanted a ≡ [] = k h.0 in cc

pub finds_not_ambiguous : (types : Table) (wanted : Wanted) (a : TypeId) (x : Member) (first second : List ℕ) → Finds types wanted a (Ok x) → Finds types wanted a (Err (error.Ambiguous first second)) → ⊥
finds_not_ambiguous types wanted a x first second h k =
    let same : x ∷ [] ≡ k.1.0 ∷ k.1.1.0 ∷ k.1.1.1.0 = least_same types wanted a h.0 k.0 x k.1.0 [] (k.1.1.0 ∷ k.1.1.1.0) h.1 h.2 k.1.1.1.1.0 k.1.1.1.1.3 in cc

-- ---- what shows at some depth

or_right : (b c : Bool) → c ≡ true → b || c ≡ true
or_right true c k = refl
or_right false c k = k

or_false : (b : Bool) → b || false ≡ b
or_false true = refl
or_false false = refl

or_mono : (a b c : Bool) → (b ≡ true → c ≡ true) → a || b ≡ true → a || c ≡ true
or_mono true b c h e = refl
or_mono false b c h e = h e

and_mono : (a b c : Bool) → (b ≡ true → c ≡ true) → a && b ≡ true → a && c ≡ true
and_mono true b c h e = h e
and_mono false b c h e = e

abbrev pub is_some_item : {X : Type 0} → List X → Bool
is_some_item [] = false
is_some_item (x ∷ xs) = true

some_item : {X : Type 0} (xs : List X) → is_some_item xs ≡ false → xs ≡ []
some_item [] h = refl
some_item (x ∷ xs) h = absurd (true≢false h)

some_append : {X : Type 0} (xs ys : List X) → is_some_item (xs ++ ys) ≡ is_some_item xs || is_some_item ys
some_append [] ys = refl
some_append (x ∷ xs) ys = refl

some_if : {X : Type 0} (b : Bool) (x : X) → is_some_item (if b then x ∷ [] else []) ≡ b
some_if true x = refl
some_if false x = refl

some_flat_map : {X Y : Type 0} (f : X → List Y) (t : X → Bool) → ((x : X) → is_some_item (f x) ≡ t x) → (xs : List X) → is_some_item (flat_map f xs) ≡ list_any t xs
some_flat_map f t is [] = refl
some_flat_map f t is (x ∷ xs) = some_append (f x) (flat_map f xs) ∙ (λ i. is x i || some_flat_map f t is xs i)

some_from : {X Y : Type 0} (f : ℕ → X → List Y) (t : X → Bool) → ((n : ℕ) (x : X) → is_some_item (f n x) ≡ t x) → (n : ℕ) (xs : List X)
    → is_some_item (flat_map_from f n xs) ≡ list_any t xs
some_from f t is n [] = refl
some_from f t is n (x ∷ xs) = some_append (f n x) (flat_map_from f (n + 1) xs) ∙ (λ i. is n x i || some_from f t is (n + 1) xs i)

any_from : {X Y : Type 0} (q : Y → Bool) (f : ℕ → X → List Y) (t : X → Bool) → ((n : ℕ) (x : X) → list_any q (f n x) ≡ t x) → (n : ℕ) (xs : List X)
    → list_any q (flat_map_from f n xs) ≡ list_any t xs
any_from q f t is n [] = refl
any_from q f t is n (x ∷ xs) = list_any-append q (f n x) (flat_map_from f (n + 1) xs) ∙ (λ i. is n x i || any_from q f t is (n + 1) xs i)

any_mono : {X : Type 0} (p q : X → Bool) → ((x : X) → p x ≡ true → q x ≡ true) → (xs : List X) → list_any p xs ≡ true → list_any q xs ≡ true
any_mono p q h [] e = e
any_mono p q h (x ∷ xs) e = by (p x) (h x) (any_mono p q h xs) e
  where
    by : (b : Bool) → (b ≡ true → q x ≡ true) → (list_any p xs ≡ true → list_any q xs ≡ true) → b || list_any p xs ≡ true → q x || list_any q xs ≡ true
    by true here rest k = ap (λ b. b || list_any q xs) (here refl)
    by false here rest k = or_right (q x) (list_any q xs) (rest k)

any_false : {X : Type 0} (xs : List X) → list_any (λ x. false) xs ≡ false
any_false [] = refl
any_false (x ∷ xs) = any_false xs

or_swap : (a b c d : Bool) → (a || b) || (c || d) ≡ (a || c) || (b || d)
or_swap true b c d = refl
or_swap false true true d = refl
or_swap false true false d = refl
or_swap false false c d = refl

or_left_false : (a b : Bool) → a || b ≡ false → a ≡ false
or_left_false true b h = h
or_left_false false b h = refl

or_right_false : (a b : Bool) → a || b ≡ false → b ≡ false
or_right_false true b h = absurd (true≢false h)
or_right_false false b h = h

module _ (types : Table) (wanted : Wanted) where
  -- whether a type itself has what is wanted, whatever the path to it
  here : Option TypeTerm → Bool
  here (Some (Struct fields)) = list_any (λ f. is_wanted wanted f.name f.package) fields
  here (Some (Interface methods)) = list_any (λ m. is_wanted wanted m.name m.package) methods
  here _ = false

  members_here : (path : List ℕ) (indirect : Bool) (t : Option TypeTerm) → is_some_item (members_named wanted path indirect t) ≡ here t
  unfolding here
  members_here path indirect (Some (Struct fields)) =
      some_from (field_named wanted path indirect) (λ f. is_wanted wanted f.name f.package) (λ n f. some_if (is_wanted wanted f.name f.package) _) 0 fields
  members_here path indirect (Some (Interface methods)) =
      some_flat_map (signature_named wanted path indirect) (λ m. is_wanted wanted m.name m.package) (λ m. some_if (is_wanted wanted m.name m.package) _) methods
  members_here path indirect _ = refl

  has : TypeId → Bool
  has x = list_any (λ m. is_wanted wanted m.name m.package) (definition_at types x).methods || here (term_at types (underlying_of types x))

  selected_has : (place : Place) → is_some_item (selected_in types wanted place) ≡ has place.of
  unfolding has
  selected_has place =
      some_append (flat_map (method_named wanted place.path place.indirect) (definition_at types place.of).methods) (members_named wanted place.path place.indirect (term_at types (underlying_of types place.of)))
      ∙ (λ i. some_flat_map (method_named wanted place.path place.indirect) (λ m. is_wanted wanted m.name m.package) (λ m. some_if (is_wanted wanted m.name m.package) _)
      (definition_at types place.of).methods i || members_here place.path place.indirect (term_at types (underlying_of types place.of)) i)

  -- whether an embedded type has a property
  inner : Property → Option TypeTerm → Bool
  inner p (Some (Struct fields)) = list_any (λ f. f.embedded && p (without_pointer types f.of)) fields
  inner p _ = false

  embedded_inner : (p : Property) (path : List ℕ) (indirect : Bool) (t : Option TypeTerm) → list_any (λ q. p q.of) (embedded_of types path indirect t) ≡ inner p t
  unfolding inner
  embedded_inner p path indirect (Some (Struct fields)) =
      any_from (λ q. p q.of) (embedded_by types path indirect) (λ f. f.embedded && p (without_pointer types f.of)) one 0 fields
    where
      one : (n : ℕ) (f : Field) → list_any (λ q. p q.of) (embedded_by types path indirect n f) ≡ f.embedded && p (without_pointer types f.of)
      one n f = by f.embedded
        where
          by : (b : Bool) → list_any (λ (q : Place). p q.of) (if b then record { of = without_pointer types f.of; path = path ++ n ∷ []; indirect = indirect || is_pointer (term_at types f.of) } ∷ [] else []) ≡ b && p (without_pointer types f.of)
          by true = or_false (p (without_pointer types f.of))
          by false = refl
  embedded_inner p path indirect _ = refl

  inner_mono : (p q : Property) → Within p q → (t : Option TypeTerm) → inner p t ≡ true → inner q t ≡ true
  unfolding inner
  inner_mono p q h (Some (Struct fields)) e =
      any_mono (λ f. f.embedded && p (without_pointer types f.of)) (λ f. f.embedded && q (without_pointer types f.of))
      (λ f k. and_mono f.embedded _ _ (h (without_pointer types f.of)) k) fields e
  inner_mono p q h _ e = e

  next : Property → Property
  next p x = has x || inner p (term_at types (underlying_of types x))

  mono : (p q : Property) → Within p q → Within (next p) (next q)
  unfolding next
  mono p q h x e = or_mono (has x) _ _ (inner_mono p q h (term_at types (underlying_of types x))) e

  -- whether something is selected n embedded fields below a type
  abbrev below_has : ℕ → Property
  below_has zero = has
  below_has (suc n) = λ x. inner (below_has n) (term_at types (underlying_of types x))

  some_below : (n : ℕ) (place : Place) → is_some_item (members_below n types wanted place) ≡ below_has n place.of
  unfolding members_below
  some_below zero place = selected_has place
  some_below (suc n) place =
      some_flat_map (members_below n types wanted) (λ q. below_has n q.of) (some_below n) (embedded_in types place)
      ∙ embedded_inner (below_has n) place.path place.indirect (term_at types (underlying_of types place.of))

  -- what one place of a type has below it, each has
  pub barren_from : (d : ℕ) (place : Place) (id : TypeId) → place.of ≡ id → members_below d types wanted place ≡ [] → IsBarren d types wanted id
  barren_from d place id is none other same =
      some_item (members_below d types wanted other)
      (some_below d other ∙ ap (below_has d) (same ∙ sym is) ∙ sym (some_below d place) ∙ ap is_some_item none)

  pub barren_or_some : (d : ℕ) (id : TypeId) → IsBarren d types wanted id ⊎ ((place : Place) → place.of ≡ id → 1 ≤ length (members_below d types wanted place))
  barren_or_some d id = by (below_has d id) refl
    where
      long : (xs : List Member) → is_some_item xs ≡ true → 1 ≤ length xs
      long [] h = absurd (true≢false (sym h))
      long (x ∷ xs) h = omega arith

      by : (b : Bool) → below_has d id ≡ b → IsBarren d types wanted id ⊎ ((place : Place) → place.of ≡ id → 1 ≤ length (members_below d types wanted place))
      by true e = inr (λ place same. long (members_below d types wanted place) (some_below d place ∙ ap (below_has d) same ∙ e))
      by false e = inl (λ place same. some_item (members_below d types wanted place) (some_below d place ∙ ap (below_has d) same ∙ e))

  -- ---- what shows by some depth

  inner_none : (p : Property) (n : ℕ) → ((x : TypeId) → ((k : ℕ) → k < n → below_has k x ≡ false) → p x ≡ false) → (t : Option TypeTerm)
      → ((k : ℕ) → k < n → inner (below_has k) t ≡ false) → inner p t ≡ false
  unfolding inner
  inner_none p n h (Some (Struct fields)) none = each fields none
    where
      one : (b : Bool) (y : TypeId) → ((k : ℕ) → k < n → b && below_has k y ≡ false) → b && p y ≡ false
      one true y g = h y g
      one false y g = refl

      each : (fields : List Field) → ((k : ℕ) → k < n → list_any (λ f. f.embedded && below_has k (without_pointer types f.of)) fields ≡ false)
          → list_any (λ f. f.embedded && p (without_pointer types f.of)) fields ≡ false
      each [] g = refl
      each (f ∷ fields) g =
          (λ i. one f.embedded (without_pointer types f.of) (λ k less. or_left_false _ _ (g k less)) i || list_any (λ f. f.embedded && p (without_pointer types f.of)) fields)
          ∙ each fields (λ k less. or_right_false (f.embedded && below_has k (without_pointer types f.of)) _ (g k less))
  inner_none p n h _ none = refl

module _ (types : Table) (counts : length types.definitions ≡ length types.terms) (wanted : Wanted) where
  inside : (p : Property) (x : TypeId) → length types.terms ≤ x.number → next types wanted p x ≡ true → ⊥
  unfolding next has here inner
  inside p x h e =
      let none : next types wanted p x ≡ false = λ i.
      (list_any (λ m. is_wanted wanted m.name m.package) (undefined types counts x h i).methods || here types wanted (termless types counts x h i))
      || inner types wanted p (termless types counts x h i) in
      true≢false (sym e ∙ none)

  abbrev shows : ℕ → Property
  shows n = steps (next types wanted) (mono types wanted) (length types.terms) inside n

  nothing_shows : (n : ℕ) (x : TypeId) → ((k : ℕ) → k < n → below_has types wanted k x ≡ false) → shows n x ≡ false
  unfolding next
  nothing_shows zero x none = refl
  nothing_shows (suc n) x none =
      (λ i. none 0 (omega arith) i || inner types wanted (shows n) (term_at types (underlying_of types x)))
      ∙ inner_none types wanted (shows n) n (nothing_shows n) (term_at types (underlying_of types x)) (λ k less. none (suc k) (omega arith))

  shown : (n : ℕ) → Within (below_has types wanted n) (shows (suc n))
  unfolding next
  shown zero x h = ap (λ b. b || inner types wanted (shows 0) (term_at types (underlying_of types x))) h
  shown (suc n) x h = or_right (has types wanted x) _ (inner_mono types wanted (below_has types wanted n) (shows (suc n)) (shown n) (term_at types (underlying_of types x)) h)

  -- what is not selected above as many levels as there are types is selected nowhere
  pub none_at_all : (a : TypeId) → NoneAbove (length types.terms) types wanted a → (n : ℕ) → selected_at n types wanted a ≡ []
  none_at_all a none n =
      let place : Place = start types a in
      let hidden : shows (length types.terms) place.of ≡ false =
      nothing_shows (length types.terms) place.of (λ k less. sym (some_below types wanted k place) ∙ ap is_some_item (none k less)) in
      some_item (selected_at n types wanted a) (some_below types wanted n place ∙ never (below_has types wanted n place.of) refl (never_shows (next types wanted) (mono types wanted) (length types.terms) inside place.of hidden (suc n)))
    where
      never : (b : Bool) → below_has types wanted n (start types a).of ≡ b → shows (suc n) (start types a).of ≡ false → b ≡ false
      never true e h = absurd (true≢false (sym (shown n (start types a).of e) ∙ h))
      never false e h = refl

-- ---- vectors without items

pub no_items : {X : Type 0} (xs : List X) (n : ℕ) (b : Bool) → n ≡ length xs → b ≡ nat_eq n 0 → b ≡ true → xs ≡ []
no_items xs n b len is h = nil_from_length xs (sym len ∙ (unsigned_Decides n 0).0 (sym is ∙ h))
