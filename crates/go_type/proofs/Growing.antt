-- Types that are settled keep what is true of them while others come.
use Rattle.std.proofs.Common.{◌≡◌, ◌≢◌, ℕ, zero, suc, ◌+◌, ◌*◌, ◌<◌, max, Bool, true, false, true≢false, not, is_some, ◌&&◌, ◌||◌, if◌then◌else◌, List, [], ◌∷◌, ◌++◌, map, length, Option, Some, None, unwrap_or, slice_get, IsTrue, ◌↔◌, refl, sym, ap, subst, ◌∙◌, ◌⊎◌, inl, inr}
use Rattle.std.specs.List.{list_any, list_all, sum_by, fold}
use borrow.Author.Tests.{ltb-true}
use Rattle.go_base.specs.declared.ids.TypeId.{TypeId}
use Rattle.go_type.specs.declared.methods.MethodEntry.{MethodEntry}
use Rattle.go_type.specs.declared.term.Basic.{Basic}
use Rattle.go_type.specs.declared.term.Basic.TheVariants as basic
use Rattle.go_type.specs.declared.term.Field.{Field}
use Rattle.go_type.specs.declared.term.MethodType.{MethodType}
use Rattle.go_type.specs.declared.term.TypeTerm.{TypeTerm}
use Rattle.go_type.specs.declared.term.TypeTerm.TheVariants.{Basic as Plain, Declared, Pointer, Slice, Array, Map, Chan, Func, Struct, Interface, Tuple, Iter}
use Rattle.go_type.specs.declared.types.Definition.{Definition}
use Rattle.go_type.specs.Comparable.{incomparable_term, incomparable_to, Comparable}
use Rattle.go_type.specs.Conditions.{is_held, is_definable, CanDefine, takes_method, is_own_method}
use Rattle.go_type.specs.Grows.{Grows, AreSettled, IsDefinedIn, KeepsMethods}
use Rattle.go_type.specs.Held.{IsHeld, term_parts}
use Rattle.go_type.specs.Same.{both, each}
use Rattle.go_type.specs.Sizes.{is_declared, leaves_of, leaves_to, parts_pass, nests_as_part, nests_within}
use Rattle.go_type.specs.Table.{Table, same_term, term_at, definition_at, underlying_of, with_next, with_term, with_definition, with_underlying, with_method, no_definition}
use Rattle.go_type.proofs.Held.{inside, declared_held}
use Rattle.go_type.proofs.Kept.{stays, some_term, more_default, either, there, elsewhere}

-- ---- the same tests of the same parts

plain_same : (f g : TypeId → Bool) (kind : Basic) → incomparable_term f (Some (Plain kind)) ≡ incomparable_term g (Some (Plain kind))
plain_same f g basic.UntypedNil = refl
plain_same f g _ = refl

module _ (p : TypeId → Bool) where
  -- f and g do the same at the types of p
  abbrev Agree : {X : Type 0} → (TypeId → X) → (TypeId → X) → Type 0
  Agree {X} f g = (x : TypeId) → p x ≡ true → f x ≡ g x

  any_fields : (f g : TypeId → Bool) → Agree f g → (fields : List Field) → list_all p (map (λ field. field.of) fields) ≡ true
      → list_any (λ field. f field.of) fields ≡ list_any (λ field. g field.of) fields
  any_fields f g h [] all = refl
  any_fields f g h (field ∷ fields) all =
      let parts = both (p field.of) _ all in λ i. h field.of parts.0 i || any_fields f g h fields parts.1 i

  all_fields : (f g : TypeId → Bool) → Agree f g → (fields : List Field) → list_all p (map (λ field. field.of) fields) ≡ true
      → list_all (λ field. f field.of) fields ≡ list_all (λ field. g field.of) fields
  all_fields f g h [] all = refl
  all_fields f g h (field ∷ fields) all =
      let parts = both (p field.of) _ all in λ i. h field.of parts.0 i && all_fields f g h fields parts.1 i

  all_methods : (f g : TypeId → Bool) → Agree f g → (methods : List MethodType) → list_all p (map (λ method. method.of) methods) ≡ true
      → list_all (λ method. f method.of) methods ≡ list_all (λ method. g method.of) methods
  all_methods f g h [] all = refl
  all_methods f g h (method ∷ methods) all =
      let parts = both (p method.of) _ all in λ i. h method.of parts.0 i && all_methods f g h methods parts.1 i

  all_ids : (f g : TypeId → Bool) → Agree f g → (ids : List TypeId) → list_all p ids ≡ true → list_all f ids ≡ list_all g ids
  all_ids f g h [] all = refl
  all_ids f g h (id ∷ ids) all = let parts = both (p id) _ all in λ i. h id parts.0 i && all_ids f g h ids parts.1 i

  sum_from : (f g : TypeId → ℕ) → Agree f g → (fields : List Field) → list_all p (map (λ field. field.of) fields) ≡ true
      → (n : ℕ) → fold (λ m field. m + f field.of) n fields ≡ fold (λ m field. m + g field.of) n fields
  sum_from f g h [] all n = refl
  sum_from f g h (field ∷ fields) all n =
      let parts = both (p field.of) _ all in
      ap (λ k. fold (λ m (x : Field). m + f x.of) (n + k) fields) (h field.of parts.0) ∙ sum_from f g h fields parts.1 (n + g field.of)

  sum_fields : (f g : TypeId → ℕ) → Agree f g → (fields : List Field) → list_all p (map (λ field. field.of) fields) ≡ true
      → sum_by (λ field. f field.of) fields ≡ sum_by (λ field. g field.of) fields
  sum_fields f g h fields all = sum_from f g h fields all 0

  incomparable_same : (f g : TypeId → Bool) → Agree f g → (t : TypeTerm) → list_all p (term_parts t) ≡ true → incomparable_term f (Some t) ≡ incomparable_term g (Some t)
  incomparable_same f g h (Array len elem) all = h elem (both (p elem) _ all).0
  incomparable_same f g h (Struct fields) all = any_fields f g h fields all
  incomparable_same f g h (Plain kind) all = plain_same f g kind
  incomparable_same f g h _ all = refl

  leaves_same : (f g : TypeId → ℕ) → Agree f g → (t : TypeTerm) → list_all p (term_parts t) ≡ true → leaves_of f (Some t) ≡ leaves_of g (Some t)
  leaves_same f g h (Array len elem) all = ap (λ n. max 1 (len * n)) (h elem (both (p elem) _ all).0)
  leaves_same f g h (Struct fields) all = ap (max 1) (sum_fields f g h fields all)
  leaves_same f g h _ all = refl

  split_all : (xs ys : List TypeId) → list_all p (xs ++ ys) ≡ true → (list_all p xs ≡ true) × (list_all p ys ≡ true)
  split_all [] ys h = (refl, h)
  split_all (x ∷ xs) ys h = let parts = both (p x) _ h in let rest = split_all xs ys parts.1 in (each (p x) _ parts.0 rest.0, rest.1)

  pass_same : (f g f' g' : TypeId → Bool) → Agree f g → Agree f' g' → (t : TypeTerm) → list_all p (term_parts t) ≡ true → parts_pass f f' (Some t) ≡ parts_pass g g' (Some t)
  pass_same f g f' g' h h' (Plain kind) all = refl
  pass_same f g f' g' h h' (Declared name) all = refl
  pass_same f g f' g' h h' (Pointer elem) all = h' elem (both (p elem) _ all).0
  pass_same f g f' g' h h' (Slice elem) all = h' elem (both (p elem) _ all).0
  pass_same f g f' g' h h' (Array len elem) all = h elem (both (p elem) _ all).0
  pass_same f g f' g' h h' (Map key elem) all =
      let first = both (p key) _ all in λ i. h' key first.0 i && h' elem (both (p elem) _ first.1).0 i
  pass_same f g f' g' h h' (Chan dir elem) all = h' elem (both (p elem) _ all).0
  pass_same f g f' g' h h' (Func signature) all =
      let parts = split_all signature.params signature.results all in λ i. all_ids f' g' h' signature.params parts.0 i && all_ids f' g' h' signature.results parts.1 i
  pass_same f g f' g' h h' (Struct fields) all = all_fields f g h fields all
  pass_same f g f' g' h h' (Interface methods) all = all_methods f' g' h' methods all
  pass_same f g f' g' h h' (Tuple parts) all = all_ids f' g' h' parts all
  pass_same f g f' g' h h' (Iter over) all = h' over (both (p over) _ all).0

-- ---- what stays of settled types

module _ (old later : Table) (before : IsHeld old) (after : IsHeld later) (grows : Grows old later) (p : TypeId → Bool) (settled : AreSettled old p) where
  pub term_of : (x : TypeId) → p x ≡ true → (t : TypeTerm) × (term_at old x ≡ Some t)
  term_of x h = some_term old.terms x.number (ltb-true _ _ (settled.held x h))

  pub same_term_at : (x : TypeId) → p x ≡ true → term_at later x ≡ term_at old x
  same_term_at x h = let t = term_of x h in grows.terms x t.0 t.1 ∙ sym t.1

  undefined : (types : Table) → IsHeld types → (x : TypeId) → is_declared (term_at types x) ≡ false → (definition_at types x).underlying ≡ None
  undefined types held x plain = by (definition_at types x).underlying refl
    where
      by : (u : Option TypeId) → (definition_at types x).underlying ≡ u → u ≡ None
      by (Some u) e = absurd (true≢false (sym (held.defined x u e).declared ∙ plain))
      by None e = refl

  -- the underlying type is the same, and one of the set
  stands_for : (x : TypeId) → p x ≡ true → (underlying_of later x ≡ underlying_of old x) × (p (underlying_of old x) ≡ true)
  stands_for x h = by (is_declared (term_at old x)) refl
    where
      by : (b : Bool) → is_declared (term_at old x) ≡ b → (underlying_of later x ≡ underlying_of old x) × (p (underlying_of old x) ≡ true)
      by true e =
          let is = settled.defined x h e in (
            ap (λ u. unwrap_or u x) (grows.defined x is.underlying is.defined) ∙ sym (ap (λ u. unwrap_or u x) is.defined),
            ap (λ u. p (unwrap_or u x)) is.defined ∙ is.there,
          )
      by false e =
          let none = undefined old before x e in
          let still = undefined later after x (ap is_declared (same_term_at x h) ∙ e) in (
            ap (λ u. unwrap_or u x) still ∙ sym (ap (λ u. unwrap_or u x) none),
            ap (λ u. p (unwrap_or u x)) none ∙ h,
          )

  pub same_underlying : (x : TypeId) → p x ≡ true → underlying_of later x ≡ underlying_of old x
  same_underlying x h = (stands_for x h).0

  pub same_underlying_term : (x : TypeId) → p x ≡ true → term_at later (underlying_of later x) ≡ term_at old (underlying_of old x)
  same_underlying_term x h = ap (term_at later) (stands_for x h).0 ∙ same_term_at (underlying_of old x) (stands_for x h).1

  -- the term of the underlying type, whose parts are of the set
  pub under : (x : TypeId) → p x ≡ true → (t : TypeTerm) × ((term_at old (underlying_of old x) ≡ Some t) × (list_all p (term_parts t) ≡ true))
  under x h = let u = stands_for x h in let t = term_of (underlying_of old x) u.1 in (t.0, (t.1, settled.parts (underlying_of old x) t.0 u.1 t.1))

  pub incomparable_kept : (n : ℕ) (x : TypeId) → p x ≡ true → incomparable_to n later x ≡ incomparable_to n old x
  incomparable_kept zero x h = refl
  incomparable_kept (suc n) x h =
      let t = under x h in
      ap (incomparable_term (incomparable_to n later)) (same_underlying_term x h ∙ t.1.0) ∙ incomparable_same p (incomparable_to n later) (incomparable_to n old) (incomparable_kept n) t.0 t.1.1
      ∙ sym (ap (incomparable_term (incomparable_to n old)) t.1.0)

  pub comparable_kept : (x : TypeId) → p x ≡ true → Comparable old x ↔ Comparable later x
  comparable_kept x h = (λ all n. incomparable_kept n x h ∙ all n, λ all n. sym (incomparable_kept n x h) ∙ all n)

  pub leaves_kept : (n : ℕ) (x : TypeId) → p x ≡ true → leaves_to n later x ≡ leaves_to n old x
  leaves_kept zero x h = refl
  leaves_kept (suc n) x h =
      let t = under x h in
      ap (leaves_of (leaves_to n later)) (same_underlying_term x h ∙ t.1.0) ∙ leaves_same p (leaves_to n later) (leaves_to n old) (leaves_kept n) t.0 t.1.1
      ∙ sym (ap (leaves_of (leaves_to n old)) t.1.0)

  part_kept : (n : ℕ) → ((x : TypeId) → p x ≡ true → nests_within n later x ≡ nests_within n old x) → (x : TypeId) → p x ≡ true
      → nests_as_part n (nests_within n later) later x ≡ nests_as_part n (nests_within n old) old x
  part_kept zero same x h = refl
  part_kept (suc n) same x h = λ i. if is_declared (same_term_at x h i) then true else same x h i

  pub nesting_kept : (n : ℕ) (x : TypeId) → p x ≡ true → nests_within n later x ≡ nests_within n old x
  nesting_kept zero x h = refl
  nesting_kept (suc n) x h =
      let t = under x h in
      ap (parts_pass (nests_within n later) (nests_as_part n (nests_within n later) later)) (same_underlying_term x h ∙ t.1.0)
      ∙ pass_same p (nests_within n later) (nests_within n old) (nests_as_part n (nests_within n later) later) (nests_as_part n (nests_within n old) old) (nesting_kept n) (part_kept n (nesting_kept n)) t.0 t.1.1
      ∙ sym (ap (parts_pass (nests_within n old) (nests_as_part n (nests_within n old) old)) t.1.0)

-- ---- how they grow

pub grows_on : (a b c : Table) → Grows a b → Grows b c → Grows a c
grows_on a b c h k = record {
  terms = λ id t e. k.terms id t (h.terms id t e);
  defined = λ id u e. k.defined id u (h.defined id u e);
  blank = k.blank ∙ h.blank;
}

pub grows_next : (types : Table) (term : TypeTerm) → Grows types (with_next term types)
grows_next types term = record {
  terms = λ id t e. stays types.terms (term ∷ []) id.number t e;
  defined = λ id u e. ap (λ (d : Definition). d.underlying) (more_default types.definitions no_definition id.number) ∙ e;
  blank = refl;
}

pub grows_term : (types : Table) (term : TypeTerm) → Grows types (with_term term types)
grows_term types term = by (list_any (same_term term) types.terms)
  where
    by : (b : Bool) → Grows types (if b then types else with_next term types)
    by true = record { terms = λ id t e. e; defined = λ id u e. e; blank = refl }
    by false = grows_next types term

module _ (types : Table) (held : IsHeld types) (id : TypeId) (less : id.number < length types.terms) (definition : Definition) where
  grows_changed : ((u : TypeId) → (definition_at types id).underlying ≡ Some u → definition.underlying ≡ Some u) → Grows types (with_definition id definition types)
  grows_changed keeps = record {
    terms = λ x t e. e;
    defined = λ x u e. by x u e (either types held id less definition x);
    blank = refl;
  }
    where
      by : (x u : TypeId) → (definition_at types x).underlying ≡ Some u → (x ≡ id) ⊎ (x.number ≢ id.number) → (definition_at (with_definition id definition types) x).underlying ≡ Some u
      by x u e (inl same) =
          ap (λ (d : Definition). d.underlying) (there types held id less definition x same) ∙ keeps u (sym (ap (λ (y : TypeId). (definition_at types y).underlying) same) ∙ e)
      by x u e (inr apart) = ap (λ (d : Definition). d.underlying) (elsewhere types held id less definition x apart) ∙ e

pub grows_underlying : (types : Table) → IsHeld types → (id u : TypeId) → CanDefine types id u → Grows types (with_underlying id u types)
grows_underlying types held id u can =
    let free = both (is_declared (term_at types id)) _ (both (is_declared (term_at types id) && not (is_some (definition_at types id).underlying)) (is_held types u) (both _ (not (is_declared (term_at types u))) can.0).0).0 in
    grows_changed types held id (declared_held types id free.0) (record { underlying = Some u; methods = (definition_at types id).methods })
    (λ v e. absurd (true≢false (sym (sym (ap (λ w. not (is_some w)) e) ∙ free.1))))

pub grows_method : (types : Table) → IsHeld types → (id : TypeId) (m : MethodEntry) → takes_method types id m ≡ true → Grows types (with_method id m types)
grows_method types held id m takes =
    let declared = (both (is_declared (term_at types id)) (is_own_method types m) (both (is_declared (term_at types id) && is_own_method types m) _ takes).0).0 in
    grows_changed types held id (declared_held types id declared) (record { underlying = (definition_at types id).underlying; methods = (definition_at types id).methods ++ m ∷ [] }) (λ v e. e)
