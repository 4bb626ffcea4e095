-- What selectors find in settled types, and where their values may be assigned, while others come.
use Rattle.std.proofs.Common.{◌≡◌, ◌≢◌, ℕ, zero, suc, ◌+◌, ◌<◌, Bool, true, false, not, ◌&&◌, ◌||◌, if◌then◌else◌, slice_index_or, List, [], ◌∷◌, ◌++◌, map, Option, Some, None, Result, Ok, Err, IsTrue, ◌↔◌, refl, sym, ap, subst, ◌∙◌, ◌⊎◌, inl, inr}
use Rattle.std.specs.List.{list_all, flat_map, All}
use Rattle.go_base.specs.declared.ids.TypeId.{TypeId}
use Rattle.go_type.specs.declared.members.Member.{Member}
use Rattle.go_type.specs.declared.members.Wanted.{Wanted}
use Rattle.go_type.specs.declared.methods.SelectError.{SelectError}
use Rattle.go_type.specs.declared.methods.SelectError.TheVariants as error
use Rattle.go_type.specs.declared.methods.Selection.{Selection}
use Rattle.go_type.specs.declared.term.Field.{Field}
use Rattle.go_type.specs.declared.term.TypeTerm.{TypeTerm}
use Rattle.go_type.specs.declared.term.TypeTerm.TheVariants.{Chan, Interface, Pointer, Struct}
use Rattle.go_type.specs.Assignable.{HasMethodOf, HasMethodsOf, Implements, Narrows, HasLikeUnderlying, IsOneUnnamed, Fits, Assignable, has_values, is_named, underlying_term_of}
use Rattle.go_type.specs.declared.term.Dir.TheVariants as dir
use Rattle.go_type.specs.declared.term.MethodType.{MethodType}
use Rattle.go_type.specs.Grows.{Grows, AreSettled, KeepsMethods}
use Rattle.go_type.specs.Held.{IsHeld, term_parts}
use Rattle.go_type.specs.Identity.{Identical}
use Rattle.go_type.specs.MethodSets.{HasMember}
use Rattle.go_type.specs.Same.{both, same_id, same_id-Decides}
use Rattle.go_type.specs.Selector.{Place, flat_map_from, method_named, members_named, embedded_by, embedded_of, selected_in, members_below, selected_at, NoneAbove, Finds, SelectsFrom, without_pointer, pointed, base, base_by, start, is_pointer, is_interface, is_declared_pointer}
use Rattle.go_type.specs.Table.{Table, term_at, underlying_of, is_name}
use Rattle.go_type.proofs.Growing.{term_of, same_underlying, same_term_at, same_underlying_term, under}
use Rattle.go_type.proofs.IdenticalTypes.{identical_is}

-- identical types are one type in each table
pub identical_on : (t u : Table) → IsHeld t → (a b : TypeId) → Identical t a b → Identical u a b
identical_on t u held a b h = (0, (same_id-Decides a b).1 (identical_is t held.distinct h.0 a b h.1))

pointed_in : (p : TypeId → Bool) (t : TypeTerm) (x : TypeId) → p x ≡ true → list_all p (term_parts t) ≡ true → p (pointed (Some t) x) ≡ true
pointed_in p (Pointer elem) x h all = (both (p elem) true all).0
pointed_in p _ x h all = h

chosen_in : (p : TypeId → Bool) (b : Bool) (x y : TypeId) → p x ≡ true → p y ≡ true → p (if b then x else y) ≡ true
chosen_in p true x y h k = h
chosen_in p false x y h k = k

module _ (old later : Table) (before : IsHeld old) (after : IsHeld later) (grows : Grows old later) (p : TypeId → Bool) (settled : AreSettled old p) (keeps : KeepsMethods old later p) where
  term_kept : (x : TypeId) → p x ≡ true → term_at later x ≡ term_at old x
  term_kept = same_term_at old later before after grows p settled

  under_kept : (x : TypeId) → p x ≡ true → term_at later (underlying_of later x) ≡ term_at old (underlying_of old x)
  under_kept = same_underlying_term old later before after grows p settled

  under_of : (x : TypeId) → p x ≡ true → (t : TypeTerm) × ((term_at old (underlying_of old x) ≡ Some t) × (list_all p (term_parts t) ≡ true))
  under_of = under old later before after grows p settled

  selected_kept : (wanted : Wanted) (place : Place) → p place.of ≡ true → selected_in later wanted place ≡ selected_in old wanted place
  selected_kept wanted place h = λ i. flat_map (method_named wanted place.path place.indirect) (keeps place.of h i) ++ members_named wanted place.path place.indirect (under_kept place.of h i)

  pointed_kept : (x : TypeId) → p x ≡ true → without_pointer later x ≡ without_pointer old x
  pointed_kept x h = ap (λ t. pointed t x) (term_kept x h)

  pointed_settled : (x : TypeId) → p x ≡ true → p (without_pointer old x) ≡ true
  pointed_settled x h =
      let t = term_of old later before after grows p settled x h in
      ap (λ s. p (pointed s x)) t.1 ∙ pointed_in p t.0 x h (settled.parts x t.0 h t.1)

  embedded_kept : (path : List ℕ) (indirect : Bool) (n : ℕ) (fields : List Field) → list_all p (map (λ field. field.of) fields) ≡ true
      → flat_map_from (embedded_by later path indirect) n fields ≡ flat_map_from (embedded_by old path indirect) n fields
  embedded_kept path indirect n [] all = refl
  embedded_kept path indirect n (f ∷ fields) all =
      let parts = both (p f.of) _ all in
      λ i. (if f.embedded then record { of = pointed_kept f.of parts.0 i; path = path ++ n ∷ []; indirect = indirect || is_pointer (term_kept f.of parts.0 i) } ∷ [] else [])
      ++ embedded_kept path indirect (n + 1) fields parts.1 i

  embedded_same : (g h : Place → List Member) → ((q : Place) → p q.of ≡ true → g q ≡ h q) → (path : List ℕ) (indirect : Bool) (n : ℕ) (fields : List Field)
      → list_all p (map (λ field. field.of) fields) ≡ true
      → flat_map g (flat_map_from (embedded_by old path indirect) n fields) ≡ flat_map h (flat_map_from (embedded_by old path indirect) n fields)
  embedded_same g h same path indirect n [] all = refl
  embedded_same g h same path indirect n (f ∷ fields) all =
      let parts = both (p f.of) _ all in
      let place : Place = record { of = without_pointer old f.of; path = path ++ n ∷ []; indirect = indirect || is_pointer (term_at old f.of) } in
      by f.embedded place (same place (pointed_settled f.of parts.0)) (embedded_same g h same path indirect (n + 1) fields parts.1)
    where
      rest : List Place
      rest = flat_map_from (embedded_by old path indirect) (n + 1) fields

      by : (b : Bool) (place : Place) → g place ≡ h place → flat_map g rest ≡ flat_map h rest
          → flat_map g ((if b then place ∷ [] else []) ++ rest) ≡ flat_map h ((if b then place ∷ [] else []) ++ rest)
      by true place is more = λ i. is i ++ more i
      by false place is more = more

  embedded_below : (g h : Place → List Member) → ((q : Place) → p q.of ≡ true → g q ≡ h q) → (path : List ℕ) (indirect : Bool) (t : TypeTerm) → list_all p (term_parts t) ≡ true
      → flat_map g (embedded_of later path indirect (Some t)) ≡ flat_map h (embedded_of old path indirect (Some t))
  embedded_below g h same path indirect (Struct fields) all =
      ap (flat_map g) (embedded_kept path indirect 0 fields all) ∙ embedded_same g h same path indirect 0 fields all
  embedded_below g h same path indirect _ all = refl

  below_kept : (n : ℕ) (wanted : Wanted) (place : Place) → p place.of ≡ true → members_below n later wanted place ≡ members_below n old wanted place
  unfolding members_below
  below_kept zero wanted place h = selected_kept wanted place h
  below_kept (suc n) wanted place h =
      let t = under_of place.of h in
      ap (λ s. flat_map (members_below n later wanted) (embedded_of later place.path place.indirect s)) (under_kept place.of h ∙ t.1.0)
      ∙ embedded_below (members_below n later wanted) (members_below n old wanted) (below_kept n wanted) place.path place.indirect t.0 t.1.1
      ∙ sym (ap (λ s. flat_map (members_below n old wanted) (embedded_of old place.path place.indirect s)) t.1.0)

  base_in : (a : TypeId) → p a ≡ true → (t : TypeTerm) → list_all p (term_parts t) ≡ true → (base_by later (Some t) a ≡ base_by old (Some t) a) × (p (base_by old (Some t) a) ≡ true)
  base_in a h (Pointer elem) all =
      let part = (both (p elem) true all).0 in
      ((λ i. if is_interface (under_kept elem part i) then a else elem), chosen_in p (is_interface (term_at old (underlying_of old elem))) a elem h part)
  base_in a h _ all = (refl, h)

  base_kept : (a : TypeId) → p a ≡ true → (base later a ≡ base old a) × (p (base old a) ≡ true)
  base_kept a h =
      let t = under_of a h in
      let is = base_in a h t.0 t.1.1 in
      (ap (λ s. base_by later s a) (under_kept a h ∙ t.1.0) ∙ is.0 ∙ sym (ap (λ s. base_by old s a) t.1.0), ap (λ s. p (base_by old s a)) t.1.0 ∙ is.1)

  pub at_kept : (wanted : Wanted) (a : TypeId) → p a ≡ true → (n : ℕ) → selected_at n later wanted a ≡ selected_at n old wanted a
  at_kept wanted a h n =
      let begins : start later a ≡ start old a = (λ i. record { of = (base_kept a h).0 i; path = []; indirect = is_pointer (under_kept a h i) }) in
      ap (members_below n later wanted) begins ∙ below_kept n wanted (start old a) (base_kept a h).1

  pub pointer_kept : (a : TypeId) → p a ≡ true → is_declared_pointer later a ≡ is_declared_pointer old a
  pointer_kept a h = λ i. is_pointer (under_kept a h i) && not (is_pointer (term_kept a h i))

-- ---- what is selected in one table is in another, where the same is at each depth

module _ (t u : Table) (wanted : Wanted) (a : TypeId) (same : (n : ℕ) → selected_at n u wanted a ≡ selected_at n t wanted a) where
  pub finds_by : (r : Result Member SelectError) → Finds t wanted a r → Finds u wanted a r
  finds_by (Ok member) f = (f.0, same f.0 ∙ f.1, λ k less. same k ∙ f.2 k less)
  finds_by (Err (error.Ambiguous first second)) f =
      let rest = f.1.1.1.1 in
      (f.0, (f.1.0, (f.1.1.0, (f.1.1.1.0, (same f.0 ∙ rest.0, rest.1, rest.2, λ k less. same k ∙ rest.3 k less)))))
  finds_by (Err error.Absent) f = λ n. same n ∙ f n
  finds_by (Err error.OutOfMemory) f = f

  pub member_by : (is_declared_pointer u a ≡ is_declared_pointer t a) → u.blank ≡ t.blank → (member : Member) → HasMember t a wanted member → HasMember u a wanted member
  member_by pointer blank member f = (finds_by (Ok member) f.0, f.1, pointer ∙ f.2, f.3, ap (λ b. is_name b wanted.name) blank ∙ f.4)

pub finds_kept : (old later : Table) → IsHeld old → IsHeld later → Grows old later → (p : TypeId → Bool) (a : TypeId) (wanted : Wanted) (r : Result Member SelectError) → AreSettled old p → KeepsMethods old later p
    → p a ≡ true → Finds old wanted a r ↔ Finds later wanted a r
finds_kept old later before after grows p a wanted r settled keeps h =
    let same = at_kept old later before after grows p settled keeps wanted a h in
    (finds_by old later wanted a same r, finds_by later old wanted a (λ n. sym (same n)) r)

pub member_kept : (old later : Table) → IsHeld old → IsHeld later → Grows old later → (p : TypeId → Bool) (a : TypeId) (wanted : Wanted) (member : Member) → AreSettled old p → KeepsMethods old later p
    → p a ≡ true → HasMember old a wanted member ↔ HasMember later a wanted member
member_kept old later before after grows p a wanted member settled keeps h =
    let same = at_kept old later before after grows p settled keeps wanted a h in
    let pointer = pointer_kept old later before after grows p settled keeps a h in
    (member_by old later wanted a same pointer grows.blank member, member_by later old wanted a (λ n. sym (same n)) (sym pointer) (sym grows.blank) member)

-- ---- what is assignable

all_by : {X : Type 0} (P Q : X → Type 0) → ((x : X) → P x → Q x) → (xs : List X) → All P xs → All Q xs
all_by P Q h xs all = λ k d less. h (slice_index_or xs k d) (all k d less)

module _ (old later : Table) (before : IsHeld old) (after : IsHeld later) (grows : Grows old later) (p : TypeId → Bool) (settled : AreSettled old p) (keeps : KeepsMethods old later p) where
  methods_on : (a : TypeId) → p a ≡ true → (t : Option TypeTerm) → HasMethodsOf old a t ↔ HasMethodsOf later a t
  methods_on a h (Some (Interface methods)) = (
    all_by (HasMethodOf old a) (HasMethodOf later a) (λ m f. (f.0, ((member_kept old later before after grows p a _ f.0 settled keeps h).0 f.1.0, identical_on old later before _ _ f.1.1))) methods,
    all_by (HasMethodOf later a) (HasMethodOf old a) (λ m f. (f.0, ((member_kept old later before after grows p a _ f.0 settled keeps h).1 f.1.0, identical_on later old after _ _ f.1.1))) methods,
  )
  methods_on a h _ = (λ f. absurd f, λ f. absurd f)

  pub implements_kept : (a interface : TypeId) → p a ≡ true → p interface ≡ true → Implements old a interface ↔ Implements later a interface
  implements_kept a interface h k =
      let same = under_kept old later before after grows p settled keeps interface k in
      let on = methods_on a h (term_at old (underlying_of old interface)) in
      (λ f. subst (HasMethodsOf later a) (sym same) (on.0 f), λ f. on.1 (subst (HasMethodsOf later a) same f))

narrows_by : (t u : Table) → ((x y : TypeId) → Identical t x y → Identical u x y) → (a b : Option TypeTerm) → Narrows t a b → Narrows u a b
narrows_by t u is (Some (Chan dir.Both elem)) (Some (Chan to other)) f = is elem other f
narrows_by t u is _ _ f = absurd f

assignable_by : (t u : Table) → ((x y : TypeId) → Identical t x y → Identical u x y) → (from to : TypeId) → term_at u from ≡ term_at t from → term_at u to ≡ term_at t to → underlying_of u from ≡ underlying_of t from
    → underlying_of u to ≡ underlying_of t to → term_at u (underlying_of u from) ≡ term_at t (underlying_of t from) → term_at u (underlying_of u to) ≡ term_at t (underlying_of t to)
    → (Implements t from to → Implements u from to) → Assignable t from to → Assignable u from to
assignable_by t u is from to tf ty uf ut vf vt implements f = (
  ap has_values tf ∙ f.0,
  elim f.1 [
    | inl same ↦ inl (is from to same)
    | inr rest ↦ inr (elim rest [
      | inl like ↦ inl (under_by like.0, ap not (λ i. is_named (tf i) && is_named (ty i)) ∙ like.1)
      | inr has ↦ inr (implements has)
    ])
  ],
)
  where
    under_by : HasLikeUnderlying t from to → HasLikeUnderlying u from to
    under_by (inl same) = inl (subst (λ x. Identical u x (underlying_of u to)) (sym uf) (subst (λ y. Identical u (underlying_of t from) y) (sym ut) (is (underlying_of t from) (underlying_of t to) same)))
    under_by (inr narrow) = inr (subst (λ x. Narrows u x (term_at u (underlying_of u to))) (sym vf) (subst (λ y. Narrows u (term_at t (underlying_of t from)) y) (sym vt) (narrows_by t u is _ _ narrow)))

pub assignable_kept : (old later : Table) → IsHeld old → IsHeld later → Grows old later → (p : TypeId → Bool) (from to : TypeId) → AreSettled old p → KeepsMethods old later p → p from ≡ true → p to ≡ true
    → Assignable old from to ↔ Assignable later from to
assignable_kept old later before after grows p from to settled keeps h k =
    let tf = same_term_at old later before after grows p settled from h in
    let ty = same_term_at old later before after grows p settled to k in
    let uf = same_underlying old later before after grows p settled from h in
    let ut = same_underlying old later before after grows p settled to k in
    let vf = same_underlying_term old later before after grows p settled from h in
    let vt = same_underlying_term old later before after grows p settled to k in
    let on = implements_kept old later before after grows p settled keeps from to h k in (
      assignable_by old later (identical_on old later before) from to tf ty uf ut vf vt on.0,
      assignable_by later old (identical_on later old after) from to (sym tf) (sym ty) (sym uf) (sym ut) (sym vf) (sym vt) on.1,
    )
