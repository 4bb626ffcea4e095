-- Which classes implement an interface: those of the least row that have all its methods.
use Rattle.std.proofs.Common.{◌≡◌, ◌⊎◌, ◌<◌, ◌++◌, ◌&&◌, ℕ, zero, suc, Bool, true, false, cond, List, [], ◌∷◌, Option, Some, None, inl, inr, refl, sym, ap, ◌∙◌, subst, length, true≢false, arith}
use Rattle.std.specs.List.{Contains, list_all, AllZip, filter}
use Rattle.go_base.specs.declared.ids.TypeId.{TypeId}
use Rattle.go_tree.specs.declared.program.Program.{Program}
use Rattle.go_type.specs.MethodSets.{IsMethod}
use Rattle.go_type.specs.Same.{both, each, same_id, same_id-Decides}
use Rattle.go_type.specs.Table.{Table, term_at}
use Rattle.go_type.specs.declared.methods.MethodEntry.{MethodEntry}
use Rattle.go_type.specs.declared.term.MethodType.{MethodType}
use Rattle.cg_numbers.specs.Alike.{bare}
use Rattle.cg_numbers.specs.Numbered.{IsAt, IsOnce}
use Rattle.cg_numbers.specs.declared.likeness.Likeness.{Likeness}
use Rattle.cg_numbers.specs.declared.numbers.Numbers.{Numbers}
use Rattle.cg_sets.specs.Candidates.{Fits, Implements}
use Rattle.cg_sets.specs.Classes.{AreClasses, method_at, key_of, MethodAt}
use Rattle.cg_sets.specs.Implementing.{methods_in, name_of, IsRequired, is_of, has_one, has_all, IsOneRow, AreImplementers}
use Rattle.cg_sets.specs.declared.classes.ClassMethod.{ClassMethod}
use Rattle.cg_sets.specs.declared.classes.Classes.{Classes}
use Rattle.cg_sets.specs.declared.classes.MethodName.{MethodName}
use Rattle.cg_sets.specs.declared.implementing.Required.{Required}
use Rattle.cg_solve.specs.Lists.{Has}
use Rattle.cg_solve.specs.Tables.{row}
use Rattle.cg_sets.proofs.RowRules.{from_filter, to_filter}
use Rattle.cg_solve.proofs.Members.{Has-Contains, Contains-Has}

-- ---- lists

pub zip_right : {A B : Type 0} (R : A → B → Type 0) (xs : List A) (ys : List B) (y : B) → AllZip R xs ys → Has ys y → (x : A) × Has xs x × R x y
zip_right R [] [] y h k = absurd k
zip_right R [] (z ∷ ys) y h k = absurd h
zip_right R (x ∷ xs) [] y h k = absurd k
zip_right R (x ∷ xs) (z ∷ ys) y h (inl e) = (x, inl refl, subst (R x) e h.0)
zip_right R (x ∷ xs) (z ∷ ys) y h (inr k) = let r = zip_right R xs ys y h.1 k in (r.0, inr r.1, r.2)

pub zip_left : {A B : Type 0} (R : A → B → Type 0) (xs : List A) (ys : List B) (x : A) → AllZip R xs ys → Has xs x → (y : B) × Has ys y × R x y
zip_left R [] [] x h k = absurd k
zip_left R [] (z ∷ ys) x h k = absurd h
zip_left R (w ∷ xs) [] x h k = absurd h
zip_left {A = A} R (w ∷ xs) (z ∷ ys) x h (inl e) = (z, inl refl, subst (λ (v : A). R v z) e h.0)
zip_left R (w ∷ xs) (z ∷ ys) x h (inr k) = let r = zip_left R xs ys x h.1 k in (r.0, inr r.1, r.2)

all_has : {A : Type 0} (f : A → Bool) (xs : List A) (x : A) → list_all f xs ≡ true → Has xs x → f x ≡ true
all_has f [] x h k = absurd k
all_has {A = A} f (y ∷ xs) x h (inl e) = subst (λ (z : A). f z ≡ true) e (both (f y) (list_all f xs) h).0
all_has f (y ∷ xs) x h (inr k) = all_has f xs x (both (f y) (list_all f xs) h).1 k

has_list_all : {A : Type 0} (f : A → Bool) (xs : List A) → ((x : A) → Has xs x → f x ≡ true) → list_all f xs ≡ true
has_list_all f [] h = refl
has_list_all f (y ∷ xs) h = each (f y) (list_all f xs) (h y (inl refl)) (has_list_all f xs (λ x k. h x (inr k)))

pub place_below : {A : Type 0} (xs : List A) (i : ℕ) (x : A) → IsAt xs i x → i < length xs
place_below [] i x h = absurd (none_there h)
  where
    none_there : {A : Type 0} {x : A} → ◌≡◌ {A = _} None (Some x) → ⊥
    none_there h = cc
place_below (y ∷ xs) zero x h = omega arith
place_below (y ∷ xs) (suc i) x h = let l = place_below xs i x h in omega arith

one_there : {A : Type 0} (xs : List A) (i : ℕ) (x y : A) → IsAt xs i x → IsAt xs i y → x ≡ y
one_there xs i x y h k = let e : Some x ≡ Some y = sym h ∙ k in cc

-- ---- one method

method_of : (of : TypeId) (found : Option ClassMethod) → is_of of found ≡ true → (x : ClassMethod) × (found ≡ Some x) × (x.of ≡ of)
method_of of None h = absurd (true≢false (sym h))
method_of of (Some x) h = (x, refl, (same_id-Decides x.of of).0 h)

to_method : (of : TypeId) (found : Option ClassMethod) (x : ClassMethod) → found ≡ Some x → x.of ≡ of → is_of of found ≡ true
to_method of found x h e = ap (is_of of) h ∙ (same_id-Decides x.of of).1 e

module _ (p : Program) (n : Numbers) (cs : Classes) (classes : AreClasses p n cs) (once : IsOnce cs.names.keys) where
  abbrev types : Table
  types = n.likeness.types

  abbrev bares : List TypeId
  bares = n.likeness.bares

  -- the method at a place that has what is required
  fits : (m : MethodType) (r : Required) (i : ℕ) → IsRequired n.likeness cs m r → has_one cs i r ≡ true → (id : TypeId) × (e : MethodEntry) × IsAt cs.list.types.keys i id × IsMethod types id e × Fits p types bares m e
  fits m r i q h =
      let x = method_of r.of (method_at cs i r.name) h in
      let found = classes.methods.only i r.name x.0 x.1 in
      let key : key_of found.1 ≡ name_of m = one_there cs.names.keys r.name (key_of found.1) (name_of m) found.4 q.named in
      let of : bare types bares found.1.of ≡ bare types bares m.of = sym found.5.of ∙ (x.2 ∙ q.of) in
      (found.0, found.1, found.2, found.3, (ap (λ (k : MethodName). k.name) key, ap (λ (k : MethodName). k.«package») key, of))

  has_fitting : (m : MethodType) (r : Required) (i : ℕ) (id : TypeId) (e : MethodEntry) → IsRequired n.likeness cs m r → IsAt cs.list.types.keys i id → IsMethod types id e → Fits p types bares m e → has_one cs i r ≡ true
  has_fitting m r i id e q at is fit =
      let found = classes.methods.whole i id e (place_below cs.list.types.keys i id at) at is in
      let key : key_of e ≡ name_of m = λ j. record { name = fit.0 j; «package» = fit.1 j } in
      let place : found.0 ≡ r.name = once found.0 r.name (name_of m) (subst (λ (k : MethodName). IsAt cs.names.keys found.0 k) key found.2) q.named in
      to_method r.of (method_at cs i r.name) found.1 (subst (λ (j : ℕ). method_at cs i j ≡ Some found.1) place found.3) (found.4.of ∙ (fit.2 ∙ sym q.of))

  pub named_of : (m : MethodType) (i : ℕ) (id : TypeId) (e : MethodEntry) → IsAt cs.list.types.keys i id → IsMethod types id e → Fits p types bares m e → (j : ℕ) × IsAt cs.names.keys j (name_of m)
  named_of m i id e at is fit =
      let found = classes.methods.whole i id e (place_below cs.list.types.keys i id at) at is in
      let key : key_of e ≡ name_of m = λ j. record { name = fit.0 j; «package» = fit.1 j } in
      (found.0, subst (λ (k : MethodName). IsAt cs.names.keys found.0 k) key found.2)

  -- ---- all methods

  module _ (interface : TypeId) (required : List Required) (places : List ℕ) (zip : AllZip (IsRequired n.likeness cs) (methods_in (term_at types interface)) required) (one : IsOneRow cs required places) where
    abbrev methods : List MethodType
    methods = methods_in (term_at types interface)

    some_required : (i : ℕ) → Has places i → (r : Required) × Has required r
    some_required i h = elim one [ inl g ↦ absurd (subst (λ (l : List ℕ). Has l i) g.1 h) | inr g ↦ (g.0, g.1) ]

    only : (i : ℕ) → Has (filter (has_all cs required) places) i → (id : TypeId) × IsAt cs.list.types.keys i id × Implements p types bares id methods
    only i h =
        let f = from_filter (has_all cs required) places i h in
        let r = some_required i f.0 in
        let m = zip_right (IsRequired n.likeness cs) methods required r.0 zip r.1 in
        let first = fits m.0 r.0 i m.2 (all_has (has_one cs i) required r.0 f.1 r.1) in (
          first.0,
          first.2,
          λ k there. (
              let q = zip_left (IsRequired n.likeness cs) methods required k zip (Contains-Has methods k there) in
              let g = fits k q.0 i q.2 (all_has (has_one cs i) required q.0 f.1 q.1) in
              let same : g.0 ≡ first.0 = one_there cs.list.types.keys i g.0 first.0 g.2 first.2 in
              (g.1, subst (λ (t : TypeId). IsMethod types t g.1) same g.3, g.4)),
        )

    all_fit : (i : ℕ) (id : TypeId) → IsAt cs.list.types.keys i id → Implements p types bares id methods → (r : Required) → Has required r → has_one cs i r ≡ true
    all_fit i id at fit r h =
        let m = zip_right (IsRequired n.likeness cs) methods required r zip h in
        let e = fit m.0 (Has-Contains methods m.0 m.1) in
        has_fitting m.0 r i id e.0 m.2 at e.1 e.2

    in_row : (m : MethodType) → Has methods m → (i : ℕ) → ((r : Required) → Has required r → has_one cs i r ≡ true) → Has places i
    in_row m h i all = elim one [
      | inl g ↦ (let q = zip_left (IsRequired n.likeness cs) methods required m zip h in absurd (subst (λ (l : List Required). Has l q.0) g.0 q.1))
      | inr g ↦ (let x = method_of g.0.of (method_at cs i g.0.name) (all g.0 g.1) in subst (λ (l : List ℕ). Has l i) (sym g.2) (classes.methods.having i g.0.name x.0 x.1))
    ]

    pub implementers : AreImplementers p n cs interface (filter (has_all cs required) places)
    implementers = record {
      only = only;
      whole = λ m there i id at fit.
          let all = all_fit i id at fit in
          to_filter (has_all cs required) places i (in_row m (Contains-Has methods m there) i all) (has_list_all (has_one cs i) required all);
    }

  -- no class has a method of a name
  pub none_implements : (interface : TypeId) (m : MethodType) → Contains (methods_in (term_at types interface)) m → ((j : ℕ) → IsAt cs.names.keys j (name_of m) → ⊥) → AreImplementers p n cs interface []
  none_implements interface m there none = record {
    only = λ i h. absurd h;
    whole = λ k other i id at fit. (
        let e = fit m there in
        let j = named_of m i id e.0 at e.1 e.2 in
        absurd (none j.0 j.1));
  }
