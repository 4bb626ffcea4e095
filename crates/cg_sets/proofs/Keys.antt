-- Keys by their places.
use Rattle.std.proofs.Common.{◌≡◌, ◌<◌, ◌++◌, ℕ, Bool, true, false, List, [], ◌∷◌, Option, Some, None, arith, inl, inr, refl, sym, ap, ◌∙◌, subst, length, get_or, slice_get, true≢false}
use Rattle.std.specs.Prelude.{◌||◌, IfSome, if◌then◌else◌, is_some}
use Rattle.std.specs.List.{list_any, position}
use Rattle.std.proofs.lemmas.List.Quantifiers.{position-Some}
use Rattle.std.proofs.lemmas.Option.{slice_get-get_or}
use Rattle.cg_numbers.specs.Numbered.{IsAt}
use Rattle.cg_numbers.proofs.Lists.{has_at}
use Rattle.cg_solve.specs.Lists.{Has}
use Rattle.go_base.specs.declared.ids.TypeId.{TypeId}
use Rattle.go_type.specs.Same.{same_id, same_id-Decides}
use Rattle.cg_sets.specs.contracts.classes.MethodNamePartialEq.TheImpl as same_name
use Rattle.cg_sets.specs.declared.classes.MethodName.{MethodName}

or_left : (a b : Bool) → a ≡ true → a || b ≡ true
or_left true b h = refl
or_left false b h = absurd (cc)

or_right : (a b : Bool) → b ≡ true → a || b ≡ true
or_right true b h = refl
or_right false b h = h

pub any_has : {A : Type 0} (f : A → Bool) (xs : List A) → list_any f xs ≡ true → (x : A) × Has xs x × (f x ≡ true)
any_has f [] h = absurd (cc)
any_has {A = A} f (y ∷ xs) h = by (any_has f xs) (f y) refl h
  where
    by : (list_any f xs ≡ true → (x : A) × Has xs x × (f x ≡ true)) → (b : Bool) → f y ≡ b → b || list_any f xs ≡ true → (x : A) × Has (y ∷ xs) x × (f x ≡ true)
    by rest true e k = (y, inl refl, e)
    by rest false e k = let r = rest k in (r.0, inr r.1, r.2)

pub has_any : {A : Type 0} (f : A → Bool) (xs : List A) (x : A) → Has xs x → f x ≡ true → list_any f xs ≡ true
has_any f [] x h e = absurd h
has_any {A = A} f (y ∷ xs) x (inl h) e = or_left (f y) (list_any f xs) (subst (λ (z : A). f z ≡ true) (sym h) e)
has_any f (y ∷ xs) x (inr h) e = or_right (f y) (list_any f xs) (has_any f xs x h e)

pub pushed : {A : Type 0} (b : Bool) (old new : List A) (x : A) → new ≡ (if b then old else old ++ x ∷ []) → b ≡ false → new ≡ old ++ x ∷ []
pushed true old new x e h = absurd (true≢false h)
pushed false old new x e h = e

module _ {A : Type 0} (eq : A → A → Bool) where
  pub found_at : (same : (x y : A) → eq x y ≡ true → x ≡ y) → (xs : List A) (k : A) (i : ℕ) → position (eq k) xs ≡ Some i → IsAt xs i k
  found_at same xs k i h =
      let r = position-Some (eq k) xs i k h in
      slice_get-get_or xs i k r.0 ∙ ap Some (sym (same k (get_or xs i k) r.1))

  pub found_some : (same : (x y : A) → eq x y ≡ true → x ≡ y) → (xs : List A) (k : A) (o : Option ℕ) → o ≡ position (eq k) xs → IfSome o (λ i. IsAt xs i k)
  found_some same xs k None h = tt
  found_some same xs k (Some i) h = found_at same xs k i (sym h)

  pub not_found : (self : (x : A) → eq x x ≡ true) → (xs : List A) (k : A) → list_any (eq k) xs ≡ false → (j : ℕ) → IsAt xs j k → ⊥
  not_found self xs k none j at = true≢false (sym (has_any (eq k) xs k (has_at xs j k at) (self k)) ∙ none)

pub none_any : (o : Option ℕ) (b : Bool) → is_some o ≡ b → o ≡ None → b ≡ false
none_any o b h e = sym h ∙ ap is_some e

name_parts : (a b c d : ℕ) → same_name.ghosts.eq (record { name = record { number = a }; «package» = b }) (record { name = record { number = c }; «package» = d }) ≡ true → (a ≡ c) × (b ≡ d)
name_parts a b c d h = search arith

pub name_same : (x y : MethodName) → same_name.ghosts.eq x y ≡ true → x ≡ y
name_same x y h = let r = name_parts x.name.number x.«package» y.name.number y.«package» h in λ i. record { name = record { number = r.0 i }; «package» = r.1 i }

pub name_stored : (xs : List MethodName) (i : ℕ) (x k : MethodName) → IsAt xs i k → same_name.ghosts.eq x k ≡ true → IsAt xs i x
name_stored xs i x k at h = at ∙ ap Some (sym (name_same x k h))

pub id_same : (x y : TypeId) → same_id x y ≡ true → x ≡ y
id_same x y h = (same_id-Decides x y).0 h
