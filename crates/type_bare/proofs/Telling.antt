-- Two types have one bare type where they are identical but for tags.
use Rattle.std.proofs.Common.{◌≡◌, ℕ, zero, suc, ◌<◌, ◌≤◌, ◌==◌, Bool, true, false, true≢false, ◌&&◌, ◌||◌, List, [], ◌∷◌, map, length, Option, Some, None, option_map, unwrap_or, slice_get, IsTrue, refl, sym, ap, ◌∙◌, arith, ◌↔◌}
use Rattle.std.specs.Bool.{beq}
use Rattle.std.specs.Cmp.Lexicographic.{pointwise}
use Rattle.std.specs.List.{list_all}
use Rattle.std.specs.Str.{bytes_eq}
use denote.Enum.Bare.{sameb}
use Rattle.go_base.specs.declared.ids.TypeId.{TypeId}
use Rattle.go_type.specs.declared.term.Field.{Field}
use Rattle.go_type.specs.declared.term.MethodType.{MethodType}
use Rattle.go_type.specs.declared.term.TypeTerm.{TypeTerm}
use Rattle.go_type.specs.declared.term.TypeTerm.TheVariants.{Basic as Plain, Declared, Pointer, Slice, Array, Map, Chan, Func, Struct, Interface, Tuple, Iter}
use Rattle.go_type.specs.contracts.term.Dir as dir
use Rattle.go_type.specs.Held.{IsHeld, term_parts}
use Rattle.go_type.specs.Identity.{like_field, like_method, like_term, alike}
use Rattle.go_type.specs.Same.{both, each, same_id, same_ids, same_field, same_fields, same_method, same_methods, same_id-Decides}
use Rattle.go_type.specs.Table.{Table, term_at, same_term}
use Rattle.go_type.proofs.Held.{inside}
use Rattle.go_type.proofs.IdenticalTypes.{one_place}
use Rattle.go_type.proofs.Kept.{some_term}
use Rattle.go_type.proofs.SameTerm.{same_term_is, same_term_self}
use Rattle.type_bare.specs.Same.{untagged_field, untagged, untagged_at, same_to, SameButTags}
use Rattle.type_bare.specs.Stripped.{bare_field, bare_method, stripped, bare_of, AreBare}
use Rattle.type_bare.proofs.Known.{below, is_below, parts_below, some_same}
use Rattle.type_bare.proofs.Terms.{split_all}

never : {P : Type 0} → false ≡ true → P
never h = absurd (true≢false (sym h))

-- ---- stripped terms are the same where the terms but for tags are alike

module _ (f : TypeId → TypeId) where
  abbrev same_bare : TypeId → TypeId → Bool
  same_bare x y = same_id (f x) (f y)

  ids_alike : (xs ys : List TypeId) → same_ids (map f xs) (map f ys) ≡ pointwise same_bare xs ys
  ids_alike [] [] = refl
  ids_alike [] (y ∷ ys) = refl
  ids_alike (x ∷ xs) [] = refl
  ids_alike (x ∷ xs) (y ∷ ys) = ap (λ b. same_bare x y && b) (ids_alike xs ys)

  fields_alike : (xs ys : List Field) → same_fields (map (bare_field f) xs) (map (bare_field f) ys) ≡ pointwise (like_field same_bare) (map untagged_field xs) (map untagged_field ys)
  fields_alike [] [] = refl
  fields_alike [] (y ∷ ys) = refl
  fields_alike (x ∷ xs) [] = refl
  fields_alike (x ∷ xs) (y ∷ ys) = ap (λ b. like_field same_bare (untagged_field x) (untagged_field y) && b) (fields_alike xs ys)

  methods_alike : (xs ys : List MethodType) → same_methods (map (bare_method f) xs) (map (bare_method f) ys) ≡ pointwise (like_method same_bare) xs ys
  methods_alike [] [] = refl
  methods_alike [] (y ∷ ys) = refl
  methods_alike (x ∷ xs) [] = refl
  methods_alike (x ∷ xs) (y ∷ ys) = ap (λ b. like_method same_bare x y && b) (methods_alike xs ys)

  pub stripped_alike : (s t : TypeTerm) → same_term (stripped f s) (stripped f t) ≡ like_term same_bare (untagged s) (untagged t)
  stripped_alike (Func a) (Func b) = λ i. ids_alike a.params b.params i && (ids_alike a.results b.results i && beq a.variadic b.variadic)
  stripped_alike (Struct a) (Struct b) = fields_alike a b
  stripped_alike (Interface a) (Interface b) = methods_alike a b
  stripped_alike (Tuple a) (Tuple b) = ids_alike a b
  stripped_alike (Plain a) (Plain b) = refl
  stripped_alike (Plain a) _ = refl
  stripped_alike (Declared a) (Declared b) = refl
  stripped_alike (Declared a) _ = refl
  stripped_alike (Pointer a) (Pointer b) = refl
  stripped_alike (Pointer a) _ = refl
  stripped_alike (Slice a) (Slice b) = refl
  stripped_alike (Slice a) _ = refl
  stripped_alike (Array n a) (Array m b) = refl
  stripped_alike (Array n a) _ = refl
  stripped_alike (Map k a) (Map l b) = refl
  stripped_alike (Map k a) _ = refl
  stripped_alike (Chan d a) (Chan e b) = refl
  stripped_alike (Chan d a) _ = refl
  stripped_alike (Func a) _ = refl
  stripped_alike (Struct a) _ = refl
  stripped_alike (Interface a) _ = refl
  stripped_alike (Tuple a) _ = refl
  stripped_alike (Iter a) (Iter b) = refl
  stripped_alike (Iter a) _ = refl

-- ---- terms that are alike by R are alike by S, where R gives S at their parts

fields_parts : (fields : List Field) → map (λ field. field.of) (map untagged_field fields) ≡ map (λ field. field.of) fields
fields_parts [] = refl
fields_parts (field ∷ fields) = ap (λ rest. field.of ∷ rest) (fields_parts fields)

pub untagged_parts : (term : TypeTerm) → term_parts (untagged term) ≡ term_parts term
untagged_parts (Struct fields) = fields_parts fields
untagged_parts _ = refl

module _ (p : TypeId → Bool) (R S : TypeId → TypeId → Bool) (gives : (x y : TypeId) → p x ≡ true → p y ≡ true → R x y ≡ true → S x y ≡ true) where
  ids_give : (xs ys : List TypeId) → list_all p xs ≡ true → list_all p ys ≡ true → pointwise R xs ys ≡ true → pointwise S xs ys ≡ true
  ids_give [] [] px py h = refl
  ids_give [] (y ∷ ys) px py h = never h
  ids_give (x ∷ xs) [] px py h = never h
  ids_give (x ∷ xs) (y ∷ ys) px py h =
      let qx = both (p x) _ px in
      let qy = both (p y) _ py in
      let k = both (R x y) _ h in
      each (S x y) _ (gives x y qx.0 qy.0 k.0) (ids_give xs ys qx.1 qy.1 k.1)

  field_gives : (x y : Field) → p x.of ≡ true → p y.of ≡ true → like_field R x y ≡ true → like_field S x y ≡ true
  field_gives x y px py h =
      let h1 = both (x.name.number == y.name.number) _ h in
      let h2 = both (x.package == y.package) _ h1.1 in
      let h3 = both (R x.of y.of) _ h2.1 in
      each (x.name.number == y.name.number) _ h1.0 (each (x.package == y.package) _ h2.0 (each (S x.of y.of) _ (gives x.of y.of px py h3.0) h3.1))

  fields_give : (xs ys : List Field) → list_all p (map (λ field. field.of) xs) ≡ true → list_all p (map (λ field. field.of) ys) ≡ true
      → pointwise (like_field R) xs ys ≡ true → pointwise (like_field S) xs ys ≡ true
  fields_give [] [] px py h = refl
  fields_give [] (y ∷ ys) px py h = never h
  fields_give (x ∷ xs) [] px py h = never h
  fields_give (x ∷ xs) (y ∷ ys) px py h =
      let qx = both (p x.of) _ px in
      let qy = both (p y.of) _ py in
      let k = both (like_field R x y) _ h in
      each (like_field S x y) _ (field_gives x y qx.0 qy.0 k.0) (fields_give xs ys qx.1 qy.1 k.1)

  method_gives : (x y : MethodType) → p x.of ≡ true → p y.of ≡ true → like_method R x y ≡ true → like_method S x y ≡ true
  method_gives x y px py h =
      let h1 = both (x.name.number == y.name.number) _ h in
      let h2 = both (x.package == y.package) _ h1.1 in
      each (x.name.number == y.name.number) _ h1.0 (each (x.package == y.package) _ h2.0 (gives x.of y.of px py h2.1))

  methods_give : (xs ys : List MethodType) → list_all p (map (λ method. method.of) xs) ≡ true → list_all p (map (λ method. method.of) ys) ≡ true
      → pointwise (like_method R) xs ys ≡ true → pointwise (like_method S) xs ys ≡ true
  methods_give [] [] px py h = refl
  methods_give [] (y ∷ ys) px py h = never h
  methods_give (x ∷ xs) [] px py h = never h
  methods_give (x ∷ xs) (y ∷ ys) px py h =
      let qx = both (p x.of) _ px in
      let qy = both (p y.of) _ py in
      let k = both (like_method R x y) _ h in
      each (like_method S x y) _ (method_gives x y qx.0 qy.0 k.0) (methods_give xs ys qx.1 qy.1 k.1)

  one_gives : (x y : TypeId) → list_all p (x ∷ []) ≡ true → list_all p (y ∷ []) ≡ true → R x y ≡ true → S x y ≡ true
  one_gives x y px py h = gives x y (both (p x) _ px).0 (both (p y) _ py).0 h

  pub term_gives : (s t : TypeTerm) → list_all p (term_parts s) ≡ true → list_all p (term_parts t) ≡ true → like_term R s t ≡ true → like_term S s t ≡ true
  term_gives (Plain a) (Plain b) ps pt h = h
  term_gives (Plain a) _ ps pt h = never h
  term_gives (Declared a) (Declared b) ps pt h = h
  term_gives (Declared a) _ ps pt h = never h
  term_gives (Pointer a) (Pointer b) ps pt h = one_gives a b ps pt h
  term_gives (Pointer a) _ ps pt h = never h
  term_gives (Slice a) (Slice b) ps pt h = one_gives a b ps pt h
  term_gives (Slice a) _ ps pt h = never h
  term_gives (Array n a) (Array m b) ps pt h = let k = both (n == m) _ h in each (n == m) _ k.0 (one_gives a b ps pt k.1)
  term_gives (Array n a) _ ps pt h = never h
  term_gives (Map c a) (Map d b) ps pt h =
      let k = both (R c d) _ h in
      let qs = both (p c) _ ps in
      let qt = both (p d) _ pt in
      each (S c d) _ (gives c d qs.0 qt.0 k.0) (one_gives a b qs.1 qt.1 k.1)
  term_gives (Map c a) _ ps pt h = never h
  term_gives (Chan d a) (Chan e b) ps pt h = let k = both (sameb dir.the_type d e) _ h in each (sameb dir.the_type d e) _ k.0 (one_gives a b ps pt k.1)
  term_gives (Chan d a) _ ps pt h = never h
  term_gives (Func a) (Func b) ps pt h =
      let k = both (pointwise R a.params b.params) _ h in
      let l = both (pointwise R a.results b.results) _ k.1 in
      let qs = split_all p a.params a.results ps in
      let qt = split_all p b.params b.results pt in
      each (pointwise S a.params b.params) _ (ids_give a.params b.params qs.0 qt.0 k.0)
      (each (pointwise S a.results b.results) _ (ids_give a.results b.results qs.1 qt.1 l.0) l.1)
  term_gives (Func a) _ ps pt h = never h
  term_gives (Struct a) (Struct b) ps pt h = fields_give a b ps pt h
  term_gives (Struct a) _ ps pt h = never h
  term_gives (Interface a) (Interface b) ps pt h = methods_give a b ps pt h
  term_gives (Interface a) _ ps pt h = never h
  term_gives (Tuple a) (Tuple b) ps pt h = ids_give a b ps pt h
  term_gives (Tuple a) _ ps pt h = never h
  term_gives (Iter a) (Iter b) ps pt h = one_gives a b ps pt h
  term_gives (Iter a) _ ps pt h = never h

  pub untagged_gives : (s t : TypeTerm) → list_all p (term_parts s) ≡ true → list_all p (term_parts t) ≡ true
      → like_term R (untagged s) (untagged t) ≡ true → like_term S (untagged s) (untagged t) ≡ true
  untagged_gives s t ps pt h = term_gives (untagged s) (untagged t) (ap (list_all p) (untagged_parts s) ∙ ps) (ap (list_all p) (untagged_parts t) ∙ pt) h

-- ---- types

same_as_self : (a b : TypeId) → a ≡ b → same_id a b ≡ true
same_as_self a b h = (same_id-Decides a b).1 h

or_right : (b c : Bool) → c ≡ true → b || c ≡ true
or_right true c h = refl
or_right false c h = h

module _ (bares : List TypeId) (types : Table) (held : IsHeld types) (known : AreBare bares types) where
  abbrev f : TypeId → TypeId
  f = bare_of bares

  -- the term of a type whose bare type is known
  term_of : (x : TypeId) → x.number < length bares → (t : TypeTerm) × (term_at types x ≡ Some t)
  term_of x less = let count = known.count in let place : x.number < length types.terms = omega arith in some_term types.terms x.number place

  parts_known : (n : ℕ) (x : TypeId) (t : TypeTerm) → x.number ≤ n → term_at types x ≡ Some t → list_all (below n) (term_parts t) ≡ true
  parts_known n x t less e = parts_below x.number n t less (held.stands x t e).parts

  -- stripped terms that are the same have one id
  one_bare : (a b : TypeId) (s t : TypeTerm) → a.number < length bares → b.number < length bares → term_at types a ≡ Some s → term_at types b ≡ Some t
      → like_term (same_bare f) (untagged s) (untagged t) ≡ true → f a ≡ f b
  one_bare a b s t la lb es et h =
      let same : stripped f s ≡ stripped f t = same_term_is (stripped f s) (stripped f t) (stripped_alike f s t ∙ h) in
      let place : (f a).number ≡ (f b).number =
      one_place types.terms held.distinct (f a).number (f b).number (stripped f t) (known.bare a la s es ∙ ap Some same) (known.bare b lb t et) in
      λ i. record { number = place i }

  from_alike : (R : TypeId → TypeId → Bool) → ((x y : TypeId) → x.number < length bares → y.number < length bares → R x y ≡ true → f x ≡ f y)
      → (a b : TypeId) → a.number < length bares → b.number < length bares → alike R (untagged_at types a) (untagged_at types b) ≡ true → f a ≡ f b
  from_alike R gives a b la lb h =
      let s = term_of a la in
      let t = term_of b lb in
      let terms : like_term R (untagged s.0) (untagged t.0) ≡ true = sym (λ i. alike R (option_map untagged (s.1 i)) (option_map untagged (t.1 i))) ∙ h in
      one_bare a b s.0 t.0 la lb s.1 t.1
      (untagged_gives (below (length bares)) R (same_bare f) (λ x y px py r. same_as_self (f x) (f y) (gives x y (is_below (length bares) x px) (is_below (length bares) y py) r)) s.0 t.0
      (parts_known (length bares) a s.0 (omega arith) s.1) (parts_known (length bares) b t.0 (omega arith) t.1) terms)

  pub same_gives : (n : ℕ) (a b : TypeId) → a.number < length bares → b.number < length bares → same_to n types a b ≡ true → f a ≡ f b
  same_gives zero a b la lb h = ap f ((same_id-Decides a b).0 h)
  same_gives (suc n) a b la lb h = by (same_id a b) refl (same_gives n)
    where
      by : (s : Bool) → same_id a b ≡ s → ((x y : TypeId) → x.number < length bares → y.number < length bares → same_to n types x y ≡ true → f x ≡ f y) → f a ≡ f b
      by true e rest = ap f ((same_id-Decides a b).0 e)
      by false e rest =
          from_alike (same_to n types) rest a b la lb
          (sym (ap (λ s. s || alike (same_to n types) (untagged_at types a) (untagged_at types b)) e) ∙ h)

  to_alike : (n : ℕ) → n < length bares → ((x y : TypeId) → x.number < n → y.number < n → f x ≡ f y → same_to n types x y ≡ true)
      → (a b : TypeId) → a.number ≤ n → b.number ≤ n → f a ≡ f b → alike (same_to n types) (untagged_at types a) (untagged_at types b) ≡ true
  to_alike n few rest a b la lb h =
      let ka : a.number < length bares = omega arith in
      let kb : b.number < length bares = omega arith in
      let s = term_of a ka in
      let t = term_of b kb in
      let both_terms : Some (stripped f s.0) ≡ Some (stripped f t.0) = sym (known.bare a ka s.0 s.1) ∙ ap (term_at types) h ∙ known.bare b kb t.0 t.1 in
      let same : stripped f s.0 ≡ stripped f t.0 = some_same (stripped f s.0) (stripped f t.0) both_terms in
      let terms : like_term (same_bare f) (untagged s.0) (untagged t.0) ≡ true =
      sym (stripped_alike f s.0 t.0) ∙ sym (ap (same_term (stripped f s.0)) same) ∙ same_term_self (stripped f s.0) in
      (λ i. alike (same_to n types) (option_map untagged (s.1 i)) (option_map untagged (t.1 i)))
      ∙ untagged_gives (below n) (same_bare f) (same_to n types) (λ x y px py r. rest x y (is_below n x px) (is_below n y py) ((same_id-Decides (f x) (f y)).0 r)) s.0 t.0
      (parts_known n a s.0 la s.1) (parts_known n b t.0 lb t.1) terms

  pub gives_same : (n : ℕ) → n ≤ length bares → (a b : TypeId) → a.number < n → b.number < n → f a ≡ f b → same_to n types a b ≡ true
  gives_same zero few a b la lb h = absurd (omega arith)
  gives_same (suc n) few a b la lb h =
      or_right (same_id a b) _ (to_alike n (omega arith) (gives_same n (omega arith)) a b (omega arith) (omega arith) h)

  pub bare_tells : (a b : TypeId) → a.number < length bares → b.number < length bares → (bare_of bares a ≡ bare_of bares b) ↔ SameButTags types a b
  bare_tells a b la lb = (
    λ h. (length bares, gives_same (length bares) (omega arith) a b la lb h),
    λ k. same_gives k.0 a b la lb k.1,
  )

  -- as the code answers
  pub same_answer : (a b x y : TypeId) (r : Bool) → slice_get bares a.number ≡ Some x → slice_get bares b.number ≡ Some y → r ≡ same_id x y → IsTrue r ↔ SameButTags types a b
  same_answer a b x y r ha hb e =
      let fa : f a ≡ x = ap (λ o. unwrap_or o a) ha in
      let fb : f b ≡ y = ap (λ o. unwrap_or o b) hb in
      let tells = bare_tells a b (inside bares a.number x ha) (inside bares b.number y hb) in (
        λ h. tells.0 (fa ∙ (same_id-Decides x y).0 (sym e ∙ h) ∙ sym fb),
        λ k. e ∙ (same_id-Decides x y).1 (sym fa ∙ tells.1 k ∙ fb),
      )
