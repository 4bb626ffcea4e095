-- Identical types have one id.
use Rattle.std.proofs.Common.{◌≡◌, ℕ, zero, suc, ◌<◌, Bool, true, false, ◌||◌, nat_eq, List, [], ◌∷◌, length, Option, Some, None, slice_get, IsTrue, refl, ap, sym, ◌∙◌, true≢false, arith, ◌↔◌}
use Rattle.std.specs.Bool.{beq}
use Rattle.std.specs.Cmp.{unsigned_Decides, booleans_Decides}
use Rattle.std.specs.Cmp.Lexicographic.{pointwise}
use Rattle.std.specs.List.{IsDistinct}
use Rattle.std.proofs.Math.ListN.{get_or}
use Rattle.std.proofs.lemmas.Option.{get_or_from_slice_get}
use Rattle.std.proofs.lemmas.Slice.Eq.{bytes_eq-Decides}
use Rattle.std.proofs.lemmas.Map.Keys.{apart_from_distinct}
use denote.Enum.Bare.{sameb, same_true}
use Rattle.go_base.specs.declared.ids.TypeId.{TypeId}
use Rattle.go_type.specs.declared.term.Field.{Field}
use Rattle.go_type.specs.declared.term.MethodType.{MethodType}
use Rattle.go_type.specs.declared.term.Signature.{Signature}
use Rattle.go_type.specs.declared.term.TypeName.{TypeName}
use Rattle.go_type.specs.declared.term.TypeTerm.{TypeTerm}
use Rattle.go_type.specs.declared.term.TypeTerm.TheVariants.{Basic as Plain, Declared, Pointer, Slice, Array, Map, Chan, Func, Struct, Interface, Tuple, Iter}
use Rattle.go_type.specs.contracts.term.Basic as basic
use Rattle.go_type.specs.contracts.term.Dir as dir
use Rattle.go_type.specs.Same.{both, same_id, same_id-Decides}
use Rattle.go_type.specs.Table.{Table, term_at, same_term}
use Rattle.go_type.specs.Identity.{same_name, like_signature, like_field, like_method, like_term, alike, identical_to, Identical}
use Rattle.go_type.proofs.SameTerm.{same_term_self}

never : {P : Type 0} → false ≡ true → P
never h = absurd (true≢false (sym h))

name_is : (a b : TypeName) → same_name a b ≡ true → a ≡ b
name_is a b h =
    let h1 = both (nat_eq a.name.number b.name.number) _ h in
    let h2 = both (nat_eq a.package b.package) _ h1.1 in
    λ i. record {
      name = record { number = (unsigned_Decides a.name.number b.name.number).0 h1.0 i };
      «package» = (unsigned_Decides a.package b.package).0 h2.0 i;
      number = (unsigned_Decides a.number b.number).0 h2.1 i;
    }

lists_are : {X : Type 0} (E : X → X → Bool) → ((a b : X) → E a b ≡ true → a ≡ b) → (xs ys : List X) → pointwise E xs ys ≡ true → xs ≡ ys
lists_are E is [] [] h = refl
lists_are E is [] (y ∷ ys) h = never h
lists_are E is (x ∷ xs) [] h = never h
lists_are E is (x ∷ xs) (y ∷ ys) h = let k = both (E x y) _ h in λ i. is x y k.0 i ∷ lists_are E is xs ys k.1 i

module _ (R : TypeId → TypeId → Bool) (is : (a b : TypeId) → R a b ≡ true → a ≡ b) where
  signature_is : (a b : Signature) → like_signature R a b ≡ true → a ≡ b
  signature_is a b h =
      let h1 = both (pointwise R a.params b.params) _ h in
      let h2 = both (pointwise R a.results b.results) _ h1.1 in
      λ i. record {
        params = lists_are R is a.params b.params h1.0 i;
        results = lists_are R is a.results b.results h2.0 i;
        variadic = (booleans_Decides a.variadic b.variadic).0 h2.1 i;
      }

  field_is : (a b : Field) → like_field R a b ≡ true → a ≡ b
  field_is a b h =
      let h1 = both (nat_eq a.name.number b.name.number) _ h in
      let h2 = both (nat_eq a.package b.package) _ h1.1 in
      let h3 = both (R a.of b.of) _ h2.1 in
      let h4 = both (beq a.embedded b.embedded) _ h3.1 in
      λ i. record {
        name = record { number = (unsigned_Decides a.name.number b.name.number).0 h1.0 i };
        «package» = (unsigned_Decides a.package b.package).0 h2.0 i;
        of = is a.of b.of h3.0 i;
        embedded = (booleans_Decides a.embedded b.embedded).0 h4.0 i;
        tag = (bytes_eq-Decides a.tag b.tag).0 h4.1 i;
      }

  method_is : (a b : MethodType) → like_method R a b ≡ true → a ≡ b
  method_is a b h =
      let h1 = both (nat_eq a.name.number b.name.number) _ h in
      let h2 = both (nat_eq a.package b.package) _ h1.1 in
      λ i. record {
        name = record { number = (unsigned_Decides a.name.number b.name.number).0 h1.0 i };
        «package» = (unsigned_Decides a.package b.package).0 h2.0 i;
        of = is a.of b.of h2.1 i;
      }

  -- terms whose parts correspond by a relation of equal types are the same
  pub term_is : (a b : TypeTerm) → like_term R a b ≡ true → a ≡ b
  term_is (Plain a) (Plain b) h = ap Plain (same_true basic.the_type tt a b h)
  term_is (Plain a) _ h = never h
  term_is (Declared a) (Declared b) h = ap Declared (name_is a b h)
  term_is (Declared a) _ h = never h
  term_is (Pointer a) (Pointer b) h = ap Pointer (is a b h)
  term_is (Pointer a) _ h = never h
  term_is (Slice a) (Slice b) h = ap Slice (is a b h)
  term_is (Slice a) _ h = never h
  term_is (Array n a) (Array m b) h = let k = both (nat_eq n m) _ h in λ i. Array ((unsigned_Decides n m).0 k.0 i) (is a b k.1 i)
  term_is (Array n a) _ h = never h
  term_is (Map c a) (Map d b) h = let k = both (R c d) _ h in λ i. Map (is c d k.0 i) (is a b k.1 i)
  term_is (Map c a) _ h = never h
  term_is (Chan d a) (Chan e b) h = let k = both (sameb dir.the_type d e) _ h in λ i. Chan (same_true dir.the_type tt d e k.0 i) (is a b k.1 i)
  term_is (Chan d a) _ h = never h
  term_is (Func a) (Func b) h = ap Func (signature_is a b h)
  term_is (Func a) _ h = never h
  term_is (Struct a) (Struct b) h = ap Struct (lists_are (like_field R) field_is a b h)
  term_is (Struct a) _ h = never h
  term_is (Interface a) (Interface b) h = ap Interface (lists_are (like_method R) method_is a b h)
  term_is (Interface a) _ h = never h
  term_is (Tuple a) (Tuple b) h = ap Tuple (lists_are R is a b h)
  term_is (Tuple a) _ h = never h
  term_is (Iter a) (Iter b) h = ap Iter (is a b h)
  term_is (Iter a) _ h = never h

inside : (terms : List TypeTerm) (i : ℕ) (t : TypeTerm) → slice_get terms i ≡ Some t → i < length terms
inside [] i t h = cc
inside (x ∷ xs) zero t h = omega arith
inside (x ∷ xs) (suc i) t h = let k : i < length xs = inside xs i t h in omega arith

two_places : (terms : List TypeTerm) → IsDistinct same_term terms → (i j : ℕ) (t : TypeTerm) → slice_get terms i ≡ Some t → slice_get terms j ≡ Some t → i < j → ⊥
two_places terms distinct i j t hi hj less =
    let apart : same_term (get_or terms i t) (get_or terms j t) ≡ false = apart_from_distinct same_term terms i j t distinct less (inside terms j t hj) in
    let same : same_term (get_or terms i t) (get_or terms j t) ≡ same_term t t =
    λ k. same_term (get_or_from_slice_get terms i t t hi k) (get_or_from_slice_get terms j t t hj k) in
    true≢false (sym (same_term_self t) ∙ sym same ∙ apart)

-- a term has one place
pub one_place : (terms : List TypeTerm) → IsDistinct same_term terms → (i j : ℕ) (t : TypeTerm) → slice_get terms i ≡ Some t → slice_get terms j ≡ Some t → i ≡ j
one_place terms distinct i j t hi hj =
    let first : i < j → ⊥ = λ less. two_places terms distinct i j t hi hj less in
    let second : j < i → ⊥ = λ less. two_places terms distinct j i t hj hi less in
    omega arith

module _ (types : Table) (distinct : IsDistinct same_term types.terms) where
  alike_is : (R : TypeId → TypeId → Bool) → ((a b : TypeId) → R a b ≡ true → a ≡ b)
      → (a b : TypeId) (s t : Option TypeTerm) → term_at types a ≡ s → term_at types b ≡ t → alike R s t ≡ true → a ≡ b
  alike_is R is a b (Some s) (Some t) es et h =
      let place : a.number ≡ b.number = one_place types.terms distinct a.number b.number t (es ∙ ap Some (term_is R is s t h)) et in
      λ i. record { number = place i }
  alike_is R is a b (Some s) None es et h = never h
  alike_is R is a b None t es et h = never h

  pub identical_is : (n : ℕ) (a b : TypeId) → identical_to n types a b ≡ true → a ≡ b
  identical_is zero a b h = (same_id-Decides a b).0 h
  identical_is (suc n) a b h = by (same_id a b) refl (identical_is n)
    where
      by : (s : Bool) → same_id a b ≡ s → ((c d : TypeId) → identical_to n types c d ≡ true → c ≡ d) → a ≡ b
      by true e rest = (same_id-Decides a b).0 e
      by false e rest =
          alike_is (identical_to n types) rest a b (term_at types a) (term_at types b) refl refl
          (sym (ap (λ s. s || alike (identical_to n types) (term_at types a) (term_at types b)) e) ∙ h)

  pub identical_iff : (a b : TypeId) (r : Bool) → r ≡ same_id a b → IsTrue r ↔ Identical types a b
  identical_iff a b r e = (
    λ h. (0, sym e ∙ h),
    λ k. e ∙ (same_id-Decides a b).1 (identical_is k.0 a b k.1),
  )
