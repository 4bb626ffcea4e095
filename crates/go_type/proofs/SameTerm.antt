-- When two type terms are the same.
use Rattle.std.proofs.Common.{◌≡◌, ℕ, Bool, true, false, nat_eq, List, refl, ap, sym, subst, true≢false}
use Rattle.std.specs.Bool.{Decides}
use Rattle.std.specs.Cmp.{unsigned_Decides, booleans_Decides}
use denote.Enum.Bare.{sameb, same_true, true_same}
use Rattle.go_base.specs.declared.ids.TypeId.{TypeId}
use Rattle.go_type.specs.declared.term.TypeName.{TypeName}
use Rattle.go_type.specs.declared.term.Signature.{Signature}
use Rattle.go_type.specs.declared.term.TypeTerm.{TypeTerm}
use Rattle.go_type.specs.declared.term.TypeTerm.TheVariants.{Basic as Plain, Declared, Pointer, Slice, Array, Map, Chan, Func, Struct, Interface, Tuple, Iter}
use Rattle.go_type.specs.contracts.term.Basic as basic
use Rattle.go_type.specs.contracts.term.Dir as dir
use Rattle.go_type.specs.contracts.term.TypeTermPartialEq.TheImpl as generated
use Rattle.go_type.specs.Same.{both, each, same_id, same_id-Decides, same_ids, same_ids-Decides, same_fields-Decides, same_methods-Decides}

abbrev pub same_term : TypeTerm → TypeTerm → Bool
same_term = generated.ghosts.eq

id_from : (a b : TypeId) → same_id a b ≡ true → a ≡ b
id_from a b h = (same_id-Decides a b).0 h

-- ---- the same by the test

name_from : (a b : TypeName) → same_term (Declared a) (Declared b) ≡ true → a ≡ b
name_from a b h =
    let h1 = both (nat_eq a.name.number b.name.number) _ h in
    let h2 = both (nat_eq a.package b.package) _ h1.1 in
    λ i. record {
      name = record { number = (unsigned_Decides a.name.number b.name.number).0 h1.0 i };
      «package» = (unsigned_Decides a.package b.package).0 h2.0 i;
      number = (unsigned_Decides a.number b.number).0 h2.1 i;
    }

signature_from : (a b : Signature) → same_term (Func a) (Func b) ≡ true → a ≡ b
signature_from a b h =
    let h1 = both (same_ids a.params b.params) _ h in
    let h2 = both (same_ids a.results b.results) _ h1.1 in
    λ i. record {
      params = (same_ids-Decides a.params b.params).0 h1.0 i;
      results = (same_ids-Decides a.results b.results).0 h2.0 i;
      variadic = (booleans_Decides a.variadic b.variadic).0 h2.1 i;
    }

never : {P : Type 0} → false ≡ true → P
never h = absurd (true≢false (sym h))

pub same_term_is : (a b : TypeTerm) → same_term a b ≡ true → a ≡ b
same_term_is (Plain a) (Plain b) h = ap Plain (same_true basic.the_type tt a b h)
same_term_is (Plain a) _ h = never h
same_term_is (Declared a) (Declared b) h = ap Declared (name_from a b h)
same_term_is (Declared a) _ h = never h
same_term_is (Pointer a) (Pointer b) h = ap Pointer (id_from a b h)
same_term_is (Pointer a) _ h = never h
same_term_is (Slice a) (Slice b) h = ap Slice (id_from a b h)
same_term_is (Slice a) _ h = never h
same_term_is (Array n a) (Array m b) h =
    let h1 = both (nat_eq n m) _ h in λ i. Array ((unsigned_Decides n m).0 h1.0 i) (id_from a b h1.1 i)
same_term_is (Array n a) _ h = never h
same_term_is (Map k a) (Map l b) h = let h1 = both (same_id k l) _ h in λ i. Map (id_from k l h1.0 i) (id_from a b h1.1 i)
same_term_is (Map k a) _ h = never h
same_term_is (Chan d a) (Chan e b) h =
    let h1 = both (sameb dir.the_type d e) _ h in λ i. Chan (same_true dir.the_type tt d e h1.0 i) (id_from a b h1.1 i)
same_term_is (Chan d a) _ h = never h
same_term_is (Func a) (Func b) h = ap Func (signature_from a b h)
same_term_is (Func a) _ h = never h
same_term_is (Struct a) (Struct b) h = ap Struct ((same_fields-Decides a b).0 h)
same_term_is (Struct a) _ h = never h
same_term_is (Interface a) (Interface b) h = ap Interface ((same_methods-Decides a b).0 h)
same_term_is (Interface a) _ h = never h
same_term_is (Tuple a) (Tuple b) h = ap Tuple ((same_ids-Decides a b).0 h)
same_term_is (Tuple a) _ h = never h
same_term_is (Iter a) (Iter b) h = ap Iter (id_from a b h)
same_term_is (Iter a) _ h = never h

-- ---- each the same as itself

id_self : (a : TypeId) → same_id a a ≡ true
id_self a = (same_id-Decides a a).1 refl

ids_self : (a : List TypeId) → same_ids a a ≡ true
ids_self a = (same_ids-Decides a a).1 refl

number_self : (n : ℕ) → nat_eq n n ≡ true
number_self n = (unsigned_Decides n n).1 refl

pub same_term_self : (a : TypeTerm) → same_term a a ≡ true
same_term_self (Plain a) = true_same basic.the_type a a refl
same_term_self (Declared a) = each _ _ (number_self a.name.number) (each _ _ (number_self a.package) (number_self a.number))
same_term_self (Pointer a) = id_self a
same_term_self (Slice a) = id_self a
same_term_self (Array n a) = each _ _ (number_self n) (id_self a)
same_term_self (Map k a) = each _ _ (id_self k) (id_self a)
same_term_self (Chan d a) = each _ _ (true_same dir.the_type d d refl) (id_self a)
same_term_self (Func a) = each _ _ (ids_self a.params) (each _ _ (ids_self a.results) ((booleans_Decides a.variadic a.variadic).1 refl))
same_term_self (Struct a) = (same_fields-Decides a a).1 refl
same_term_self (Interface a) = (same_methods-Decides a a).1 refl
same_term_self (Tuple a) = ids_self a
same_term_self (Iter a) = id_self a

pub same_term-Decides : (a b : TypeTerm) → Decides (same_term a b) (a ≡ b)
same_term-Decides a b = (same_term_is a b, λ e. subst (λ c. same_term a c ≡ true) e (same_term_self a))
