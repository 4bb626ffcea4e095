-- When lists of the parts of types are the same.
use Rattle.std.specs.Prelude.{◌≡◌, Bool, true, false, ◌==◌, ◌&&◌, List, ◌++◌, refl}
use Rattle.std.specs.Bool.{beq, Decides}
use Rattle.std.specs.Cmp.{IsEquivalence, decided, unsigned_Decides, booleans_Decides}
use Rattle.std.specs.Cmp.Lexicographic.{pointwise}
use Rattle.std.specs.Str.{bytes_eq}
use Rattle.std.specs.Hash as fed
use Rattle.std.specs.Hash.{HashWrites}
use Rattle.std.proofs.Common.{ap, sym, ◌∙◌, subst, true≢false}
use Rattle.std.proofs.lemmas.Slice.Eq.{slice_eq-Decides, bytes_eq-Decides}
use Rattle.go_base.specs.declared.ids.TypeId.{TypeId}
use Rattle.go_type.specs.declared.term.Field.{Field}
use Rattle.go_type.specs.declared.term.MethodType.{MethodType}

pub both : (b c : Bool) → b && c ≡ true → (b ≡ true) × (c ≡ true)
both true c h = (refl, h)
both false c h = absurd (true≢false (sym h))

pub each : (b c : Bool) → b ≡ true → c ≡ true → b && c ≡ true
each b c h k = ap (λ d. d && c) h ∙ k

-- ---- types

abbrev pub same_id : TypeId → TypeId → Bool
same_id a b = a.number == b.number

abbrev pub same_ids : List TypeId → List TypeId → Bool
same_ids = pointwise same_id

pub same_id-Decides : (a b : TypeId) → Decides (same_id a b) (a ≡ b)
same_id-Decides a b = (
  λ h. λ i. record { number = (unsigned_Decides a.number b.number).0 h i },
  λ e. (unsigned_Decides a.number b.number).1 (ap (λ t. t.number) e),
)

pub same_ids-Decides : (a b : List TypeId) → Decides (same_ids a b) (a ≡ b)
same_ids-Decides a b = slice_eq-Decides same_id-Decides a b (same_ids a b) refl

pub same_ids_equiv : IsEquivalence same_ids
same_ids_equiv = decided same_ids same_ids-Decides

abbrev pub same_ids_hash : List TypeId → HashWrites
same_ids_hash = fed.slice (λ a. fed.u64 a.number)

pub same_ids_alike : (a b : List TypeId) → same_ids a b ≡ true → same_ids_hash a ≡ same_ids_hash b
same_ids_alike a b h = ap same_ids_hash ((same_ids-Decides a b).0 h)

-- ---- fields

abbrev pub same_field : Field → Field → Bool
same_field a b =
    (a.name.number == b.name.number)
    && ((a.package == b.package)
    && ((a.of.number == b.of.number) && (beq a.embedded b.embedded && bytes_eq a.tag b.tag)))

abbrev pub same_fields : List Field → List Field → Bool
same_fields = pointwise same_field

same_field_self : (a : Field) → same_field a a ≡ true
same_field_self a =
    each _ _ ((unsigned_Decides a.name.number a.name.number).1 refl)
    (each _ _ ((unsigned_Decides a.package a.package).1 refl)
    (each _ _ ((unsigned_Decides a.of.number a.of.number).1 refl)
    (each _ _ ((booleans_Decides a.embedded a.embedded).1 refl) ((bytes_eq-Decides a.tag a.tag).1 refl))))

pub same_field-Decides : (a b : Field) → Decides (same_field a b) (a ≡ b)
same_field-Decides a b = (
  λ h.
      let h1 = both (a.name.number == b.name.number) _ h in
      let h2 = both (a.package == b.package) _ h1.1 in
      let h3 = both (a.of.number == b.of.number) _ h2.1 in
      let h4 = both (beq a.embedded b.embedded) _ h3.1 in
      λ i. record {
        name = record { number = (unsigned_Decides a.name.number b.name.number).0 h1.0 i };
        «package» = (unsigned_Decides a.package b.package).0 h2.0 i;
        of = record { number = (unsigned_Decides a.of.number b.of.number).0 h3.0 i };
        embedded = (booleans_Decides a.embedded b.embedded).0 h4.0 i;
        tag = (bytes_eq-Decides a.tag b.tag).0 h4.1 i;
      },
  λ e. subst (λ c. same_field a c ≡ true) e (same_field_self a),
)

pub same_fields-Decides : (a b : List Field) → Decides (same_fields a b) (a ≡ b)
same_fields-Decides a b = slice_eq-Decides same_field-Decides a b (same_fields a b) refl

pub same_fields_equiv : IsEquivalence same_fields
same_fields_equiv = decided same_fields same_fields-Decides

abbrev pub same_fields_hash : List Field → HashWrites
same_fields_hash =
    fed.slice (λ a. fed.u64 a.name.number
    ++ (fed.u32 a.package ++ (fed.u64 a.of.number ++ (fed.bool a.embedded ++ fed.slice fed.u8 a.tag))))

pub same_fields_alike : (a b : List Field) → same_fields a b ≡ true → same_fields_hash a ≡ same_fields_hash b
same_fields_alike a b h = ap same_fields_hash ((same_fields-Decides a b).0 h)

-- ---- methods

abbrev pub same_method : MethodType → MethodType → Bool
same_method a b = (a.name.number == b.name.number) && ((a.package == b.package) && (a.of.number == b.of.number))

abbrev pub same_methods : List MethodType → List MethodType → Bool
same_methods = pointwise same_method

same_method_self : (a : MethodType) → same_method a a ≡ true
same_method_self a =
    each _ _ ((unsigned_Decides a.name.number a.name.number).1 refl)
    (each _ _ ((unsigned_Decides a.package a.package).1 refl) ((unsigned_Decides a.of.number a.of.number).1 refl))

pub same_method-Decides : (a b : MethodType) → Decides (same_method a b) (a ≡ b)
same_method-Decides a b = (
  λ h.
      let h1 = both (a.name.number == b.name.number) _ h in
      let h2 = both (a.package == b.package) _ h1.1 in
      λ i. record {
        name = record { number = (unsigned_Decides a.name.number b.name.number).0 h1.0 i };
        «package» = (unsigned_Decides a.package b.package).0 h2.0 i;
        of = record { number = (unsigned_Decides a.of.number b.of.number).0 h2.1 i };
      },
  λ e. subst (λ c. same_method a c ≡ true) e (same_method_self a),
)

pub same_methods-Decides : (a b : List MethodType) → Decides (same_methods a b) (a ≡ b)
same_methods-Decides a b = slice_eq-Decides same_method-Decides a b (same_methods a b) refl

pub same_methods_equiv : IsEquivalence same_methods
same_methods_equiv = decided same_methods same_methods-Decides

abbrev pub same_methods_hash : List MethodType → HashWrites
same_methods_hash = fed.slice (λ a. fed.u64 a.name.number ++ (fed.u32 a.package ++ fed.u64 a.of.number))

pub same_methods_alike : (a b : List MethodType) → same_methods a b ≡ true → same_methods_hash a ≡ same_methods_hash b
same_methods_alike a b h = ap same_methods_hash ((same_methods-Decides a b).0 h)
