-- What the conditions give.
use Rattle.std.proofs.Common.{◌≡◌, ℕ, zero, suc, ◌<◌, Bool, true, true≢false, List, [], ◌∷◌, ◌++◌, map, length, ◌∙◌, Option, Some, None, slice_get, refl, sym, arith}
use Rattle.std.specs.List.{list_all}
use Rattle.std.proofs.lemmas.List.Folds.{list_all-append}
use borrow.Author.Tests.{ltb-true}
use Rattle.go_base.specs.declared.ids.TypeId.{TypeId}
use Rattle.go_type.specs.declared.term.TypeTerm.{TypeTerm}
use Rattle.go_type.specs.declared.term.Field.{Field}
use Rattle.go_type.specs.declared.term.MethodType.{MethodType}
use Rattle.go_type.specs.declared.term.TypeTerm.TheVariants.{Basic as Plain, Declared, Pointer, Slice, Array, Map, Chan, Func, Struct, Interface, Tuple, Iter}
use Rattle.go_type.specs.Conditions.{is_holdable, is_held}
use Rattle.go_type.specs.Held.{names_below, is_ordered}
use Rattle.go_type.specs.Same.{both, each}
use Rattle.go_type.specs.Sizes.{is_declared}
use Rattle.go_type.specs.Table.{Table, term_at, FieldsFit}

pub fields_fit : (types : Table) (term : TypeTerm) → is_holdable types term ≡ true → FieldsFit term
fields_fit types (Struct fields) h = ltb-true _ _ (both _ _ h).1
fields_fit types _ h = tt

-- the parts of a type that may be held are held
all_and : {X : Type 0} (p : X → Bool) (xs ys : List X) → list_all p xs ≡ true → list_all p ys ≡ true → list_all p (xs ++ ys) ≡ true
all_and p xs ys h k = list_all-append p xs ys ∙ each _ _ h k

all_fields : (p : TypeId → Bool) (fields : List Field) → list_all (λ field. p field.of) fields ≡ true → list_all p (map (λ field. field.of) fields) ≡ true
all_fields p [] h = refl
all_fields p (field ∷ fields) h = let parts = both (p field.of) _ h in each (p field.of) _ parts.0 (all_fields p fields parts.1)

all_methods : (p : TypeId → Bool) (methods : List MethodType) → list_all (λ method. p method.of) methods ≡ true → list_all p (map (λ method. method.of) methods) ≡ true
all_methods p [] h = refl
all_methods p (method ∷ methods) h = let parts = both (p method.of) _ h in each (p method.of) _ parts.0 (all_methods p methods parts.1)

pub parts_below : (types : Table) (term : TypeTerm) → is_holdable types term ≡ true → names_below (length types.terms) term ≡ true
parts_below types (Plain kind) h = refl
parts_below types (Declared name) h = refl
parts_below types (Pointer elem) h = each _ _ h refl
parts_below types (Slice elem) h = each _ _ h refl
parts_below types (Array len elem) h = each _ _ h refl
parts_below types (Map key elem) h = let parts = both (is_held types key) _ h in each _ _ parts.0 (each _ _ parts.1 refl)
parts_below types (Chan dir elem) h = each _ _ h refl
parts_below types (Func signature) h =
    let parts = both (list_all (is_held types) signature.params) _ h in all_and (is_held types) signature.params signature.results parts.0 parts.1
parts_below types (Struct fields) h = all_fields (is_held types) fields (both _ _ h).0
parts_below types (Interface methods) h = all_methods (is_held types) methods (both _ _ h).0
parts_below types (Tuple parts) h = h
parts_below types (Iter over) h = each _ _ h refl

pub methods_ordered : (types : Table) (term : TypeTerm) → is_holdable types term ≡ true → is_ordered term ≡ true
methods_ordered types (Interface methods) h = (both _ _ h).1
methods_ordered types _ h = refl

pub inside : {X : Type 0} (xs : List X) (i : ℕ) (x : X) → slice_get xs i ≡ Some x → i < length xs
inside [] i x h = cc
inside (y ∷ xs) zero x h = omega arith
inside (y ∷ xs) (suc i) x h = let k : i < length xs = inside xs i x h in omega arith

pub declared_held : (types : Table) (id : TypeId) → is_declared (term_at types id) ≡ true → id.number < length types.terms
declared_held types id h = by (term_at types id) refl h
  where
    by : (t : Option TypeTerm) → term_at types id ≡ t → is_declared t ≡ true → id.number < length types.terms
    by (Some term) e k = inside types.terms id.number term e
    by None e k = absurd (true≢false (sym k))
