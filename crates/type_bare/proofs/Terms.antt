-- What is true of stripped terms.
use Rattle.std.proofs.Common.{◌≡◌, ℕ, ◌+◌, ◌<◌, ◌^◌, nat_lt, Bool, true, false, true≢false, ◌&&◌, List, [], ◌∷◌, ◌++◌, map, length, take, Some, refl, sym, ap, ◌∙◌}
use Rattle.std.specs.List.{list_all}
use Rattle.std.proofs.lemmas.Bool.{lt-ltb}
use Rattle.std.proofs.Math.ListN.{get_or}
use Rattle.std.proofs.lemmas.Grind.{take_at_read}
use Rattle.std.proofs.lemmas.List.{length-map, map-append}
use Rattle.go_base.specs.declared.ids.TypeId.{TypeId}
use Rattle.go_type.specs.declared.term.Field.{Field}
use Rattle.go_type.specs.declared.term.MethodType.{MethodType}
use Rattle.go_type.specs.declared.term.TypeTerm.{TypeTerm}
use Rattle.go_type.specs.declared.term.TypeTerm.TheVariants.{Basic as Plain, Declared, Pointer, Slice, Array, Map, Chan, Func, Struct, Interface, Tuple, Iter}
use Rattle.go_type.specs.Conditions.{is_holdable, is_held, ascends, precedes}
use Rattle.go_type.specs.Held.{term_parts, is_ordered}
use Rattle.go_type.specs.Same.{both, each}
use Rattle.go_type.specs.Sizes.{is_declared}
use Rattle.go_type.specs.Table.{Table, FieldsFit}
use Rattle.type_bare.specs.Stripped.{bare_field, bare_method, stripped}

pub split_all : (p : TypeId → Bool) (xs ys : List TypeId) → list_all p (xs ++ ys) ≡ true → (list_all p xs ≡ true) × (list_all p ys ≡ true)
split_all p [] ys h = (refl, h)
split_all p (x ∷ xs) ys h = let parts = both (p x) _ h in let rest = split_all p xs ys parts.1 in (each (p x) _ parts.0 rest.0, rest.1)

-- one more, as a loop adds it
pub map_next : {X Y : Type 0} (f : X → Y) (xs : List X) (i : ℕ) (d : X) → i < length xs → map f (take (i + 1) xs) ≡ map f (take i xs) ++ f (get_or xs i d) ∷ []
map_next f xs i d less = ap (map f) (take_at_read xs i d less).1 ∙ map-append f (take i xs) (get_or xs i d ∷ [])

-- ---- by functions that agree on the parts

module _ (p : TypeId → Bool) (f g : TypeId → TypeId) (agree : (x : TypeId) → p x ≡ true → f x ≡ g x) where
  ids_agree : (ids : List TypeId) → list_all p ids ≡ true → map f ids ≡ map g ids
  ids_agree [] h = refl
  ids_agree (id ∷ ids) h = let parts = both (p id) _ h in λ i. agree id parts.0 i ∷ ids_agree ids parts.1 i

  fields_agree : (fields : List Field) → list_all p (map (λ field. field.of) fields) ≡ true → map (bare_field f) fields ≡ map (bare_field g) fields
  fields_agree [] h = refl
  fields_agree (field ∷ fields) h =
      let parts = both (p field.of) _ h in
      λ i. record { name = field.name; «package» = field.package; of = agree field.of parts.0 i; embedded = field.embedded; tag = [] } ∷ fields_agree fields parts.1 i

  methods_agree : (methods : List MethodType) → list_all p (map (λ method. method.of) methods) ≡ true → map (bare_method f) methods ≡ map (bare_method g) methods
  methods_agree [] h = refl
  methods_agree (method ∷ methods) h =
      let parts = both (p method.of) _ h in
      λ i. record { name = method.name; «package» = method.package; of = agree method.of parts.0 i } ∷ methods_agree methods parts.1 i

  one_agrees : (x : TypeId) → list_all p (x ∷ []) ≡ true → f x ≡ g x
  one_agrees x h = agree x (both (p x) _ h).0

  pub stripped_agree : (term : TypeTerm) → list_all p (term_parts term) ≡ true → stripped f term ≡ stripped g term
  stripped_agree (Plain kind) h = refl
  stripped_agree (Declared name) h = refl
  stripped_agree (Pointer elem) h = ap Pointer (one_agrees elem h)
  stripped_agree (Slice elem) h = ap Slice (one_agrees elem h)
  stripped_agree (Array len elem) h = λ i. Array len (one_agrees elem h i)
  stripped_agree (Map key elem) h = let parts = both (p key) _ h in λ i. Map (agree key parts.0 i) (one_agrees elem parts.1 i)
  stripped_agree (Chan dir elem) h = λ i. Chan dir (one_agrees elem h i)
  stripped_agree (Func signature) h =
      let parts = split_all p signature.params signature.results h in
      λ i. Func (record { params = ids_agree signature.params parts.0 i; results = ids_agree signature.results parts.1 i; variadic = signature.variadic })
  stripped_agree (Struct fields) h = ap Struct (fields_agree fields h)
  stripped_agree (Interface methods) h = ap Interface (methods_agree methods h)
  stripped_agree (Tuple parts) h = ap Tuple (ids_agree parts h)
  stripped_agree (Iter over) h = ap Iter (one_agrees over h)

pub stripped_declared : (f : TypeId → TypeId) (term : TypeTerm) → is_declared (Some term) ≡ true → stripped f term ≡ term
stripped_declared f (Declared name) h = refl
stripped_declared f _ h = absurd (true≢false (sym h))

-- ---- they may be held

methods_ascend : (f : TypeId → TypeId) (methods : List MethodType) → ascends methods ≡ true → ascends (map (bare_method f) methods) ≡ true
methods_ascend f [] h = refl
methods_ascend f (m ∷ []) h = h
methods_ascend f (m ∷ n ∷ rest) h = let parts = both (precedes m (n ∷ rest)) _ h in each _ _ parts.0 (methods_ascend f (n ∷ rest) parts.1)

module _ (types : Table) (p : TypeId → Bool) (f : TypeId → TypeId) (held : (x : TypeId) → p x ≡ true → is_held types (f x) ≡ true) where
  ids_held : (ids : List TypeId) → list_all p ids ≡ true → list_all (is_held types) (map f ids) ≡ true
  ids_held [] h = refl
  ids_held (id ∷ ids) h = let parts = both (p id) _ h in each (is_held types (f id)) _ (held id parts.0) (ids_held ids parts.1)

  fields_held : (fields : List Field) → list_all p (map (λ field. field.of) fields) ≡ true → list_all (λ field. is_held types field.of) (map (bare_field f) fields) ≡ true
  fields_held [] h = refl
  fields_held (field ∷ fields) h = let parts = both (p field.of) _ h in each (is_held types (f field.of)) _ (held field.of parts.0) (fields_held fields parts.1)

  methods_held : (methods : List MethodType) → list_all p (map (λ method. method.of) methods) ≡ true → list_all (λ method. is_held types method.of) (map (bare_method f) methods) ≡ true
  methods_held [] h = refl
  methods_held (method ∷ methods) h = let parts = both (p method.of) _ h in each (is_held types (f method.of)) _ (held method.of parts.0) (methods_held methods parts.1)

  one_held : (x : TypeId) → list_all p (x ∷ []) ≡ true → is_held types (f x) ≡ true
  one_held x h = held x (both (p x) _ h).0

  fields_few : (fields : List Field) → length fields < 2 ^ 32 → nat_lt (length (map (bare_field f) fields)) (2 ^ 32) ≡ true
  fields_few fields h = ap (λ n. nat_lt n (2 ^ 32)) (length-map fields (bare_field f)) ∙ lt-ltb (length fields) (2 ^ 32) h

  pub stripped_holdable : (term : TypeTerm) → is_declared (Some term) ≡ false → list_all p (term_parts term) ≡ true → is_ordered term ≡ true → FieldsFit term
      → is_holdable types (stripped f term) ≡ true
  stripped_holdable (Plain kind) d h o fit = refl
  stripped_holdable (Declared name) d h o fit = absurd (true≢false d)
  stripped_holdable (Pointer elem) d h o fit = one_held elem h
  stripped_holdable (Slice elem) d h o fit = one_held elem h
  stripped_holdable (Array len elem) d h o fit = one_held elem h
  stripped_holdable (Map key elem) d h o fit = let parts = both (p key) _ h in each (is_held types (f key)) _ (held key parts.0) (one_held elem parts.1)
  stripped_holdable (Chan dir elem) d h o fit = one_held elem h
  stripped_holdable (Func signature) d h o fit =
      let parts = split_all p signature.params signature.results h in each _ _ (ids_held signature.params parts.0) (ids_held signature.results parts.1)
  stripped_holdable (Struct fields) d h o fit = each _ _ (fields_held fields h) (fields_few fields fit)
  stripped_holdable (Interface methods) d h o fit = each _ _ (methods_held methods h) (methods_ascend f methods o)
  stripped_holdable (Tuple parts) d h o fit = ids_held parts h
  stripped_holdable (Iter over) d h o fit = one_held over h
