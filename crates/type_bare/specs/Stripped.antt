-- Types without the tags of fields. Go specification, "Struct types".
use Rattle.std.specs.Prelude.{◌≡◌, ◌<◌, ◌≤◌, List, [], map, length, Some, unwrap_or, slice_get}
use Rattle.go_base.specs.declared.ids.TypeId.{TypeId}
use Rattle.go_type.specs.declared.term.Field.{Field}
use Rattle.go_type.specs.declared.term.MethodType.{MethodType}
use Rattle.go_type.specs.declared.term.Signature.{Signature}
use Rattle.go_type.specs.declared.term.TypeTerm.{TypeTerm}
use Rattle.go_type.specs.declared.term.TypeTerm.TheVariants.{Basic as Plain, Declared, Pointer, Slice, Array, Map}
use Rattle.go_type.specs.declared.term.TypeTerm.TheVariants.{Chan, Func, Struct, Interface, Tuple, Iter}
use Rattle.go_type.specs.Table.{Table, term_at, definition_at}

-- ---- terms: what f gives of their parts stands for these, and fields have no tags

abbrev pub bare_field : (TypeId → TypeId) → Field → Field
bare_field f field =
    record { name = field.name; «package» = field.package; of = f field.of; embedded = field.embedded; tag = [] }

abbrev pub bare_method : (TypeId → TypeId) → MethodType → MethodType
bare_method f method = record { name = method.name; «package» = method.package; of = f method.of }

abbrev pub stripped_signature : (TypeId → TypeId) → Signature → Signature
stripped_signature f signature =
    record { params = map f signature.params; results = map f signature.results; variadic = signature.variadic }

abbrev pub stripped : (TypeId → TypeId) → TypeTerm → TypeTerm
stripped f (Plain kind) = Plain kind
stripped f (Declared name) = Declared name
stripped f (Pointer elem) = Pointer (f elem)
stripped f (Slice elem) = Slice (f elem)
stripped f (Array len elem) = Array len (f elem)
stripped f (Map key elem) = Map (f key) (f elem)
stripped f (Chan dir elem) = Chan dir (f elem)
stripped f (Func signature) = Func (stripped_signature f signature)
stripped f (Struct fields) = Struct (map (bare_field f) fields)
stripped f (Interface methods) = Interface (map (bare_method f) methods)
stripped f (Tuple parts) = Tuple (map f parts)
stripped f (Iter over) = Iter (f over)

-- ---- types: the bare type of each is at the place of its number

-- where it is not known, the type itself
abbrev pub bare_of : List TypeId → TypeId → TypeId
bare_of bares id = unwrap_or (slice_get bares id.number) id

-- a type whose term is the stripped one. As each term is held once, that of a declared or basic type is the type itself
abbrev pub IsBareOf : Table → List TypeId → TypeId → TypeId → Type 0
IsBareOf types bares id bare =
    (term : TypeTerm) → term_at types id ≡ Some term → term_at types bare ≡ Some (stripped (bare_of bares) term)

pub record AreBare (bares : List TypeId) (types : Table) : Type 0 where
  pub count : length bares ≤ length types.terms
  pub bare : (id : TypeId) → id.number < length bares → IsBareOf types bares id (bare_of bares id)

-- ---- what stays

abbrev pub KeepsBare : List TypeId → List TypeId → Type 0
KeepsBare old later = (id bare : TypeId) → slice_get old id.number ≡ Some bare → slice_get later id.number ≡ Some bare

-- no type has been defined or given a method
abbrev pub KeepsDefinitions : Table → Table → Type 0
KeepsDefinitions old later = (id : TypeId) → definition_at later id ≡ definition_at old id
