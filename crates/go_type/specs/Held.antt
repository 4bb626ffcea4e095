-- What holds of the types that are held.
use Rattle.std.specs.Prelude.{◌≡◌, ℕ, ◌<◌, nat_lt, ◌==◌, ◌&&◌, Bool, true, false, List, [], ◌∷◌, ◌++◌, map, length}
use Rattle.std.specs.Prelude.{Option, Some}
use Rattle.std.specs.List.{All, IsDistinct, list_all}
use Rattle.go_base.specs.declared.ids.TypeId.{TypeId}
use Rattle.go_type.specs.declared.term.Basic.{Basic}
use Rattle.go_type.specs.declared.term.TypeTerm.{TypeTerm}
use Rattle.go_type.specs.declared.term.TypeTerm.TheVariants.{Basic as Plain, Declared, Pointer, Slice, Array, Map}
use Rattle.go_type.specs.declared.term.TypeTerm.TheVariants.{Chan, Func, Struct, Interface, Tuple, Iter}
use Rattle.go_type.specs.Conditions.{ascends, reaches_to, is_own_method}
use Rattle.go_type.specs.Sizes.{is_declared}
use Rattle.go_type.specs.Table.{Table, same_term, term_at, definition_at, basic_id, text_function, exported, FieldsFit}

-- ---- terms

-- the types that a term names
abbrev pub term_parts : TypeTerm → List TypeId
term_parts (Plain kind) = []
term_parts (Declared name) = []
term_parts (Pointer elem) = elem ∷ []
term_parts (Slice elem) = elem ∷ []
term_parts (Array len elem) = elem ∷ []
term_parts (Map key elem) = key ∷ elem ∷ []
term_parts (Chan dir elem) = elem ∷ []
term_parts (Func signature) = signature.params ++ signature.results
term_parts (Struct fields) = map (λ field. field.of) fields
term_parts (Interface methods) = map (λ method. method.of) methods
term_parts (Tuple parts) = parts
term_parts (Iter over) = over ∷ []

-- whether the types that a term names have numbers below one
abbrev pub names_below : ℕ → TypeTerm → Bool
names_below n term = list_all (λ part. nat_lt part.number n) (term_parts term)

-- whether the methods of an interface ascend
abbrev pub is_ordered : TypeTerm → Bool
is_ordered (Interface methods) = ascends methods
is_ordered _ = true

pub record StandsAt (n : ℕ) (term : TypeTerm) : Type 0 where
  pub parts : names_below n term ≡ true
  pub ordered : is_ordered term ≡ true

-- ---- definitions

-- a declared type that has an underlying type, which is held and not declared
pub record IsDefined (types : Table) (id underlying : TypeId) : Type 0 where
  pub declared : is_declared (term_at types id) ≡ true
  pub held : underlying.number < length types.terms
  pub plain : is_declared (term_at types underlying) ≡ false

-- ---- the type `error`

abbrev pub is_error_name : Option TypeTerm → Bool
is_error_name (Some (Declared name)) = (name.package == exported) && (name.number == 0)
is_error_name _ = false

abbrev pub is_error_interface : Option TypeTerm → Bool
is_error_interface (Some (Interface (method ∷ []))) = (method.package == exported) && (method.of.number == 17)
is_error_interface _ = false

-- a declared type, whose underlying type is the interface of one exported method `func() string`
pub record IsError (types : Table) : Type 0 where
  pub place : types.error ≡ record { number = 19 }
  pub name : is_error_name (term_at types (record { number = 19 })) ≡ true
  pub underlying : (definition_at types (record { number = 19 })).underlying ≡ Some (record { number = 18 })
  pub interface : is_error_interface (term_at types (record { number = 18 })) ≡ true
  pub function : term_at types (record { number = 17 }) ≡ Some text_function

-- ---- all

-- Each term is held once, with a definition, and names types that came before it. Declared types alone are defined and
-- have methods. None reaches itself through elements of arrays and fields alone. The basic types stand first.
pub record IsHeld (types : Table) : Type 0 where
  pub counts : length types.definitions ≡ length types.terms
  pub distinct : IsDistinct same_term types.terms
  pub fit : All FieldsFit types.terms
  pub stands : (id : TypeId) (term : TypeTerm) → term_at types id ≡ Some term → StandsAt id.number term
  pub defined : (id underlying : TypeId) → (definition_at types id).underlying ≡ Some underlying
      → IsDefined types id underlying
  pub own : (id : TypeId) → list_all (is_own_method types) (definition_at types id).methods ≡ true
  pub owners : (id : TypeId) → is_declared (term_at types id) ≡ false → (definition_at types id).methods ≡ []
  pub acyclic : (n : ℕ) (id : TypeId) → reaches_to n types id id ≡ false
  pub basics : (kind : Basic) → term_at types (basic_id kind) ≡ Some (Plain kind)
  pub error : IsError types
