-- The types that are held. Go specification, "Types" and "Underlying types".
use Rattle.std.specs.Prelude.{ℕ, ◌==◌, ◌<◌, ◌^◌, Bool, List, [], ◌∷◌, ◌++◌, if◌then◌else◌, false, length, Option, Some}
use Rattle.std.specs.Prelude.{None, slice_get, slice_set, unwrap_or, map}
use Rattle.std.specs.List.{list_any, position_or_len, repeat}
use Rattle.go_base.specs.declared.ids.NameId.{NameId}
use Rattle.go_base.specs.declared.ids.TypeId.{TypeId}
use Rattle.go_type.specs.declared.term.TypeTerm.{TypeTerm}
use Rattle.go_type.specs.declared.term.TypeTerm.TheVariants.{Basic as Plain, Declared, Func, Struct, Interface}
use Rattle.go_type.specs.declared.term.Basic.{Basic}
use Rattle.go_type.specs.declared.term.Basic.TheVariants as basic
use Rattle.go_type.specs.declared.term.MethodType.{MethodType}
use Rattle.go_type.specs.declared.methods.MethodEntry.{MethodEntry}
use Rattle.go_type.specs.declared.types.Definition.{Definition}
use Rattle.go_type.specs.contracts.term.TypeTermPartialEq.TheImpl as generated

-- the number of a type's id is the place of its term; a declared type has a definition too; `blank` is the id of the
-- name `_`, once it is known
pub record Table : Type 0 where
  pub terms : List TypeTerm
  pub definitions : List Definition
  pub error : TypeId
  pub blank : Option NameId

abbrev pub same_term : TypeTerm → TypeTerm → Bool
same_term = generated.ghosts.eq

-- the place of a term, or the next where it is not held
abbrev pub place_of : TypeTerm → Table → ℕ
place_of term types = position_or_len (same_term term) types.terms

-- the id of a term
abbrev pub id_of : TypeTerm → Table → Option TypeId
id_of term types =
    if list_any (same_term term) types.terms then Some (record { number = place_of term types }) else None

abbrev pub no_definition : Definition
no_definition = record { underlying = None; methods = [] }

-- a term that was not held, at the end
abbrev pub with_next : TypeTerm → Table → Table
with_next term types = record {
  terms = types.terms ++ term ∷ [];
  definitions = types.definitions ++ no_definition ∷ [];
  error = types.error;
  blank = types.blank;
}

abbrev pub with_term : TypeTerm → Table → Table
with_term term types = if list_any (same_term term) types.terms then types else with_next term types

abbrev pub term_at : Table → TypeId → Option TypeTerm
term_at types id = slice_get types.terms id.number

abbrev pub definition_at : Table → TypeId → Definition
definition_at types id = unwrap_or (slice_get types.definitions id.number) no_definition

-- a type that is not declared is its own underlying type
abbrev pub underlying_of : Table → TypeId → TypeId
underlying_of types id = unwrap_or (definition_at types id).underlying id

abbrev pub with_definition : TypeId → Definition → Table → Table
with_definition id definition types = record types { definitions = slice_set types.definitions id.number definition }

abbrev pub with_underlying : TypeId → TypeId → Table → Table
with_underlying id underlying types =
    with_definition id (record { underlying = Some underlying; methods = (definition_at types id).methods }) types

abbrev pub with_method : TypeId → MethodEntry → Table → Table
with_method id method types =
    with_definition id
    (record {
      underlying = (definition_at types id).underlying;
      methods = (definition_at types id).methods ++ method ∷ [];
    }) types

-- the fields of a struct are numbered in 32 bits
abbrev pub FieldsFit : TypeTerm → Type 0
FieldsFit (Struct fields) = length fields < 2 ^ 32
FieldsFit _ = Unit {0}

abbrev pub is_name : Option NameId → NameId → Bool
is_name None name = false
is_name (Some blank) name = blank.number == name.number

-- whether a name is `_`
abbrev pub is_blank : Table → NameId → Bool
is_blank types name = is_name types.blank name

abbrev pub with_blank : NameId → Table → Table
with_blank name types = record types { blank = Some name }

-- ---- the predeclared types

abbrev pub all_basic : List Basic
all_basic =
    basic.Bool ∷ basic.Int ∷ basic.Int8 ∷ basic.Int16 ∷ basic.Int32 ∷ basic.Int64
    ∷ basic.Uint ∷ basic.Uint8 ∷ basic.Uint16 ∷ basic.Uint32 ∷ basic.Uint64 ∷ basic.Text
    ∷ basic.UntypedBool ∷ basic.UntypedInt ∷ basic.UntypedRune ∷ basic.UntypedText ∷ basic.UntypedNil ∷ []

-- a basic type more, where it is not there
abbrev pub with_basic : List TypeTerm → Basic → List TypeTerm
with_basic terms kind = if list_any (same_term (Plain kind)) terms then terms else terms ++ Plain kind ∷ []

-- the place of a basic type
abbrev pub basic_place : Basic → ℕ
basic_place basic.Bool = 0
basic_place basic.Int = 1
basic_place basic.Int8 = 2
basic_place basic.Int16 = 3
basic_place basic.Int32 = 4
basic_place basic.Int64 = 5
basic_place basic.Uint = 6
basic_place basic.Uint8 = 7
basic_place basic.Uint16 = 8
basic_place basic.Uint32 = 9
basic_place basic.Uint64 = 10
basic_place basic.Text = 11
basic_place basic.UntypedBool = 12
basic_place basic.UntypedInt = 13
basic_place basic.UntypedRune = 14
basic_place basic.UntypedText = 15
basic_place basic.UntypedNil = 16

abbrev pub basic_id : Basic → TypeId
basic_id kind = record { number = basic_place kind }

abbrev pub exported : ℕ
exported = 4294967295

abbrev pub exported_method : NameId → TypeId → MethodType
exported_method name of = record { name = name; «package» = exported; of = of }

-- `func() string`
abbrev pub text_function : TypeTerm
text_function = Func (record { params = []; results = basic_id basic.Text ∷ []; variadic = false })

-- the interface of `error`, whose method is `func() string`
abbrev pub error_interface : NameId → TypeTerm
error_interface method = Interface (exported_method method (record { number = 17 }) ∷ [])

abbrev pub error_term : NameId → TypeTerm
error_term name = Declared (record { name = name; «package» = exported; number = 0 })

abbrev pub first_terms : NameId → NameId → List TypeTerm
first_terms error method = map Plain all_basic ++ text_function ∷ error_interface method ∷ error_term error ∷ []

-- `error` alone is defined
abbrev pub first_definitions : List Definition
first_definitions =
    repeat 19 (no_definition ∷ []) ++ record { underlying = Some (record { number = 18 }); methods = [] } ∷ []

-- the basic types, `func() string`, the interface of `error`, and `error`
unfoldable pub predeclared : NameId → NameId → Table
predeclared error method =
    record {
      terms = first_terms error method;
      definitions = first_definitions;
      error = record { number = 19 };
      blank = None;
    }
