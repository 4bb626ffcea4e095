-- What may be held, defined and added. Go specification, "Types", "Type declarations" and "Method declarations".
use Rattle.std.specs.Prelude.{◌≡◌, ℕ, zero, suc, ◌^◌, ◌==◌, nat_lt, Bool, true, false, not, ◌&&◌, ◌||◌, List, [], ◌∷◌}
use Rattle.std.specs.Prelude.{length, Option, Some, is_some, IsTrue}
use Rattle.std.specs.List.{list_any, list_all}
use Rattle.std.specs.Ordering.{is_lt}
use Rattle.go_base.specs.declared.ids.NameId.{NameId}
use Rattle.go_base.specs.declared.ids.TypeId.{TypeId}
use Rattle.go_type.specs.declared.methods.MethodEntry.{MethodEntry}
use Rattle.go_type.specs.declared.methods.SelectionKind.{SelectionKind}
use Rattle.go_type.specs.declared.methods.SelectionKind.TheVariants as kind
use Rattle.go_type.specs.declared.term.Field.{Field}
use Rattle.go_type.specs.declared.term.MethodType.{MethodType}
use Rattle.go_type.specs.declared.term.TypeTerm.{TypeTerm}
use Rattle.go_type.specs.declared.term.TypeTerm.TheVariants.{Basic as Plain, Declared, Pointer, Slice, Array, Map}
use Rattle.go_type.specs.declared.term.TypeTerm.TheVariants.{Chan, Func, Struct, Interface, Tuple, Iter}
use Rattle.go_type.specs.MethodSets.{by_name}
use Rattle.go_type.specs.Same.{same_id}
use Rattle.go_type.specs.Selector.{is_wanted}
use Rattle.go_type.specs.Sizes.{is_declared}
use Rattle.go_type.specs.Table.{Table, term_at, definition_at, underlying_of, is_blank}

-- ---- what may be held

abbrev pub is_held : Table → TypeId → Bool
is_held types id = nat_lt id.number (length types.terms)

-- fields are numbered in 32 bits
abbrev pub are_fields : Table → List Field → Bool
are_fields types fields = list_all (λ field. is_held types field.of) fields && nat_lt (length fields) (2 ^ 32)

-- a method comes before the next
abbrev pub precedes : MethodType → List MethodType → Bool
precedes m [] = true
precedes m (n ∷ rest) =
    is_lt (by_name (record { name = m.name; «package» = m.package }) (record { name = n.name; «package» = n.package }))

abbrev pub ascends : List MethodType → Bool
ascends [] = true
ascends (m ∷ rest) = precedes m rest && ascends rest

abbrev pub are_methods : Table → List MethodType → Bool
are_methods types methods = list_all (λ method. is_held types method.of) methods && ascends methods

-- no declared type, with parts that are held; methods ascend without repeats
abbrev pub is_holdable : Table → TypeTerm → Bool
is_holdable types (Plain kind) = true
is_holdable types (Declared name) = false
is_holdable types (Pointer elem) = is_held types elem
is_holdable types (Slice elem) = is_held types elem
is_holdable types (Array len elem) = is_held types elem
is_holdable types (Map key elem) = is_held types key && is_held types elem
is_holdable types (Chan dir elem) = is_held types elem
is_holdable types (Func signature) =
    list_all (is_held types) signature.params && list_all (is_held types) signature.results
is_holdable types (Struct fields) = are_fields types fields
is_holdable types (Interface methods) = are_methods types methods
is_holdable types (Tuple parts) = list_all (is_held types) parts
is_holdable types (Iter over) = is_held types over

-- ---- what may be defined

-- whether a term has a type as an element or field, or has one with a property
abbrev pub has_inline : TypeId → (TypeId → Bool) → Option TypeTerm → Bool
has_inline id part (Some (Array len elem)) = same_id id elem || part elem
has_inline id part (Some (Struct fields)) = list_any (λ field. same_id id field.of || part field.of) fields
has_inline id part _ = false

-- whether a type reaches another by at most n steps to elements of arrays and fields
abbrev pub reaches_to : ℕ → Table → TypeId → TypeId → Bool
reaches_to zero types id from = false
reaches_to (suc n) types id from = has_inline id (reaches_to n types id) (term_at types (underlying_of types from))

-- a declared type that is not defined, and a type that is not declared and does not reach it through elements and
-- fields alone
abbrev pub is_definable : Table → TypeId → TypeId → Bool
is_definable types id underlying =
    is_declared (term_at types id) && not (is_some (definition_at types id).underlying) && is_held types underlying
    && not (is_declared (term_at types underlying))

abbrev pub CanDefine : Table → TypeId → TypeId → Type 0
CanDefine types id underlying =
    IsTrue (is_definable types id underlying) × ((n : ℕ) → reaches_to n types id underlying ≡ false)

-- ---- what may be added: a method of a name that a declared type has none of, or of the name `_`

abbrev pub is_function : Option TypeTerm → Bool
is_function (Some (Func signature)) = true
is_function _ = false

abbrev pub is_method_kind : SelectionKind → Bool
is_method_kind (kind.Method function) = true
is_method_kind _ = false

-- a method that is declared of a type: a function, by an empty path, whose type is a function type
abbrev pub is_own_method : Table → MethodEntry → Bool
is_own_method types method =
    is_method_kind method.kind && (length method.path == 0) && is_function (term_at types method.of)

abbrev pub has_name : NameId → ℕ → List MethodEntry → Bool
has_name name of methods = list_any (λ m. is_wanted (record { name = name; «package» = of }) m.name m.package) methods

abbrev pub takes_method : Table → TypeId → MethodEntry → Bool
takes_method types id method =
    is_declared (term_at types id) && is_own_method types method
    && (is_blank types method.name || not (has_name method.name method.package (definition_at types id).methods))
