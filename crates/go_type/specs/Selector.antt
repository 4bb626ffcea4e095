-- What a selector selects. Go specification, "Selectors" and "Struct types".
use Rattle.std.specs.Prelude.{false, ◌≡◌, ℕ, zero, suc, ◌+◌, ◌<◌, Bool, ◌==◌, ◌&&◌, ◌||◌, List, [], ◌∷◌, ◌++◌}
use Rattle.std.specs.Prelude.{if◌then◌else◌, Option, Some, Result, Ok, Err, ◌⊎◌, ◌≢◌, not, true}
use Rattle.std.specs.List.{flat_map}
use Rattle.go_base.specs.declared.ids.NameId.{NameId}
use Rattle.go_base.specs.declared.ids.TypeId.{TypeId}
use Rattle.go_type.specs.declared.term.Field.{Field}
use Rattle.go_type.specs.declared.term.MethodType.{MethodType}
use Rattle.go_type.specs.declared.term.TypeTerm.{TypeTerm}
use Rattle.go_type.specs.declared.term.TypeTerm.TheVariants.{Pointer, Struct, Interface}
use Rattle.go_type.specs.declared.methods.MethodEntry.{MethodEntry}
use Rattle.go_type.specs.declared.methods.Selection.{Selection}
use Rattle.go_type.specs.declared.methods.SelectionKind.TheVariants as kind
use Rattle.go_type.specs.declared.methods.SelectError.{SelectError}
use Rattle.go_type.specs.declared.methods.SelectError.TheVariants as error
use Rattle.go_type.specs.declared.members.Wanted.{Wanted}
use Rattle.go_type.specs.declared.members.Member.{Member}
use Rattle.go_type.specs.Table.{Table, term_at, definition_at, underlying_of}

-- a type that embedded fields lead to, with the numbers of the fields on the way; `indirect` tells whether a pointer
-- was followed
pub record Place : Type 0 where
  pub of : TypeId
  pub path : List ℕ
  pub indirect : Bool

-- names are compared with the package that they belong to
abbrev pub is_wanted : Wanted → NameId → ℕ → Bool
is_wanted wanted name of = (wanted.name.number == name.number) && (wanted.package == of)

-- what f makes of each item and its number, the first being number n, one after another
abbrev pub flat_map_from : {X Y : Type 0} → (ℕ → X → List Y) → ℕ → List X → List Y
flat_map_from f n [] = []
flat_map_from f n (x ∷ xs) = f n x ++ flat_map_from f (n + 1) xs

-- ---- what is selected in a type itself, at the end of a path of embedded fields; `indirect` tells whether a pointer
-- was followed

abbrev pub method_named : Wanted → List ℕ → Bool → MethodEntry → List Member
method_named wanted path indirect m =
    if is_wanted wanted m.name m.package
    then record { path = path; kind = m.kind; of = m.of; pointer = m.pointer; indirect = indirect } ∷ [] else []

abbrev pub signature_named : Wanted → List ℕ → Bool → MethodType → List Member
signature_named wanted path indirect m =
    if is_wanted wanted m.name m.package
    then record { path = path; kind = kind.InterfaceMethod; of = m.of; pointer = false; indirect = indirect } ∷ []
    else []

abbrev pub field_named : Wanted → List ℕ → Bool → ℕ → Field → List Member
field_named wanted path indirect n f =
    if is_wanted wanted f.name f.package
    then record { path = path ++ n ∷ []; kind = kind.Field; of = f.of; pointer = false; indirect = indirect } ∷ []
    else []

abbrev pub fields_named : Wanted → List ℕ → Bool → List Field → List Member
fields_named wanted path indirect fields = flat_map_from (field_named wanted path indirect) 0 fields

abbrev pub members_named : Wanted → List ℕ → Bool → Option TypeTerm → List Member
members_named wanted path indirect (Some (Struct fields)) = fields_named wanted path indirect fields
members_named wanted path indirect (Some (Interface methods)) = flat_map (signature_named wanted path indirect) methods
members_named wanted path indirect _ = []

abbrev pub selected_in : Table → Wanted → Place → List Member
selected_in types wanted place =
    flat_map (method_named wanted place.path place.indirect) (definition_at types place.of).methods
    ++ members_named wanted place.path place.indirect (term_at types (underlying_of types place.of))

-- ---- the types of its embedded fields, pointers followed

abbrev pub is_pointer : Option TypeTerm → Bool
is_pointer (Some (Pointer elem)) = true
is_pointer _ = false

abbrev pub pointed : Option TypeTerm → TypeId → TypeId
pointed (Some (Pointer elem)) id = elem
pointed _ id = id

abbrev pub without_pointer : Table → TypeId → TypeId
without_pointer types id = pointed (term_at types id) id

abbrev pub embedded_by : Table → List ℕ → Bool → ℕ → Field → List Place
embedded_by types path indirect n f =
    if f.embedded
    then record {
      of = without_pointer types f.of;
      path = path ++ n ∷ [];
      indirect = indirect || is_pointer (term_at types f.of);
    } ∷ [] else []

abbrev pub embedded_from : Table → List ℕ → Bool → List Field → List Place
embedded_from types path indirect fields = flat_map_from (embedded_by types path indirect) 0 fields

abbrev pub embedded_of : Table → List ℕ → Bool → Option TypeTerm → List Place
embedded_of types path indirect (Some (Struct fields)) = embedded_from types path indirect fields
embedded_of types path indirect _ = []

abbrev pub embedded_in : Table → Place → List Place
embedded_in types place = embedded_of types place.path place.indirect (term_at types (underlying_of types place.of))

-- ---- by depth

abbrev pub is_interface : Option TypeTerm → Bool
is_interface (Some (Interface methods)) = true
is_interface _ = false

-- where a selector begins: at what a pointer points to, but for a pointer to an interface
abbrev pub base_by : Table → Option TypeTerm → TypeId → TypeId
base_by types (Some (Pointer elem)) a = if is_interface (term_at types (underlying_of types elem)) then a else elem
base_by types _ a = a

abbrev pub base : Table → TypeId → TypeId
base types a = base_by types (term_at types (underlying_of types a)) a

abbrev pub start : Table → TypeId → Place
start types a = record { of = base types a; path = []; indirect = is_pointer (term_at types (underlying_of types a)) }

-- what is selected n embedded fields below a place, in the order of the paths
unfoldable pub members_below : ℕ → Table → Wanted → Place → List Member
members_below zero types wanted place = selected_in types wanted place
members_below (suc n) types wanted place = flat_map (members_below n types wanted) (embedded_in types place)

abbrev pub selected_at : ℕ → Table → Wanted → TypeId → List Member
selected_at n types wanted a = members_below n types wanted (start types a)

abbrev pub NoneAbove : ℕ → Table → Wanted → TypeId → Type 0
NoneAbove n types wanted a = (k : ℕ) → k < n → selected_at k types wanted a ≡ []

-- the one field or method at the least depth where there is one; where there are two, the paths of the first two
abbrev pub Finds : Table → Wanted → TypeId → Result Member SelectError → Type 0
Finds types wanted a (Ok member) = (n : ℕ) × (selected_at n types wanted a ≡ member ∷ []) × NoneAbove n types wanted a
Finds types wanted a (Err (error.Ambiguous first second)) =
    (n : ℕ) × ((f : Member) × ((g : Member) × ((rest : List Member)
    × ((selected_at n types wanted a ≡ f ∷ g ∷ rest) × (f.path ≡ first) × (g.path ≡ second)
    × NoneAbove n types wanted a))))
Finds types wanted a (Err error.Absent) = (n : ℕ) → selected_at n types wanted a ≡ []
Finds types wanted a (Err error.OutOfMemory) = Unit {0}

-- ---- selectors

abbrev pub selection_of : Member → Selection
selection_of member = record { path = member.path; kind = member.kind; result = member.of }

-- a declared type that is a pointer has the fields of what it points to, and no methods
abbrev pub is_declared_pointer : Table → TypeId → Bool
is_declared_pointer types a = is_pointer (term_at types (underlying_of types a)) && not (is_pointer (term_at types a))

abbrev pub SelectsFrom : Table → Wanted → TypeId → Result Selection SelectError → Type 0
SelectsFrom types wanted a (Ok selection) =
    (member : Member)
    × (Finds types wanted a (Ok member) × (selection ≡ selection_of member)
    × (is_declared_pointer types a ≡ true → member.kind ≡ kind.Field))
SelectsFrom types wanted a (Err error.Absent) =
    Finds types wanted a (Err error.Absent)
    ⊎ ((is_declared_pointer types a ≡ true)
    × ((member : Member) × ((member.kind ≢ kind.Field) × Finds types wanted a (Ok member))))
SelectsFrom types wanted a (Err e) = Finds types wanted a (Err e)

-- the one item, or the paths of the first two
abbrev pub IsFirst : List Member → Result Member SelectError → Type 0
IsFirst found (Ok member) = found ≡ member ∷ []
IsFirst found (Err (error.Ambiguous first second)) =
    (f : Member)
    × ((g : Member) × ((rest : List Member) × ((found ≡ f ∷ g ∷ rest) × (f.path ≡ first) × (g.path ≡ second))))
IsFirst found (Err error.OutOfMemory) = Unit {0}
IsFirst found (Err _) = ⊥
