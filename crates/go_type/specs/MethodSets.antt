-- The methods that a type has. Go specification, "Method sets".
use Rattle.std.specs.Prelude.{◌≡◌, ◌≢◌, Bool, true, false, ◌||◌, List, Option, Some, None, Ok}
use Rattle.std.specs.List.{list_any, Contains}
use Rattle.std.specs.Ordering.{nat_cmp, ordering_then}
use Rattle.std.specs.declared.cmp.Ordering.{Ordering}
use Rattle.std.specs.BTreeSet.{BTreeSet, contains}
use Rattle.go_base.specs.declared.ids.TypeId.{TypeId}
use Rattle.go_type.specs.declared.members.Wanted.{Wanted}
use Rattle.go_type.specs.declared.members.Member.{Member}
use Rattle.go_type.specs.declared.methods.MethodEntry.{MethodEntry}
use Rattle.go_type.specs.declared.methods.SelectionKind.TheVariants as kind
use Rattle.go_type.specs.declared.term.TypeTerm.{TypeTerm}
use Rattle.go_type.specs.declared.term.TypeTerm.TheVariants.{Interface}
use Rattle.go_type.specs.Selector.{is_wanted, Finds, is_declared_pointer}
use Rattle.go_type.specs.Table.{Table, term_at, definition_at, underlying_of, is_blank}

-- a method that a name other than `_` selects belongs to the set; one with a pointer receiver, where the type is a
-- pointer or an embedded pointer leads to it
abbrev pub HasMember : Table → TypeId → Wanted → Member → Type 0
HasMember types a wanted member =
    Finds types wanted a (Ok member) × (member.kind ≢ kind.Field) × (is_declared_pointer types a ≡ false)
    × (member.pointer ≡ true → member.indirect ≡ true)
    × (is_blank types wanted.name ≡ false)

abbrev pub name_of : MethodEntry → Wanted
name_of entry = record { name = entry.name; «package» = entry.package }

abbrev pub entry_of : Wanted → Member → MethodEntry
entry_of wanted member =
    record {
      name = wanted.name;
      «package» = wanted.package;
      path = member.path;
      kind = member.kind;
      of = member.of;
      pointer = member.pointer;
    }

abbrev pub IsMethod : Table → TypeId → MethodEntry → Type 0
IsMethod types a entry =
    (member : Member) × (HasMember types a (name_of entry) member × (entry ≡ entry_of (name_of entry) member))

abbrev pub HasEach : Table → TypeId → List MethodEntry → Type 0
HasEach types a set = (entry : MethodEntry) → IsMethod types a entry → Contains set entry

-- by the number of the name's id, then by package
abbrev pub by_name : Wanted → Wanted → Ordering
by_name x y = ordering_then (nat_cmp x.name.number y.name.number) (nat_cmp x.package y.package)

-- ---- finding them

-- the entry of a name, where the set has one
abbrev pub IsEntryOf : Table → TypeId → Wanted → Option MethodEntry → Type 0
IsEntryOf types a wanted (Some entry) = IsMethod types a entry × (name_of entry ≡ wanted)
IsEntryOf types a wanted None = (member : Member) → HasMember types a wanted member → ⊥

abbrev pub offered_by : Wanted → Option TypeTerm → Bool
offered_by wanted (Some (Interface methods)) = list_any (λ m. is_wanted wanted m.name m.package) methods
offered_by wanted _ = false

-- whether a type itself has a method of a name
abbrev pub offers : Table → Wanted → TypeId → Bool
offers types wanted id =
    list_any (λ m. is_wanted wanted m.name m.package) (definition_at types id).methods
    || offered_by wanted (term_at types (underlying_of types id))

abbrev pub NamesEach : Table → TypeId → BTreeSet Wanted → Type 0
NamesEach types a names =
    (wanted : Wanted) (member : Member) → HasMember types a wanted member → contains by_name names wanted ≡ true
