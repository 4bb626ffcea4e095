-- What of what is selected does not depend on paths.
use Rattle.std.specs.Prelude.{◌≡◌, Bool, ◌||◌, not, List, [], ◌∷◌, Option, Some, Ok, Err}
use Rattle.go_base.specs.declared.ids.TypeId.{TypeId}
use Rattle.go_type.specs.declared.members.Wanted.{Wanted}
use Rattle.go_type.specs.declared.members.Member.{Member}
use Rattle.go_type.specs.declared.methods.SelectError.TheVariants as error
use Rattle.go_type.specs.declared.sights.Sight.{Sight}
use Rattle.go_type.specs.declared.sights.Sight.TheVariants as sight
use Rattle.go_type.specs.declared.term.Field.{Field}
use Rattle.go_type.specs.declared.term.TypeTerm.{TypeTerm}
use Rattle.go_type.specs.declared.term.TypeTerm.TheVariants.{Struct}
use Rattle.go_type.specs.Selector.{Finds}
use Rattle.go_type.specs.Table.{Table}

-- a method with a pointer receiver is one of a value that a pointer leads to
abbrev pub is_usable : Member → Bool
is_usable member = not member.pointer || member.indirect

abbrev pub summary : List Member → Sight
summary [] = sight.Nothing
summary (member ∷ []) = sight.One member.kind member.of (is_usable member)
summary (member ∷ other ∷ rest) = sight.Several

abbrev pub both_sights : Sight → Sight → Sight
both_sights sight.Nothing s = s
both_sights (sight.One kind of usable) sight.Nothing = sight.One kind of usable
both_sights sight.Several sight.Nothing = sight.Several
both_sights _ _ = sight.Several

abbrev pub Sees : Table → TypeId → Wanted → Sight → Type 0
Sees types a wanted sight.Nothing = Finds types wanted a (Err error.Absent)
Sees types a wanted (sight.One kind of usable) =
    (member : Member)
    × (Finds types wanted a (Ok member) × (member.kind ≡ kind) × (member.of ≡ of) × (is_usable member ≡ usable))
Sees types a wanted sight.Several =
    (first : _) × ((second : _) × Finds types wanted a (Err (error.Ambiguous first second)))

abbrev pub fields_in : Option TypeTerm → List Field
fields_in (Some (Struct fields)) = fields
fields_in _ = []
