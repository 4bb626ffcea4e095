-- When two types are identical but for the tags of fields. Go specification, "Type identity", and "Conversions":
-- "ignoring struct tags".
use Rattle.std.specs.Prelude.{ℕ, zero, suc, Bool, ◌||◌, [], map, Option, option_map, IsTrue}
use Rattle.go_base.specs.declared.ids.TypeId.{TypeId}
use Rattle.go_type.specs.declared.term.Field.{Field}
use Rattle.go_type.specs.declared.term.TypeTerm.{TypeTerm}
use Rattle.go_type.specs.declared.term.TypeTerm.TheVariants.{Struct}
use Rattle.go_type.specs.Identity.{alike}
use Rattle.go_type.specs.Same.{same_id}
use Rattle.go_type.specs.Table.{Table, term_at}

abbrev pub untagged_field : Field → Field
untagged_field field = record field { tag = [] }

-- a term whose own fields have no tags
abbrev pub untagged : TypeTerm → TypeTerm
untagged (Struct fields) = Struct (map untagged_field fields)
untagged term = term

abbrev pub untagged_at : Table → TypeId → Option TypeTerm
untagged_at types id = option_map untagged (term_at types id)

-- whether two types are identical but for tags by at most n steps into their parts
abbrev pub same_to : ℕ → Table → TypeId → TypeId → Bool
same_to zero types a b = same_id a b
same_to (suc n) types a b = same_id a b || alike (same_to n types) (untagged_at types a) (untagged_at types b)

abbrev pub SameButTags : Table → TypeId → TypeId → Type 0
SameButTags types a b = (n : ℕ) × IsTrue (same_to n types a b)
