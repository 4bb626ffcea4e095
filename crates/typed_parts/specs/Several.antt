-- Several values. Go specification, "Calls" and "Assignment statements".
use Rattle.std.specs.Prelude.{nat_lt, List, ◌∷◌, length, is_some, if◌then◌else◌, Option, Some, None}
use Rattle.std.specs.List.{list_all}
use Rattle.go_base.specs.declared.ids.TypeId.{TypeId}
use Rattle.go_base.specs.declared.place.Pos.{Pos}
use Rattle.go_type.specs.declared.term.TypeTerm.{TypeTerm}
use Rattle.go_type.specs.declared.term.TypeTerm.TheVariants.{Tuple}
use Rattle.typed_parts.specs.declared.meaning.Given.{Given}

-- the types of several values, at least two
abbrev pub several : Option TypeTerm → Option (List TypeId)
several (Some (Tuple parts)) = if nat_lt 1 (length parts) then Some parts else None
several _ = None

abbrev pub first_place : List (Option Given) → Pos → Pos
first_place (Some given ∷ values) otherwise = given.at
first_place _ otherwise = otherwise

-- the place of the first of values that are all sound, and where there are none another
abbrev pub place_of : List (Option Given) → Pos → Option Pos
place_of values otherwise = if list_all is_some values then Some (first_place values otherwise) else None
