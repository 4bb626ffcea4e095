-- Which types may be converted to which, but for constants and interfaces. Go specification, "Conversions" and
-- "Assignability".
use Rattle.std.specs.Prelude.{Bool, false, not, ◌&&◌, ◌||◌, Option, Some}
use Rattle.go_base.specs.declared.ids.TypeId.{TypeId}
use Rattle.go_type.specs.Same.{same_id}
use Rattle.go_type.specs.Table.{underlying_of}
use Rattle.go_type.specs.declared.term.Dir.TheVariants as dir
use Rattle.go_type.specs.declared.term.TypeTerm.{TypeTerm}
use Rattle.go_type.specs.declared.term.TypeTerm.TheVariants.{Chan, Pointer}
use Rattle.type_shapes.specs.Shapes.{is_interface, is_characters}
use Rattle.typed_trees.specs.Around.{Around, under, has_integers, has_texts}

-- a channel of both directions, and one of the same elements
abbrev pub loses_direction : Option TypeTerm → Option TypeTerm → Bool
loses_direction (Some (Chan dir.Both elem)) (Some (Chan way other)) = same_id elem other
loses_direction _ _ = false

module _ (around : Around) where
  abbrev pub below : TypeId → TypeId
  below of = underlying_of around.program.types of

  -- identical but for the tags of fields
  abbrev pub alike_below : TypeId → TypeId → Bool
  alike_below from to = around.tests.alike (below from) (below to)

  abbrev pub points_alike : Option TypeTerm → Option TypeTerm → Bool
  points_alike (Some (Pointer from)) (Some (Pointer to)) = alike_below from to
  points_alike _ _ = false

  -- a value stays as it is
  abbrev pub keeps_value : TypeId → TypeId → Bool
  keeps_value from to =
      alike_below from to
      || (loses_direction (under around from) (under around to) || points_alike (under around from) (under around to))

  abbrev pub has_characters : TypeId → Bool
  has_characters of = is_characters around.program.types (under around of)

  -- an integer becomes one of another kind or a string; a string a slice of bytes or runes, or such a slice a string
  abbrev pub makes_value : TypeId → TypeId → Bool
  makes_value from to =
      (has_integers around from && (has_integers around to || has_texts around to))
      || ((has_texts around from && has_characters to) || (has_characters from && has_texts around to))

  abbrev pub fits_conversion : TypeId → TypeId → Bool
  fits_conversion from to =
      not (is_interface (under around to)) && (keeps_value from to || makes_value from to)
