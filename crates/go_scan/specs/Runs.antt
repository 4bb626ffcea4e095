-- What runs of characters may hold.
use Rattle.std.specs.Prelude.{ℕ, Bool}
use Rattle.go_ast.specs.Characters.{is_name_character, is_numeral_character}
use Rattle.go_scan.specs.declared.characters.Run.{Run}
use Rattle.go_scan.specs.declared.characters.Run.TheVariants.{Name, Numeral}

abbrev pub allows : Run → ℕ → Bool
allows Name = is_name_character
allows Numeral = is_numeral_character
