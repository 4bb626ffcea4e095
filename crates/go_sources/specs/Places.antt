-- Places in files.
use Rattle.std.specs.Prelude.{ℕ, List}
use Rattle.go_base.specs.Lines.{line_at, column_at}
use Rattle.go_base.specs.declared.place.Place.{Place}

-- a byte of the file at a path
abbrev pub place_in : List ℕ → List ℕ → ℕ → Place
place_in path bytes offset =
    record { path = path; offset = offset; line = line_at bytes offset; column = column_at bytes offset }
