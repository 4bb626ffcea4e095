-- Parts behind others.
use Rattle.std.specs.Prelude.{List, [], ◌∷◌}
use Rattle.go_value.specs.Values.{Field, Parts, part}

abbrev pub behind : List Field → Parts → Parts
behind [] rest = rest
behind (field ∷ fields) rest = part field.value field.blank (behind fields rest)
