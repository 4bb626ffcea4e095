-- Zero values of the parts of values.
use Rattle.std.proofs.Common.{◌≡◌, ap, refl, map, List, [], ◌∷◌}
use Rattle.go_value.specs.Values as vals
use Rattle.go_value.specs.Values.{Field, parts_of}
use Rattle.go_value.specs.Zeros.{zeroed, zeroed_parts}

abbrev pub zeroed_field : Field → Field
zeroed_field f = record { value = zeroed f.value; blank = f.blank }

pub zeroed_fields : (fields : List Field) → zeroed_parts (parts_of fields) ≡ parts_of (map zeroed_field fields)
zeroed_fields [] = refl
zeroed_fields (f ∷ fields) = ap (vals.part (zeroed f.value) f.blank) (zeroed_fields fields)
