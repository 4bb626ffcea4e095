use Rattle.std.proofs.Common.{◌≡◌, ℕ, List, take}
use Rattle.go_type.specs.Selector.{fields_named}
use Rattle.go_type.specs.Sights.{summary}
use Rattle.go_type.proofs.sights.sight_of_fields.Given as goal

abbrev pub invariant-loop-field : goal.invariant-loop-field
invariant-loop-field l = (path : List ℕ) → l.found ≡ summary (fields_named l.wanted path l.indirect (take l.field-index l.fields))
