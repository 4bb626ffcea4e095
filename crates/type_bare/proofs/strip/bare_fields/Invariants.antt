use Rattle.std.proofs.Common.{◌≡◌, map, take}
use Rattle.type_bare.specs.Stripped.{bare_of, bare_field}
use Rattle.type_bare.proofs.strip.bare_fields.Given as goal

abbrev pub invariant-loop-field : goal.invariant-loop-field
invariant-loop-field l = l.bare ≡ map (bare_field (bare_of l.bares)) (take l.field-index l.fields)
