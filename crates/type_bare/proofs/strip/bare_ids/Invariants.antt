use Rattle.std.proofs.Common.{◌≡◌, map, take}
use Rattle.type_bare.specs.Stripped.{bare_of}
use Rattle.type_bare.proofs.strip.bare_ids.Given as goal

abbrev pub invariant-loop-id : goal.invariant-loop-id
invariant-loop-id l = l.bare ≡ map (bare_of l.bares) (take l.id-index l.ids)
