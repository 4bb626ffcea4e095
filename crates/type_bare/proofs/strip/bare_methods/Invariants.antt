use Rattle.std.proofs.Common.{◌≡◌, map, take}
use Rattle.type_bare.specs.Stripped.{bare_of, bare_method}
use Rattle.type_bare.proofs.strip.bare_methods.Given as goal

abbrev pub invariant-loop-method : goal.invariant-loop-method
invariant-loop-method l = l.bare ≡ map (bare_method (bare_of l.bares)) (take l.method-index l.methods)
