use Rattle.std.proofs.Common.{◌≡◌, ℕ, Option, refl, sym, ap, subst, arith}
use Rattle.typed_parts.specs.Limits.{fit_leaves}
use Rattle.typed_parts.proofs.ground.fit_leaves.Goals as goal

pub returns-in-Some : goal.returns-in-Some
returns-in-Some c = cc

pub returns-in-None : goal.returns-in-None
returns-in-None c = cc
