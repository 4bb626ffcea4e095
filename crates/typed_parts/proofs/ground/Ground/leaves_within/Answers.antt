use Rattle.std.proofs.Common.{◌≡◌, sym, refl, None, arith}
use Rattle.typed_parts.specs.Limits.{IsTold, IsTooLarge, basis}
use Rattle.typed_parts.proofs.Told.{nested_above, not_false, not_true, too_many_leaves, within_limits}
use Rattle.typed_parts.proofs.ground.Ground.leaves_within.Goals as goal
use Rattle.typed_parts.proofs.ground.Ground.leaves_within.Goals.{then-not-size-via-then-not-size, then-not-size-via-else-not-size+then-size-gt-MOST_LEAVES}

pub returns-in-Some-clause-told : goal.returns-in-Some-clause-told
returns-in-Some-clause-told c = IsTold.recalled _ (sym c.in-Some.ensures.value)

pub returns-then-not-size-clause-told : goal.returns-then-not-size-clause-told
returns-then-not-size-clause-told c =
    let ground = c.args.self.now in
    let size = c.in_ok-size.size in
    let large : IsTooLarge ground.types c.args.of = elim c.then-not-size.branch [
      | then-not-size-via-then-not-size w ↦ nested_above ground.types c.args.of size c.in_ok-size.ensures (not_true size.nests w.if-not-size.true)
      | then-not-size-via-else-not-size+then-size-gt-MOST_LEAVES w ↦ too_many_leaves ground.types c.args.of size c.in_ok-size.ensures w.if-size-gt-MOST_LEAVES.true
    ] in
    IsTold.too_large (sym c.in_default.ensures.value) large

pub returns-clause-told : goal.returns-clause-told
returns-clause-told c =
    let ground = c.args.self.now in
    let size = c.in_ok-size.size in
    IsTold.found size.leaves _ (sym c.in_default.ensures.value)
    (within_limits ground.types c.args.of size c.in_ok-size.ensures (not_false size.nests c.if-not-size.false) (omega (arith, c.if-size-gt-MOST_LEAVES.false)))
    (record { types = refl; here = c.in_ok-insert.ensures.updates.1; others = c.in_ok-insert.ensures.updates.2 })
