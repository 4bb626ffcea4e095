use Rattle.std.proofs.Common.{refl}
use Rattle.ssa_sane.proofs.Checked.{check_available, or_then, or_else}
use Rattle.ssa_sane.proofs.blocks.Check.is_available.Goals as goal

pub returns-then-is_given : goal.returns-then-is_given
returns-then-is_given c = λ index seen.
    or_then c.is_given.result _
    (check_available c.args.self.now.function.now c.args.self.now.preds.now c.args.self.now.places.now c.requires.check c.requires.some
    c.args.seen.now c.args.block index c.args.register seen c.is_given.result _ c.is_given.ensures refl) c.if-is_given.true

pub returns-else-is_given : goal.returns-else-is_given
returns-else-is_given c = λ index seen.
    or_else c.is_given.result c.is_available.result
    (check_available c.args.self.now.function.now c.args.self.now.preds.now c.args.self.now.places.now c.requires.check c.requires.some
    c.args.seen.now c.args.block index c.args.register seen c.is_given.result c.is_available.result c.is_given.ensures c.is_available.ensures) c.if-is_given.false
