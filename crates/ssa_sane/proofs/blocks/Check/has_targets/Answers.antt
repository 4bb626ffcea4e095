use Rattle.std.proofs.Common.{length}
use Rattle.ssa_sane.proofs.Checked.{targets_then, targets_else}
use Rattle.ssa_sane.proofs.blocks.Check.has_targets.Goals as goal

pub returns-then-exists : goal.returns-then-exists
returns-then-exists c =
    targets_then c.args.op.now (length c.args.self.now.function.now.blocks) c.targets-first.result c.targets-first.ensures c.exists.result c.exists-then-exists.result
    c.exists.ensures c.exists-then-exists.ensures c.if-exists.true

pub returns-else-exists : goal.returns-else-exists
returns-else-exists c =
    targets_else c.args.op.now (length c.args.self.now.function.now.blocks) c.targets-first.result c.targets-first.ensures c.exists.result c.exists.ensures c.if-exists.false
