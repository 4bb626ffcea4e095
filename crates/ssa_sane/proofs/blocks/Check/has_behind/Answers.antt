use Rattle.ssa_sane.proofs.Checked.{edge_register}
use Rattle.ssa_sane.proofs.blocks.Check.has_behind.Goals as goal

pub returns-in-Register : goal.returns-in-Register
returns-in-Register c =
    edge_register c.args.self.now.function.now c.args.self.now.preds.now c.args.self.now.places.now c.requires.check c.requires.some
    c.args.edge.now c.in-Register.register c.in-Register.is c.is_available_behind.result c.is_available_behind.ensures
