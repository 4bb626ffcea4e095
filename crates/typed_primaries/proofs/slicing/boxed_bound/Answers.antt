use Rattle.typed_primaries.proofs.Slices.{bound_boxed}
use Rattle.typed_primaries.proofs.slicing.boxed_bound.Goals as goal

pub returns-in-Sound : goal.returns-in-Sound
returns-in-Sound c =
    bound_boxed c.args.bound c.in-Sound.at c.in-Sound.expr c.boxed.result c.sound.result c.in-Sound.is c.sound.ensures c.boxed.ensures
