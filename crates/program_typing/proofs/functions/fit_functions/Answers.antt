use Rattle.typed_trees.specs.Programs.{fit_bodies}
use Rattle.program_typing.proofs.Both.{told_as}
use Rattle.program_typing.proofs.functions.fit_functions.Goals as goal

pub returns : goal.returns
returns c = λ told. told_as _ _ _ (c.fit_bodies.ensures told) (λ i. fit_bodies c.args.program.now told.tests 0 (c.as_slice.ensures i) (c.as_slice-2.ensures i))
