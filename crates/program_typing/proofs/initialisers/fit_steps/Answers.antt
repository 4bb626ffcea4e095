use Rattle.std.proofs.Common.{ap, sym, List}
use Rattle.std.specs.List.{list_all}
use Rattle.go_tree.specs.declared.program.InitStep.{InitStep}
use Rattle.typed_trees.specs.Programs.{fits_step}
use Rattle.program_typing.proofs.Both.{told_as}
use Rattle.program_typing.proofs.initialisers.fit_steps.Goals as goal

pub returns : goal.returns
returns c = λ told. told_as _ _ _ (c.fit_each.ensures told (c.in_ok-numbers.ensures c.args.program.now (sym c.as_slice.ensures) told.tests)) (ap (λ (ss : List InitStep). list_all (fits_step c.args.program.now told.tests) ss) c.as_slice-2.ensures)
