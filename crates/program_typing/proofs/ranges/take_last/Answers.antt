use Rattle.std.proofs.Common.{ap, sym, Option, None}
use Rattle.expr_typing.specs.Telling.{at_tests}
use Rattle.go_tree.specs.declared.stmts.Target.{Target}
use Rattle.program_typing.proofs.Both.{told_as}
use Rattle.typed_trees.specs.Targets.{take_values, listed_targets}
use Rattle.program_typing.proofs.ranges.take_last.Goals as goal

pub returns-in-Some : goal.returns-in-Some
returns-in-Some c = λ told. told_as _ _ _ (c.take_one.ensures told) (ap (λ (v : Option Target). take_values (at_tests c.args.around told.tests) (listed_targets (at_tests c.args.around told.tests) None v) c.args.types.now) (sym c.in-Some.is))
