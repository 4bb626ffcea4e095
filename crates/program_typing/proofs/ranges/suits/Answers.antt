use Rattle.std.proofs.Common.{◌∙◌, ap, sym}
use Rattle.expr_typing.specs.Telling.{at_tests}
use Rattle.go_tree.specs.declared.stmts.RangeOver.{RangeOver}
use Rattle.typed_trees.specs.Targets.{suits}
use Rattle.program_typing.proofs.ranges.suits.Goals as goal

pub returns-in-Constant : goal.returns-in-Constant
returns-in-Constant c = λ told. c.lacks_value.ensures told ∙ ap (λ (o : RangeOver). suits (at_tests c.args.around told.tests) o c.args.targets.now) (sym c.in-Constant.is)
