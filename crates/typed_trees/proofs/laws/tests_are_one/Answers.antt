use Rattle.typed_trees.proofs.Tested.{one_tests}
use Rattle.typed_trees.proofs.laws.tests_are_one.Goals as goal

-- src/laws.rt:7:1
pub returns : goal.returns
returns c = one_tests
