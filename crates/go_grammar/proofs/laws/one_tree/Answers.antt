use Rattle.go_grammar.proofs.AllAgain.{same_tree}
use Rattle.go_grammar.proofs.laws.one_tree.Goals as goal

pub returns : goal.returns
returns c = same_tree
