use Rattle.go_grammar.proofs.AllAgain.{tree_again}
use Rattle.go_grammar.proofs.laws.read_again.Goals as goal

pub returns : goal.returns
returns c = tree_again
