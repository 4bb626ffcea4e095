use Rattle.go_grammar.proofs.AllAgain.{stops_unexpected}
use Rattle.go_grammar.proofs.laws.first_bad_part.Goals as goal

pub returns : goal.returns
returns c = stops_unexpected
