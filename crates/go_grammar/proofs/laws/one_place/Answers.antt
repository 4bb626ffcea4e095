use Rattle.go_grammar.proofs.OnePlace.{never_both, one_index}
use Rattle.go_grammar.proofs.laws.one_place.Goals as goal

pub returns : goal.returns
returns c = record { never_both = never_both; one_index = one_index }
