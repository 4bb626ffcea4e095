use Rattle.go_maps.proofs.Equals.{finds_law}
use Rattle.go_maps.proofs.laws.entries_have_equal_keys.Goals as goal

pub returns : goal.returns
returns c = λ test key entries alike. finds_law test key entries alike
