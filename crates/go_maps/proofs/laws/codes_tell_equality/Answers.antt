use Rattle.go_maps.proofs.Codes.{keys_law}
use Rattle.go_maps.proofs.laws.codes_tell_equality.Goals as goal

pub returns : goal.returns
returns c = λ test a b alike fine. keys_law test a b alike fine
