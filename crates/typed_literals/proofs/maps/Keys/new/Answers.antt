use Rattle.typed_literals.proofs.Constants.{no_keys}
use Rattle.typed_literals.proofs.maps.Keys.new.Goals as goal

pub returns : goal.returns
returns c = no_keys _ c.new.ensures.empty c.new-2.ensures.empty
