use Rattle.load_laws.proofs.OneFront.{first_packages}
use Rattle.load_laws.proofs.laws.one_front.Goals as goal

pub returns : goal.returns
returns c = first_packages
