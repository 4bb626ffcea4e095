use Rattle.load_laws.proofs.OneReading.{one_reading}
use Rattle.load_laws.proofs.definitions.one_reading.Goals as goal

pub returns : goal.returns
returns c = λ room texts a b h k. one_reading room texts h k
