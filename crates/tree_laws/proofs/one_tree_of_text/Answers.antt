use Rattle.tree_laws.proofs.OfText.{one_of_text}
use Rattle.tree_laws.proofs.one_tree_of_text.Goals as goal

pub returns : goal.returns
returns c = one_of_text
