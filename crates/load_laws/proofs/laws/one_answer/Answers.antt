use Rattle.load_laws.proofs.OneAnswer.{one_answer, one_answer_in}
use Rattle.load_laws.proofs.laws.one_answer.Goals as goal

pub returns-clause-told : goal.returns-clause-told
returns-clause-told c = one_answer

pub returns-clause-project : goal.returns-clause-project
returns-clause-project c = one_answer_in
