use Rattle.std.specs.Prelude.{◌&&◌}
use Rattle.program_typing.proofs.clauses.is_condition_of.Goals as goal

pub returns : goal.returns
returns c = λ told. λ i. c.lacks.ensures i && c.in_ok-holds.ensures told i
