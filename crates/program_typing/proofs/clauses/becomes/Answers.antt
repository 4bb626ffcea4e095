use Rattle.std.specs.Prelude.{◌&&◌, ◌||◌}
use Rattle.program_typing.proofs.clauses.becomes.Goals as goal

pub returns : goal.returns
returns c = λ told. λ i. (c.is_interface.ensures i && c.implements.ensures told.tests told.told i) || c.loses_direction.ensures i
