use Rattle.std.specs.Prelude.{◌&&◌}
use Rattle.program_typing.proofs.ranges.define_turn.Goals as goal

pub returns : goal.returns
returns c = λ told. λ i. c.defines_one.ensures told i && c.defines_one-2.ensures told i
