-- What a range gives in each turn, as the code has it.
use Rattle.program_typing.specs.declared.turns.Turns.{Turns as Given}
use Rattle.typed_trees.specs.Targets.{Turns}

abbrev pub turns_as : Given → Turns
turns_as t = record { key = t.key; value = t.value }
