-- What stands around a statement, as the code has it.
use Rattle.program_typing.specs.declared.within.Within.{Within as Given}
use Rattle.typed_trees.specs.Statements.{Within}

abbrev pub within_of : Given → Within
within_of w =
    record { results = w.results.now; breaks = w.breaks; continues = w.continues; falls = w.falls }
