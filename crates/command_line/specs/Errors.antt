-- The word that an error names.
use Rattle.std.specs.Prelude.{ℕ, List}
use Rattle.command_line.specs.declared.command.CommandError.{CommandError}
use Rattle.command_line.specs.declared.command.CommandError.TheVariants.{BadWord, OutOfMemory}

-- what holds of the word that the error names; want of memory names none
abbrev pub NamesWord : CommandError → (List ℕ → Type 0) → Type 0
NamesWord (BadWord word) P = P word.now
NamesWord OutOfMemory P = Unit {0}
