-- The word that an error names.
use Rattle.std.proofs.Common.{ℕ, List}
use Rattle.command_line.specs.declared.command.CommandError.{CommandError}
use Rattle.command_line.specs.declared.command.CommandError.TheVariants.{BadWord, OutOfMemory}
use Rattle.command_line.specs.Errors.{NamesWord}

pub NamesWord-weaker : (error : CommandError) (P Q : List ℕ → Type 0) → ((word : List ℕ) → P word → Q word) → NamesWord error P → NamesWord error Q
NamesWord-weaker (BadWord word) P Q weaker holds = weaker word.now holds
NamesWord-weaker OutOfMemory P Q weaker holds = tt
