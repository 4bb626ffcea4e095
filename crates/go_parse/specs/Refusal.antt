-- What is answered where a part is not read.
use Rattle.std.specs.Prelude.{◌≡◌, ℕ}
use Rattle.go_fragments.specs.declared.stop.Stop.{Stop}
use Rattle.go_fragments.specs.declared.stop.Stop.TheVariants as stops
use Rattle.parse_answer.specs.declared.error.ParseError.{ParseError}
use Rattle.parse_answer.specs.declared.error.ParseError.TheVariants as errors

-- what is answered where a part that begins at this index is not read
abbrev pub IsRefusalAt : ℕ → Stop → ParseError → Type 0
IsRefusalAt at stops.Memory error = error ≡ errors.OutOfMemory
IsRefusalAt at stops.Unexpected error = error ≡ errors.Unexpected at
