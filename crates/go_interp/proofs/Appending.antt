-- What is written in parts is written.
use Rattle.std.proofs.Common.{ℕ, List, [], ◌++◌, Option}
use Rattle.std.proofs.KnownBytes.{Appends-nil, Appends-trans}
use Rattle.std.specs.Io.KnownBytes.{Appends}
use Rattle.go_base.specs.Devices.{AppendsFront}
use Rattle.go_interp.specs.Output.{HasWritten}

pub nothing_written : (known : Option (List ℕ)) → HasWritten known known
nothing_written known = record { output = []; appends = Appends-nil known }

pub whole_written : (old new : Option (List ℕ)) (text : List ℕ) → Appends old new text → HasWritten old new
whole_written old new text appends = record { output = text; appends = appends }

pub front_written : (old new : Option (List ℕ)) (text : List ℕ) → AppendsFront old new text → HasWritten old new
front_written old new text part = record { output = part.front; appends = part.appends }

pub more_written : (old mid new : Option (List ℕ)) → HasWritten old mid → HasWritten mid new → HasWritten old new
more_written old mid new first second =
    record { output = first.output ++ second.output; appends = Appends-trans old mid new first.output second.output first.appends second.appends }
