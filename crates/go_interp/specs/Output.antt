-- What a run has written.
use Rattle.std.specs.Prelude.{◌≡◌, ℕ, List, ◌++◌, Option}
use Rattle.std.specs.Io.KnownBytes.{Appends}
use Rattle.interp_state.specs.declared.machine.Machine.{Machine}

-- something was appended
pub record HasWritten (old new : Option (List ℕ)) : Type 0 where
  pub output : List ℕ
  pub appends : Appends old new output

-- a front of the output that a machine keeps was appended, and the machine keeps the rest
pub record HasMoved (old new : Machine) (before after : Option (List ℕ)) : Type 0 where
  pub front : List ℕ
  pub appends : Appends before after front
  pub output : old.output.items ≡ front ++ new.output.items
  pub others : new ≡ record old { output = new.output }
