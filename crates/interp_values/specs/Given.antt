-- What operations give that give no value of the machine: an integer or a truth value.
use Rattle.std.specs.Prelude.{◌≡◌, Result, Ok, Err}
use Rattle.go_value.specs.Values.{Val}
use Rattle.interp_state.specs.declared.machine.Met.{Met}
use Rattle.interp_state.specs.declared.machine.Met.TheVariants as met
use Rattle.ssa_mean.specs.Comes.{Comes, to, faults}

-- what stands for the value that an operation comes to; want of memory is free
abbrev pub IsGivenAs : {A : Type 0} → (A → Val) → Result A Met → Comes Val → Type 0
IsGivenAs seen (Ok it) wanted = wanted ≡ to (seen it)
IsGivenAs seen (Err (met.Fault it)) wanted = wanted ≡ faults it
IsGivenAs seen (Err met.Memory) wanted = Unit {0}
