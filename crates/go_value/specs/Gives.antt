-- What a call gives that may also want for memory.
use Rattle.std.specs.Prelude.{◌≡◌, Option, Some, None, Result, Ok, Err}
use Rattle.go_value.specs.declared.faults.Fault.{Fault}
use Rattle.go_value.specs.declared.faults.ValueError.{ValueError}
use Rattle.go_value.specs.declared.faults.ValueError.TheVariants as errors

-- the value that is wanted, or the fault that is wanted; nothing is said where memory does not suffice
abbrev pub Gives : {A B : Type 0} → (A → B) → Result A ValueError → Result B Fault → Type 0
Gives seen (Ok value) wanted = wanted ≡ Ok (seen value)
Gives seen (Err (errors.Fault fault)) wanted = wanted ≡ Err fault
Gives seen (Err errors.OutOfMemory) wanted = Unit {0}

-- the only fault is this one, and it comes exactly where the fact holds
abbrev pub FaultsIff : {A : Type 0} → Result A ValueError → Fault → Type 0 → Type 0
FaultsIff (Ok value) fault P = ¬ P
FaultsIff (Err (errors.Fault it)) fault P = P × (it ≡ fault)
FaultsIff (Err errors.OutOfMemory) fault P = ¬ P

-- the fault is the one that is wanted, and where none is wanted there is none
abbrev pub FaultIs : {A : Type 0} → Result A ValueError → Option Fault → Type 0
FaultIs (Ok value) wanted = wanted ≡ None
FaultIs (Err (errors.Fault fault)) wanted = wanted ≡ Some fault
FaultIs (Err errors.OutOfMemory) wanted = wanted ≡ None
