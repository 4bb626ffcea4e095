-- What an operation comes to.
use Rattle.std.specs.Prelude.{Option, Some, None, Result, Ok, Err}
use Rattle.go_value.specs.declared.faults.Fault.{Fault}

-- a value; a fault; or nowhere, where typed code never comes
pub data Comes (A : Type 0) : Type 0 where
  to : A → Comes A
  faults : Fault → Comes A
  nowhere : Comes A

abbrev pub and_then : {A B : Type 0} → (A → Comes B) → Comes A → Comes B
and_then next (to it) = next it
and_then next (faults fault) = faults fault
and_then next nowhere = nowhere

abbrev pub where_some : {A B : Type 0} → (A → Comes B) → Option A → Comes B
where_some next None = nowhere
where_some next (Some it) = next it

abbrev pub of_option : {A : Type 0} → Option A → Comes A
of_option None = nowhere
of_option (Some it) = to it

abbrev pub of_result : {A : Type 0} → Result A Fault → Comes A
of_result (Ok it) = to it
of_result (Err fault) = faults fault

abbrev pub then_to : {A B : Type 0} → (A → B) → Comes A → Comes B
then_to f (to it) = to (f it)
then_to f (faults fault) = faults fault
then_to f nowhere = nowhere
