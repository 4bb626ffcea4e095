-- What is met where a call fails.
use Rattle.go_sched.specs.declared.scheduling.SchedError.{SchedError}
use Rattle.go_sched.specs.declared.scheduling.SchedError.TheVariants as sched
use Rattle.go_value.specs.declared.faults.Fault.{Fault}
use Rattle.go_value.specs.declared.faults.ValueError.{ValueError}
use Rattle.go_value.specs.declared.faults.ValueError.TheVariants as errors
use Rattle.interp_state.specs.declared.machine.Met.{Met}
use Rattle.interp_state.specs.declared.machine.Met.TheVariants as met

abbrev pub met_of_fault : Fault → Met
met_of_fault it = met.Fault it

abbrev pub met_of : ValueError → Met
met_of (errors.Fault it) = met.Fault it
met_of errors.OutOfMemory = met.Memory

abbrev pub met_of_sched : SchedError → Met
met_of_sched (sched.Fault it) = met.Fault it
met_of_sched sched.OutOfMemory = met.Memory
