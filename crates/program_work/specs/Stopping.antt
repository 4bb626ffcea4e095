-- Why work stops, and what a call comes to then.
use Rattle.std.specs.Prelude.{◌≡◌}
use Rattle.go_base.specs.declared.devices.SinkError.{SinkError}
use Rattle.go_base.specs.declared.devices.SinkError.TheVariants as sink
use Rattle.go_interp.specs.declared.error.RunError.{RunError}
use Rattle.go_interp.specs.declared.error.RunError.TheVariants as run
use Rattle.ssa_sane.specs.declared.checking.SanityError.{SanityError}
use Rattle.ssa_sane.specs.declared.checking.SanityError.TheVariants as sanity
use Rattle.ssa_typed.specs.declared.checking.TypedError.{TypedError}
use Rattle.ssa_typed.specs.declared.checking.TypedError.TheVariants as typed
use Rattle.program_work.specs.declared.outcome.Outcome.{Outcome}
use Rattle.program_work.specs.declared.outcome.Outcome.TheVariants as outcomes
use Rattle.program_work.specs.declared.stop.Stop.{Stop}
use Rattle.program_work.specs.declared.stop.Stop.TheVariants as stops

abbrev pub outcome_at : Stop → Outcome
outcome_at stops.WriteFault = outcomes.WriteFault
outcome_at stops.OutOfMemory = outcomes.OutOfMemory
outcome_at stops.Internal = outcomes.InternalError

-- the outcome is one of work that has stopped
abbrev pub IsStop : Outcome → Type 0
IsStop outcome = (stop : Stop) × (outcome ≡ outcome_at stop)

abbrev pub stop_of_sink : SinkError → Stop
stop_of_sink sink.Failed = stops.WriteFault
stop_of_sink sink.OutOfMemory = stops.OutOfMemory

abbrev pub stop_of_run : RunError → Stop
stop_of_run run.WriteFault = stops.WriteFault
stop_of_run run.OutOfMemory = stops.OutOfMemory

abbrev pub stop_of_sanity : SanityError → Stop
stop_of_sanity (sanity.Insane block instr) = stops.Internal
stop_of_sanity sanity.OutOfMemory = stops.OutOfMemory

abbrev pub stop_of_types : TypedError → Stop
stop_of_types (typed.IllTyped function block instr) = stops.Internal
stop_of_types typed.OutOfMemory = stops.OutOfMemory
