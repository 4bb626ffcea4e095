use Rattle.std.proofs.Common.{◌≡◌}
use Rattle.interp_state.specs.Machines.{goroutine_of}
use Rattle.plan_mean.specs.Unwinding.{removed}
use Rattle.interp_calls.proofs.unwinding.pop_with_wrappers.Given as goal

-- what is left in the end stays the same
abbrev pub invariant-loop : goal.invariant-loop
invariant-loop l =
    (removed (goroutine_of l.machine.current) ≡ removed (goroutine_of l.initial.machine.current))
    × (l.machine ≡ record (l.initial.machine) { current = l.machine.current })
