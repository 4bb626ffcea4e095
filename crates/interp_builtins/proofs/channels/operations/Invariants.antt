use Rattle.std.proofs.Common.{◌≡◌, ◌++◌, drop, map, option_map}
use Rattle.go_sched.specs.Channels.{case_of}
use Rattle.interp_state.specs.Machines.{machine_of}
use Rattle.plan_mean.specs.Channels.{cases_of}
use Rattle.interp_builtins.proofs.channels.operations.Given as goal

abbrev pub invariant-loop-case : goal.invariant-loop-case
invariant-loop-case l =
    cases_of (machine_of l.machine) l.cases
    ≡ option_map (λ more. map case_of l.operations ++ more) (cases_of (machine_of l.machine)
    (drop l.case-index l.cases))
