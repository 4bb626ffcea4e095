use Rattle.go_interp.specs.Steps.{HasSteps}
use Rattle.interp_state.specs.declared.machine.Turn.TheVariants as turn
use Rattle.go_interp.proofs.stepping.make_steps.Given as goal

abbrev pub invariant-loop : goal.invariant-loop
invariant-loop l = HasSteps turn.Goes l.fn.machine l.machine
