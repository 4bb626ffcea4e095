use Rattle.std.proofs.Common.{◌≡◌, Some, map, take}
use Rattle.go_value.specs.Values.{value_of}
use Rattle.ssa_mean.specs.Runs.{first_cells}
use Rattle.code_plan.proofs.planning.variables.Given as goal

abbrev pub invariant-loop-variable : goal.invariant-loop-variable
invariant-loop-variable l =
    first_cells l.planner.code.now (take l.variable-index l.variable-items) ≡ Some (map value_of l.all.items)
