use Rattle.std.proofs.Common.{◌∙◌, Some, ap, map, sym}
use Rattle.go_value.specs.Values.{function_of, pointer}
use Rattle.interp_calls.proofs.function_values.called_by_function.Goals as goal
use Rattle.plan_mean.specs.Calls.{called_value}
use Rattle.plan_mean.specs.State.{of_function}

pub returns-in-Nil : goal.returns-in-Nil
returns-in-Nil c = ap called_value (ap function_of c.in-Nil.is)

pub returns-in_ok-function_number-in-Closure : goal.returns-in_ok-function_number-in-Closure
returns-in_ok-function_number-in-Closure c =
    let free = c.in_ok-bound-in-Closure.ensures ∙ ap (map pointer) c.as_slice.ensures.value in
    ap called_value (ap function_of c.in-Closure.is)
    ∙ (λ i. Some (of_function (sym c.in_ok-function_number-in-Closure.ensures i) (sym free i)))
