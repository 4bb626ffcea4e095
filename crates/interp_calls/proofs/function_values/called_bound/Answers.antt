use Rattle.std.proofs.Common.{◌∙◌, [], ◌∷◌, Some, ap, sym}
use Rattle.go_value.specs.Values.{bound, value_of}
use Rattle.go_value.specs.declared.values.BoundTarget.{BoundTarget}
use Rattle.interp_calls.proofs.function_values.called_bound.Goals as goal
use Rattle.plan_mean.specs.Calls.{called_value}
use Rattle.plan_mean.specs.State.{of_function}

pub returns-in_ok-function_number-in-Function : goal.returns-in_ok-function_number-in-Function
returns-in_ok-function_number-in-Function c =
    ap (λ (t : BoundTarget). called_value (bound t (value_of c.args.receiver.now))) c.in-Function.is
    ∙ (λ i. Some (of_function (sym c.in_ok-function_number-in-Function.ensures i)
    (sym c.in_ok-copy-in-Function.ensures i ∷ [])))
