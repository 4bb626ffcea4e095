use Rattle.std.proofs.Common.{◌∙◌, ap, sym}
use Rattle.std.specs.Prelude.{option_map}
use Rattle.std.specs.List.{find}
use Rattle.code_plan.specs.declared.steps.Plan.{Plan}
use Rattle.interp_state.proofs.Asking.{method_is}
use Rattle.plan_mean.specs.Calls.{is_method}
use Rattle.interp_state.proofs.machine.Machine.method.Goals as goal

pub returns-in-Some : goal.returns-in-Some
returns-in-Some c =
    λ w within. ap (λ (plan : Plan). option_map (λ line. line.1)
    (find (λ line. is_method (record { receiver = c.args.receiver; method = c.args.method }) line.0) plan.methods.entries))
    (sym within.plan)
    ∙ sym (method_is (record { receiver = c.args.receiver; method = c.args.method }) c.args.self.now.plan.now.methods.entries)
    ∙ sym c.in-Some.ensures.value
