use Rattle.std.proofs.Common.{◌∙◌, ap, sym}
use Rattle.interp_calls.proofs.Readied.{method_is, no_method}
use Rattle.interp_calls.proofs.calling.method_of.Goals as goal
use Rattle.interp_state.specs.States.{looked}
use Rattle.plan_mean.specs.Calls.{method_at}

pub returns-in_ok-copy-in-Interface : goal.returns-in_ok-copy-in-Interface
returns-in_ok-copy-in-Interface c =
    λ w within chain arguments. method_is w chain c.args.method arguments
    (looked c.args.machine.now c.args.receiver.now) c.in_ok-dynamic.field-0.now c.in-Interface.dynamic
    c.deref.result.now
    c.deref-in-Interface.result.now c.in_ok-function-in-Interface.function c.in_ok-copy-in-Interface.field-0
    c.in_ok-dynamic.ensures c.in-Interface.is c.deref.ensures c.deref-in-Interface.ensures
    (ap (λ of. method_at w (record { receiver = of; method = c.args.method })) (sym c.of.ensures)
    ∙ c.in_ok-function-in-Interface.ensures w within)
    (c.in_ok-copy-in-Interface.ensures ∙ c.value.ensures)

pub returns-in-NilInterface : goal.returns-in-NilInterface
returns-in-NilInterface c =
    λ w within chain arguments. no_method w chain c.args.method arguments
    (looked c.args.machine.now c.args.receiver.now) c.in_ok-dynamic.field-0.now c.in_ok-dynamic.ensures
    c.in-NilInterface.is
