use Rattle.std.proofs.Common.{◌∙◌, ◌∷◌, ◌++◌, [], ap, false, sym, option_map, suc}
use Rattle.go_value.specs.Values.{Field, value_of}
use Rattle.go_value.specs.declared.values.Value.{Value}
use Rattle.ssa_mean.specs.Channels.{value_if}
use Rattle.ssa_mean.specs.Making.{value_or}
use Rattle.interp_builtins.proofs.Received.{case_received}
use Rattle.interp_builtins.specs.Received.{behind}
use Rattle.plan_mean.specs.Channels.{received_parts}
use Rattle.code_plan.specs.declared.steps.PlannedCase.{PlannedCase}
use Rattle.interp_builtins.proofs.channels.push_case.Goals as goal

pub returns-in_ok-push-in-Receive : goal.returns-in_ok-push-in-Receive
returns-in_ok-push-in-Receive c = λ index picked rest is.
    let fields = c.args.parts.now.items in
    let after = received_parts (suc index) picked (option_map value_of c.received_in.new.value) rest in
    let it = c.in_ok-received-in-Receive.received in
    ap (λ them. behind them after) c.in_ok-push-in-Receive.ensures.items
    ∙ ap (λ (field : Field). behind (fields ++ field ∷ []) after)
    c.plain.ensures
    ∙ case_received fields c.in-Receive.channel c.in-Receive.zero rest index picked c.args.chosen
    (option_map value_of c.args.value.now) (option_map value_of c.received_in.new.value) (value_of it) is
    (c.in_ok-received-in-Receive.ensures.value
    ∙ ap (λ (it : Value). value_or false (value_if c.args.chosen (option_map value_of c.args.value.now)) (value_of it))
    c.deref.ensures)
    (λ other. ap (option_map value_of) (c.received_in.ensures.kept other))
    ∙ ap (λ (case : PlannedCase). behind fields (received_parts index picked (option_map value_of c.args.value.now)
    (case ∷ rest)))
    (sym c.in-Receive.is)
