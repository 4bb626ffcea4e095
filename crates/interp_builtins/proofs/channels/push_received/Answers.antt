use Rattle.std.proofs.Common.{◌∙◌, ap, drop_of_length-le, option_map, sym}
use Rattle.go_value.specs.Values.{value_of}
use Rattle.interp_builtins.proofs.Received.{behind_none}
use Rattle.interp_builtins.specs.Received.{behind}
use Rattle.plan_mean.specs.Channels.{received_parts}
use Rattle.interp_builtins.proofs.channels.push_received.Goals as goal

pub returns : goal.returns
returns c =
    let at = c.loop-index in
    let fields = at.parts.items in
    sym (behind_none fields)
    ∙ ap (λ cases. behind fields (received_parts at.index c.args.chosen (option_map value_of at.value) cases))
    (sym (drop_of_length-le c.args.cases.now c.loop-index-test.false))
    ∙ at.invariant
