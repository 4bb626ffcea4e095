use Rattle.std.proofs.Common.{◌≡◌, drop, option_map}
use Rattle.go_value.specs.Values.{value_of}
use Rattle.plan_mean.specs.Channels.{received_parts}
use Rattle.interp_builtins.specs.Received.{behind}
use Rattle.interp_builtins.proofs.channels.push_received.Given as goal

abbrev pub invariant-loop-index : goal.invariant-loop-index
invariant-loop-index l =
    behind l.parts.items
    (received_parts l.index l.chosen (option_map value_of l.value) (drop l.index l.cases))
    ≡ behind l.initial.parts.items (received_parts 0 l.chosen
    (option_map value_of l.initial.value) l.cases)
