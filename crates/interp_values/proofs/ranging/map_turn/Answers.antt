use Rattle.go_value.specs.Values.{range_of, value_of}
use Rattle.interp_values.proofs.Turned.{map_turned, on_ok}
use Rattle.interp_values.proofs.ranging.map_turn.Goals as goal

pub returns : goal.returns
returns c =
    on_ok c.entry_turn.result _ _ c.entry_turn.ensures (λ it is.
    map_turned c.args.range (range_of c.in_ok-state.state) (range_of c.next_entry.new.state) (value_of c.args.key.now)
    (value_of c.args.value.now) c.in_ok-map.map c.in_ok-map.entry it c.args.machine.now c.taken_state.new.machine
    c.next_entry.new.machine c.put_state.new.machine c.in_ok-state.ensures.held c.in_ok-state.ensures.slots
    c.in_ok-state.ensures.others c.in_ok-map.ensures.drawn c.in_ok-map.ensures.others c.in_ok-put_state.ensures is)
