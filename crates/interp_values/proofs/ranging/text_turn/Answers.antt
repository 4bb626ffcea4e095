use Rattle.go_value.specs.Values.{range_of}
use Rattle.interp_values.proofs.Turned.{text_turned, on_ok}
use Rattle.interp_values.proofs.ranging.text_turn.Goals as goal

pub returns : goal.returns
returns c =
    on_ok c.character_turn.result _ _ c.character_turn.ensures (λ it is.
    text_turned c.args.range (range_of c.in_ok-state.state) (range_of c.next_character.new.state) c.in_ok-found.found it
    c.args.machine.now c.taken_state.new.machine c.put_state.new.machine c.in_ok-state.ensures.held
    c.in_ok-state.ensures.slots c.in_ok-state.ensures.others c.in_ok-found.ensures c.in_ok-put_state.ensures is)
