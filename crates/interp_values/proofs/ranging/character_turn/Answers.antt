use Rattle.std.proofs.Common.{◌∙◌, ap, sym, pos, true, false}
use Rattle.go_value.specs.Values.{Val, number, value_of}
use Rattle.interp_values.proofs.Turned.{told}
use Rattle.interp_values.specs.Made.{character_turn}
use Rattle.ssa_mean.specs.Ranges.{turn_of}
use Rattle.interp_values.proofs.ranging.character_turn.Goals as goal

pub returns-in-Some : goal.returns-in-Some
returns-in-Some c =
    told c.turn.result _ _
    (ap (λ (key : Val). turn_of true key (value_of c.natural-character.result)) c.natural-index.ensures
    ∙ ap (turn_of true (number (pos c.in-Some.at)))
    (c.natural-character.ensures ∙ ap (λ n. number (pos n)) c.from.ensures)
    ∙ ap character_turn (sym c.in-Some.is))
    c.turn.ensures

pub returns-in-None : goal.returns-in-None
returns-in-None c =
    told c.turn-in-None.result _ _
    (ap (λ (key : Val). turn_of false key (value_of c.natural-no_character.result)) c.natural-no_index.ensures
    ∙ ap (turn_of false (number (pos 0))) c.natural-no_character.ensures
    ∙ ap character_turn (sym c.in-None.is))
    c.turn-in-None.ensures
