use Rattle.typed_literals.proofs.Entries.{map_by, map_unsound}
use Rattle.typed_literals.proofs.maps.map_literal.Goals as goal

pub returns-in-Some : goal.returns-in-Some
returns-in-Some c =
    map_by c.args.ground.now c.of_entries.new.ground c.args.literal c.map_of.result c.in-Some.map c.args.elements.items c.of_entries.result
    c.map_of.ensures c.in-Some.is c.of_entries.ensures

pub returns-in-None : goal.returns-in-None
returns-in-None c =
    map_unsound c.args.ground.now c.ask_values.new.ground c.args.literal c.map_of.result c.args.elements.items
    c.map_of.ensures c.in-None.is c.ask_values.ensures
