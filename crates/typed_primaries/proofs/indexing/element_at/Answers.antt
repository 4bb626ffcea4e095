use Rattle.typed_primaries.proofs.Indexes.{by_key, by_number}
use Rattle.typed_primaries.proofs.indexing.element_at.Goals as goal

pub returns-in-Some : goal.returns-in-Some
returns-in-Some c =
    by_key c.args.ground.now c.map_element.new.ground c.args.x c.args.i c.args.shape c.map_types.result c.in-Some.key c.in-Some.elem
    c.map_element.result c.map_types.ensures c.in-Some.is c.map_element.ensures

pub returns-in-None : goal.returns-in-None
returns-in-None c =
    by_number c.args.ground.now c.numbered_element.new.ground c.args.x c.args.i c.args.shape c.map_types.result
    c.numbered_element.result c.map_types.ensures c.in-None.is c.numbered_element.ensures
