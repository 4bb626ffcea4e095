use Rattle.typed_literals.proofs.Structures.{listed_by}
use Rattle.typed_literals.proofs.structs.listed_fields.Goals as goal

pub returns : goal.returns
returns c =
    listed_by c.args.ground.now c.ask_open-open.new.ground c.numbered_fields.new.ground c.args.package c.args.of c.args.elements.items c.ask_open-open.result
    c.in_ok-fields.fields c.only.result (cc) (cc) c.in_ok-fields.ensures c.only.ensures
