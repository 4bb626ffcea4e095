use Rattle.go_type.specs.Table.{Table}
use Rattle.typed_parts.specs.declared.meaning.Given.{Given}
use Rattle.typed_parts.specs.Adapting.{IsAssigned}
use Rattle.typed_parts.specs.Judged.{Exactly}
use Rattle.typed_parts.specs.Meanings.{one_value}
use Rattle.typed_parts.proofs.Steps.{exactly, rest_comes}
use Rattle.typed_literals.proofs.maps.part_value.Goals as goal

pub returns : goal.returns
returns c =
    let old = c.args.ground.now in
    let mid = c.one_value-part.new.ground in
    let rule = one_value old.types c.args.part in
    let part = c.one_value-part.result in
    rest_comes old mid c.assigned.new.ground (Exactly rule) (λ (types : Table) (x : Given). IsAssigned types x c.args.to) part c.assigned.result
    (exactly old mid rule part c.one_value-part.ensures.answer c.one_value-part.ensures.broken) c.assigned.ensures
