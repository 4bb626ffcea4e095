use Rattle.typed_operators.specs.Comparing.{IsComparablePair, IsCompared}
use Rattle.go_type.specs.Table.{Table}
use Rattle.typed_parts.proofs.Steps.{then_comes, then_nothing}
use Rattle.typed_operators.proofs.comparing.comparison_of.Goals as goal

pub returns-in-Some : goal.returns-in-Some
returns-in-Some c =
    then_comes c.args.ground.now c.comparable_pair.new.ground c.compared.new.ground (IsComparablePair c.args.ground.now.types c.args.op c.args.x c.args.y)
    (λ (types : Table). IsCompared types c.args.op c.args.x.at) c.in_ok-pair.field-0 c.in-Some.pair c.compared.result
    c.in-Some.is c.in_ok-pair.ensures (c.compared.ensures)

pub returns-in-None : goal.returns-in-None
returns-in-None c =
    then_nothing c.args.ground.now c.comparable_pair.new.ground (IsComparablePair c.args.ground.now.types c.args.op c.args.x c.args.y)
    (λ (types : Table). IsCompared types c.args.op c.args.x.at) c.in_ok-pair.field-0 c.in-None.is c.in_ok-pair.ensures
