use Rattle.typed_operators.specs.Binary.{IsJunction}
use Rattle.go_type.specs.Table.{Table}
use Rattle.typed_operators.specs.declared.pairs.Pair.{Pair}
use Rattle.typed_operators.specs.Binary.{IsAlike}
use Rattle.std.proofs.Common.{◌∙◌, sym}
use Rattle.typed_parts.proofs.Steps.{where_comes, where_nothing}
use Rattle.typed_operators.proofs.binary.joined.Goals as goal

pub returns-in-Some : goal.returns-in-Some
returns-in-Some c =
    where_comes c.args.ground.now c.alike.new.ground c.alike.new.ground (IsAlike c.args.ground.now.types c.args.operands.x c.args.operands.y)
    (λ (types : Table) (pair : Pair). IsJunction c.args.op c.args.operands.x.at pair) c.args.operands.taken c.in_ok-pair.pair c.in-Some.pair c.joined_truths.result
    (sym c.only.ensures ∙ c.in-Some.is) c.in_ok-pair.ensures c.joined_truths.ensures

pub returns-in-None : goal.returns-in-None
returns-in-None c =
    where_nothing c.args.ground.now c.alike.new.ground (IsAlike c.args.ground.now.types c.args.operands.x c.args.operands.y)
    (λ (types : Table) (pair : Pair). IsJunction c.args.op c.args.operands.x.at pair) c.args.operands.taken c.in_ok-pair.pair
    (sym c.only.ensures ∙ c.in-None.is) c.in_ok-pair.ensures
