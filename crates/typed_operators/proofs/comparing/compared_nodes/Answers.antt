use Rattle.typed_operators.specs.declared.pairs.Pair.{Pair}
use Rattle.typed_parts.specs.Judged.{IsFine}
use Rattle.typed_operators.specs.Comparing.{AreCompared, AreDefaulted}
use Rattle.typed_parts.proofs.Steps.{fine_made}
use Rattle.go_type.specs.Table.{Table}
use Rattle.typed_parts.proofs.Steps.{then_comes, then_nothing}
use Rattle.typed_operators.proofs.comparing.compared_nodes.Goals as goal

pub returns-in-Some : goal.returns-in-Some
returns-in-Some c =
    then_comes c.args.ground.now c.defaulted_pair.new.ground c.defaulted_pair.new.ground (AreDefaulted c.args.ground.now.types c.args.pair)
    (λ (types : Table). λ (p : Pair). IsFine (AreCompared types c.args.op c.args.at p)) c.in_ok-pair.field-0 c.in-Some.pair c.sound.result
    c.in-Some.is c.in_ok-pair.ensures (fine_made c.defaulted_pair.new.ground (AreCompared c.defaulted_pair.new.ground.types c.args.op c.args.at c.in-Some.pair) c.compared_values.result c.sound.result c.compared_values.ensures c.sound.ensures)

pub returns-in-None : goal.returns-in-None
returns-in-None c =
    then_nothing c.args.ground.now c.defaulted_pair.new.ground (AreDefaulted c.args.ground.now.types c.args.pair)
    (λ (types : Table). λ (p : Pair). IsFine (AreCompared types c.args.op c.args.at p)) c.in_ok-pair.field-0 c.in-None.is c.in_ok-pair.ensures
