use Rattle.std.proofs.Common.{subst, Bool}
use Rattle.typed_parts.specs.Judged.{Outcome}
use Rattle.typed_parts.proofs.Steps.{came}
use Rattle.typed_operators.specs.Pairs.{IsPaired}
use Rattle.typed_operators.specs.Comparing.{IsAsked, with_nil}
use Rattle.go_type.specs.Table.{Table}
use Rattle.typed_parts.proofs.Steps.{then_comes, then_nothing}
use Rattle.typed_operators.proofs.comparing.pair_matched.Goals as goal

pub returns-in-Some : goal.returns-in-Some
returns-in-Some c =
    then_comes c.args.ground.now c.paired.new.ground c.asked_pair.new.ground (IsPaired c.args.ground.now.types c.args.how c.args.x.expr c.args.y.expr)
    (λ (types : Table). IsAsked types c.args.op c.args.x.at (with_nil c.args.ground.now.types c.args.x.expr.of c.args.y.expr.of)) c.in_ok-pair.field-0 c.in-Some.pair (came c.asked_pair.result)
    c.in-Some.is c.in_ok-pair.ensures (subst (λ (b : Bool). Outcome c.paired.new.ground c.asked_pair.new.ground c.asked_pair.result (IsAsked c.paired.new.ground.types c.args.op c.args.x.at b c.in-Some.pair)) c.with_nil-with_nil.ensures c.asked_pair.ensures)

pub returns-in-None : goal.returns-in-None
returns-in-None c =
    then_nothing c.args.ground.now c.paired.new.ground (IsPaired c.args.ground.now.types c.args.how c.args.x.expr c.args.y.expr)
    (λ (types : Table). IsAsked types c.args.op c.args.x.at (with_nil c.args.ground.now.types c.args.x.expr.of c.args.y.expr.of)) c.in_ok-pair.field-0 c.in-None.is c.in_ok-pair.ensures
