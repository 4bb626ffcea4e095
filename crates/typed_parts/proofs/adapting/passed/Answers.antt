use Rattle.std.proofs.Common.{rules}
use Rattle.go_base.specs.declared.rule.Rule.TheVariants.{NotAssignable}
use Rattle.typed_parts.specs.Adapting.{IsMade, IsPassed}
use Rattle.typed_parts.proofs.Steps.{broke, of_made}
use Rattle.typed_parts.proofs.adapting.passed.Goals as goal

pub returns-then-may_pass : goal.returns-then-may_pass
returns-then-may_pass c =
    of_made c.args.ground.now (IsMade c.args.ground.now.types c.args.expr c.args.to) (IsPassed c.args.ground.now.types c.args.at c.args.expr c.args.to) c.made.result c.sound.result
    (λ x is. IsPassed.passes x (search rules) is) c.made.ensures c.sound.ensures

pub returns : goal.returns
returns c =
    broke c.args.ground.now c.refuse.new.ground (IsPassed c.args.ground.now.types c.args.at c.args.expr c.args.to) c.args.at NotAssignable
    (IsPassed.refused (search rules)) c.refuse.ensures
