use Rattle.std.proofs.Common.{◌∙◌, sym}
use Rattle.typed_parts.specs.Adapting.{IsAssigned, IsPassed}
use Rattle.typed_parts.proofs.Steps.{weaker}
use Rattle.typed_parts.proofs.adapting.assigned_to.Goals as goal

pub assigned_untyped-requires : goal.assigned_untyped-requires
assigned_untyped-requires c =
    sym c.untyped_kind.ensures ∙ c.in-Some.is

pub returns-in-Some : goal.returns-in-Some
returns-in-Some c =
    c.assigned_untyped.ensures

pub returns-in-None : goal.returns-in-None
returns-in-None c =
    weaker c.args.ground.now c.passed.new.ground (IsPassed c.args.ground.now.types c.args.x.at c.args.x.expr c.args.to) (IsAssigned c.args.ground.now.types c.args.x c.args.to) c.passed.result
    (λ one is. IsAssigned.typed one (sym c.untyped_kind.ensures ∙ c.in-None.is) is) c.passed.ensures
