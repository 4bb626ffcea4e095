use Rattle.std.proofs.Common.{◌∙◌, sym, None}
use Rattle.go_base.specs.declared.rule.Rule.TheVariants.{UseOfUntypedNil}
use Rattle.typed_parts.specs.Adapting.{IsByDefault}
use Rattle.typed_parts.specs.Retyping.{IsDefaulted}
use Rattle.typed_parts.proofs.Adapts.{default_comes, no_value_by_default}
use Rattle.typed_parts.proofs.Steps.{broke, came, weaker}
use Rattle.typed_parts.proofs.adapting.by_default.Goals as goal

pub returns-in_default : goal.returns-in_default
returns-in_default c =
    no_value_by_default c.args.ground.now c.args.x c.in_default.is

pub returns-then-is_nil : goal.returns-then-is_nil
returns-then-is_nil c =
    default_comes c.args.ground.now c.report.new.self c.args.x c.in-Some.x (came None) c.in-Some.is
    (broke c.args.ground.now c.report.new.self (IsByDefault c.args.ground.now.types c.in-Some.x) c.in-Some.x.at UseOfUntypedNil
    (IsByDefault.nil (sym c.is_nil.ensures ∙ c.if-is_nil.true)) c.report.ensures)

pub returns : goal.returns
returns c =
    default_comes c.args.ground.now c.defaulted.new.ground c.args.x c.in-Some.x c.defaulted.result c.in-Some.is
    (weaker c.args.ground.now c.defaulted.new.ground (IsDefaulted c.args.ground.now.types c.in-Some.x.expr) (IsByDefault c.args.ground.now.types c.in-Some.x) c.defaulted.result
    (λ one is. IsByDefault.given one (sym c.is_nil.ensures ∙ c.if-is_nil.false) is) c.defaulted.ensures)
