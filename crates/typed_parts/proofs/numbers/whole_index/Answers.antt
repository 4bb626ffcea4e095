use Rattle.std.proofs.Common.{◌∙◌, sym, refl, subst, Some, None}
use Rattle.go_base.specs.declared.ids.TypeId.{TypeId}
use Rattle.typed_parts.specs.Judged.{Comes, breaks}
use Rattle.typed_parts.specs.Retyping.{IsAsUntyped}
use Rattle.typed_parts.proofs.Steps.{came}
use Rattle.typed_parts.proofs.Wholes.{no_whole, whole_comes}
use Rattle.typed_parts.proofs.numbers.whole_index.Goals as goal

pub returns-in_default : goal.returns-in_default
returns-in_default c =
    no_whole c.args.ground.now c.args.i c.args.rule c.in_default.is

pub returns-in-Some-whole_breach : goal.returns-in-Some-whole_breach
returns-in-Some-whole_breach c =
    whole_comes c.args.ground.now c.report.new.self c.args.i c.in-Some.i c.args.rule (Some c.in-Some-whole_breach.rule) (came None) c.in-Some.is
    (sym c.in-Some-whole_breach.is ∙ c.whole_breach.ensures)
    (record { judged = breaks c.in-Some.i.at c.in-Some-whole_breach.rule; is = refl; answers = refl; reports = c.report.ensures })

pub returns-in-None : goal.returns-in-None
returns-in-None c =
    whole_comes c.args.ground.now c.as_untyped.new.ground c.args.i c.in-Some.i c.args.rule None c.as_untyped.result c.in-Some.is
    (sym c.in-None.is ∙ c.whole_breach.ensures)
    (subst (λ (to : TypeId). Comes c.args.ground.now c.as_untyped.new.ground c.as_untyped.result (IsAsUntyped c.args.ground.now.types to c.in-Some.i.expr))
    c.basic.ensures c.as_untyped.ensures)
