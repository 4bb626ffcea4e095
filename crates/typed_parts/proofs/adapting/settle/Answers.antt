use Rattle.std.proofs.Common.{sym, subst, Option}
use Rattle.go_base.specs.declared.ids.TypeId.{TypeId}
use Rattle.typed_parts.specs.Adapting.{IsSettled}
use Rattle.typed_parts.specs.Judged.{Comes}
use Rattle.typed_parts.proofs.adapting.settle.Goals as goal

pub returns-in-Some : goal.returns-in-Some
returns-in-Some c =
    subst (λ (o : Option TypeId). Comes c.args.ground.now c.assigned.new.ground c.assigned.result (IsSettled c.args.ground.now.types c.args.x o)) (sym c.in-Some.is) c.assigned.ensures

pub returns-in-None : goal.returns-in-None
returns-in-None c =
    subst (λ (o : Option TypeId). Comes c.args.ground.now c.by_default.new.ground c.by_default.result (IsSettled c.args.ground.now.types c.args.x o)) (sym c.in-None.is) c.by_default.ensures
