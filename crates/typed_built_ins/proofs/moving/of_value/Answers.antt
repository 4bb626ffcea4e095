use Rattle.std.proofs.Common.{[], ◌∷◌}
use Rattle.go_base.specs.declared.rule.Rule.TheVariants.{BadBuiltInCall}
use Rattle.go_type.specs.Table.{Table}
use Rattle.typed_parts.specs.declared.meaning.Given.{Given}
use Rattle.typed_parts.specs.Joining.{asked}
use Rattle.typed_built_ins.specs.BuiltIns.{IsAction}
use Rattle.typed_parts.specs.Turning.{Asks}
use Rattle.typed_parts.proofs.Turns.{asked_test, then_nothing}
use Rattle.typed_built_ins.proofs.moving.of_value.Goals as goal

pub returns-in-None : goal.returns-in-None
returns-in-None c = λ test e.
    then_nothing c.args.ground.now c.asked.new.ground (Asks (λ (types : Table). asked c.args.x (test types) BadBuiltInCall))
    (λ (y : Given). IsAction c.args.call (y.expr ∷ [])) c.asked.result c.in-None.is
    (asked_test c.args.ground.now c.asked.new.ground c.args.x c.args.takes BadBuiltInCall test c.asked.result e c.asked.ensures.answer c.asked.ensures.broken)
