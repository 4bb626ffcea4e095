use Rattle.go_type.specs.Selector.{is_wanted}
use Rattle.go_type.proofs.Names.{any_turn, named_turn}
use Rattle.go_type.proofs.method_sets.add_own.Goals as goal

pub loop-method-preserved : goal.loop-method-preserved
loop-method-preserved c = λ wanted.
    any_turn (λ m. is_wanted wanted m.name m.package) c.args.methods.now c.loop-method.method-index c.method-item.result c.method-item.result _ _ _ c.loop-method-test.true c.method-item.is
    (c.loop-method.invariant wanted) (named_turn (record { name = c.method-item.result.name; «package» = c.method-item.result.package }) wanted _ _ (c.in_ok-insert.ensures.updates.0 wanted))
