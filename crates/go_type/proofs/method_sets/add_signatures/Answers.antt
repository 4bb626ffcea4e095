use Rattle.std.proofs.Common.{refl}
use Rattle.std.proofs.Math.ListN.{get_or}
use Rattle.go_type.specs.Selector.{is_wanted}
use Rattle.go_type.proofs.Names.{any_turn, named_turn}
use Rattle.go_type.proofs.method_sets.add_signatures.Goals as goal

pub loop-method-preserved : goal.loop-method-preserved
loop-method-preserved c = λ wanted.
    any_turn (λ m. is_wanted wanted m.name m.package) c.args.methods.now c.loop-method.method-index _ (get_or c.args.methods.now c.loop-method.method-index _) _ _ _ c.loop-method-test.true refl
    (c.loop-method.invariant wanted) (named_turn _ wanted _ _ (c.in_ok-insert.ensures.updates.0 wanted))
