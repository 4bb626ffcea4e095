use Rattle.std.proofs.Common.{refl}
use Rattle.std.proofs.Math.ListN.{get_or}
use Rattle.go_type.specs.Selector.{signature_named}
use Rattle.go_type.proofs.Summaries.{listed_turn}
use Rattle.go_type.proofs.sights.sight_of_signatures.Goals as goal

pub loop-method-preserved : goal.loop-method-preserved
loop-method-preserved c = λ path.
    listed_turn (signature_named c.args.wanted path c.args.indirect) c.args.methods.now c.loop-method.method-index _ (get_or c.args.methods.now c.loop-method.method-index _) c.loop-method.found c.and-found.result c.sight_of_signature.result
    c.loop-method-test.true (c.loop-method.invariant path) refl (c.sight_of_signature.ensures path) c.and-found.ensures
