use Rattle.go_type.specs.Selector.{method_named}
use Rattle.go_type.proofs.Summaries.{listed_turn}
use Rattle.go_type.proofs.sights.sight_of_methods.Goals as goal

pub loop-method-preserved : goal.loop-method-preserved
loop-method-preserved c = λ path.
    listed_turn (method_named c.args.wanted path c.args.indirect) c.args.methods.now c.loop-method.method-index c.method-item.result c.method-item.result c.loop-method.found c.and-found.result c.sight_of_method.result
    c.loop-method-test.true (c.loop-method.invariant path) c.method-item.is (c.sight_of_method.ensures path) c.and-found.ensures
