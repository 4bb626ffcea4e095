use Rattle.std.proofs.Common.{map, ◌∙◌, ap, ◌++◌}
use Rattle.go_type.specs.Levels.{member_by}
use Rattle.go_type.specs.Selector.{method_named}
use Rattle.go_type.proofs.Spots.{each_turn}
use Rattle.go_type.proofs.members.add_methods.Goals as goal

pub loop-method-preserved : goal.loop-method-preserved
loop-method-preserved c = λ paths.
    each_turn (method_named c.args.wanted (paths c.args.from) c.args.spot.indirect) (map (member_by paths) c.args.found.now.items) (map (member_by paths) c.loop-method.found.items) (map (member_by paths) c.add_method.new.found.items) c.args.methods.now c.loop-method.method-index c.method-item.result
    c.loop-method-test.true (c.loop-method.invariant paths)
    (c.in_ok-add_method.ensures paths ∙ ap (λ m. map (member_by paths) c.loop-method.found.items ++ method_named c.args.wanted (paths c.args.from) c.args.spot.indirect m) c.method-item.is)
