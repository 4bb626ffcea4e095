use Rattle.std.proofs.Common.{map}
use Rattle.go_type.specs.Levels.{member_by}
use Rattle.go_type.specs.Selector.{signature_named}
use Rattle.go_type.proofs.Spots.{each_turn}
use Rattle.go_type.proofs.members.add_signatures.Goals as goal

pub loop-method-preserved : goal.loop-method-preserved
loop-method-preserved c = λ paths.
    each_turn (signature_named c.args.wanted (paths c.args.from) c.args.spot.indirect) (map (member_by paths) c.args.found.now.items) (map (member_by paths) c.loop-method.found.items) (map (member_by paths) c.add_signature.new.found.items) c.args.methods.now c.loop-method.method-index _
    c.loop-method-test.true (c.loop-method.invariant paths) (c.in_ok-add_signature.ensures paths)
