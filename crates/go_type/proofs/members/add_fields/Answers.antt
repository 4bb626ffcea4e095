use Rattle.std.proofs.Common.{map}
use Rattle.go_type.specs.Levels.{member_by}
use Rattle.go_type.specs.Selector.{field_named}
use Rattle.go_type.proofs.Numbered.{step}
use Rattle.go_type.proofs.members.add_fields.Goals as goal

pub loop-index-preserved : goal.loop-index-preserved
loop-index-preserved c = λ paths.
    step (field_named c.args.wanted (paths c.args.from) c.args.spot.indirect) (map (member_by paths) c.args.found.now.items) (map (member_by paths) c.loop-index.found.items) (map (member_by paths) c.add_field.new.found.items) c.args.fields.now c.loop-index.index c.index-fields-index.result
    c.loop-index-test.true (c.loop-index.invariant paths) c.index-fields-index.is (c.in_ok-add_field.ensures paths)
