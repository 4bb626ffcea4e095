use Rattle.std.proofs.Common.{map}
use Rattle.go_type.specs.Levels.{place_by}
use Rattle.go_type.specs.Selector.{embedded_by}
use Rattle.go_type.proofs.Numbered.{step}
use Rattle.go_type.proofs.levels.add_embedded.Goals as goal

pub loop-index-preserved : goal.loop-index-preserved
loop-index-preserved c = λ paths.
    step (embedded_by c.args.types.now (paths c.args.from) c.args.spot.indirect) (map (place_by paths) c.args.next.now.items) (map (place_by paths) c.loop-index.next.items) (map (place_by paths) c.add_embedded_field.new.next.items) c.args.fields.now c.loop-index.index c.index-fields-index.result
    c.loop-index-test.true (c.loop-index.invariant paths) c.index-fields-index.is (c.in_ok-add_embedded_field.ensures paths)
