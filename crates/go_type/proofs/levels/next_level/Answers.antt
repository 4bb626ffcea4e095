use Rattle.std.proofs.Common.{map, []}
use Rattle.go_type.specs.Levels.{place_by, place_at}
use Rattle.go_type.specs.Selector.{embedded_in}
use Rattle.go_type.proofs.Numbered.{turn}
use Rattle.go_type.proofs.levels.next_level.Goals as goal

pub loop-index-preserved : goal.loop-index-preserved
loop-index-preserved c = λ paths.
    turn (λ i spot. embedded_in c.args.types.now (place_at paths i spot)) [] (map (place_by paths) c.loop-index.next.items) (map (place_by paths) c.add_embedded_in.new.next.items) c.args.level.now c.loop-index.index _
    c.loop-index-test.true (c.loop-index.invariant paths) (c.in_ok-add_embedded_in.ensures paths)
