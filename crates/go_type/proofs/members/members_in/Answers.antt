use Rattle.std.proofs.Common.{map, []}
use Rattle.go_type.specs.Levels.{member_by, place_at}
use Rattle.go_type.specs.Selector.{selected_in}
use Rattle.go_type.proofs.Numbered.{turn}
use Rattle.go_type.proofs.members.members_in.Goals as goal

pub loop-index-preserved : goal.loop-index-preserved
loop-index-preserved c = λ paths.
    turn (λ i spot. selected_in c.args.types.now c.args.wanted (place_at paths i spot)) [] (map (member_by paths) c.loop-index.found.items) (map (member_by paths) c.add_selected.new.found.items) c.args.level.now c.loop-index.index _
    c.loop-index-test.true (c.loop-index.invariant paths) (c.in_ok-add_selected.ensures paths)
