use Rattle.flow_rules.specs.Surroundings.{named}
use Rattle.flow_rules.proofs.Levels.{mapped_more}
use Rattle.flow_rules.proofs.around.name_labels.Goals as goal

pub loop-label-preserved : goal.loop-label-preserved
loop-label-preserved c =
    mapped_more (named c.args.name) c.args.labels.now c.loop-label.labels c.loop-label.label-index _ c.named.result c.loop-label.invariant c.loop-label-test.true c.named.ensures
