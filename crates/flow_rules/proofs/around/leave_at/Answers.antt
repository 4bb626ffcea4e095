use Rattle.flow_rules.proofs.Levels.{leaves_it}
use Rattle.flow_rules.proofs.around.leave_at.Goals as goal

pub returns : goal.returns
returns c = λ test is. leaves_it test c.args.around.now c.args.levels _ c.requires is
