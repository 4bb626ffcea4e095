use Rattle.std.proofs.Common.{◌∙◌}
use Rattle.go_devices.proofs.Listed.{listed}
use Rattle.go_devices.proofs.call_plan.is_listed.Goals as goal

pub returns : goal.returns
returns c = c.is_ok.ensures.value ∙ listed c.args.numbers.now c.args.number _ c.requires c.binary_search.ensures.position
