use Rattle.std.proofs.Common.{arith}
use Rattle.go_finding.proofs.Joining.{runtime_found}
use Rattle.go_finding.proofs.found.Found.add_runtime.Goals as goal

pub returns-clause-exact : goal.returns-clause-exact
returns-clause-exact c =
    runtime_found c.args.self.now c.add_built_in.new.self c.len-count.result c.in_ok-number.number (omega arith) c.in_ok-number.ensures.joins
