use Rattle.std.proofs.Common.{arith}
use Rattle.go_finding.proofs.Joining.{built_in_there, built_in_behind}
use Rattle.go_finding.proofs.found.Found.add_built_in.Goals as goal

pub returns-in_ok-push-clause-joins : goal.returns-in_ok-push-clause-joins
returns-in_ok-push-clause-joins c =
    built_in_behind c.args.built_in c.args.self.now c.number_of.new.self c.push.new.self c.args.path.now c.in_ok-number.number c.args.asker c.in_ok-number.ensures (omega arith) c.in_ok-push.ensures

pub returns-else-number-len-clause-joins : goal.returns-else-number-len-clause-joins
returns-else-number-len-clause-joins c =
    built_in_there c.args.built_in c.args.self.now c.number_of.new.self c.args.path.now c.in_ok-number.number c.in_ok-number.ensures (omega arith)
