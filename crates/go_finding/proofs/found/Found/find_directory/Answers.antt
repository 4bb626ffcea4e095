use Rattle.std.proofs.Common.{arith, rules}
use Rattle.std.proofs.lemmas.Result.{err_from_is_err_and}
use Rattle.go_finding.proofs.Joining.{directory_there, directory_failed, directory_empty, directory_added}
use Rattle.go_finding.proofs.found.Found.find_directory.Goals as goal

pub returns-then-number-len-clause-told : goal.returns-then-number-len-clause-told
returns-then-number-len-clause-told g c =
    directory_there (g.F.Files.tree c.args.files.now) c.args.self.now c.number_of.new.self c.args.path.now c.args.dir.now c.in_ok-number.number c.in_ok-number.ensures (omega arith)

pub returns-in_err-paths-clause-told : goal.returns-in_err-paths-clause-told
returns-in_err-paths-clause-told g c =
    let p = err_from_is_err_and c.from_residual-in_err-paths.result c.from_residual-in_err-paths.ensures.1 in
    rw (p.1, p.2) (directory_failed (g.F.Files.tree c.args.files.now) c.args.self.now c.number_of.new.self c.args.path.now c.args.dir.now c.in_err-paths.field-0.0 c.in_err-paths.ensures.answer)

pub returns-then-is_empty-clause-told : goal.returns-then-is_empty-clause-told
returns-then-is_empty-clause-told g c =
    directory_empty (g.F.Files.tree c.args.files.now) c.args.self.now c.number_of.new.self c.number_of.new.self c.args.path.now c.args.dir.now c.in_ok-number.number c.in_ok-paths.paths c.in_ok-number.ensures (omega arith) c.in_ok-paths.ensures.answer (search rules)

pub returns-clause-told : goal.returns-clause-told
returns-clause-told g c =
    directory_added (g.F.Files.tree c.args.files.now) c.args.self.now c.number_of.new.self c.push.new.self c.args.path.now c.args.dir.now c.in_ok-number.number c.in_ok-paths.paths _ c.in_ok-number.ensures (omega arith) c.in_ok-paths.ensures.answer (search rules) c.in_ok-push.ensures
