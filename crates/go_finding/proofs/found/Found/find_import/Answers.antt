use Rattle.std.proofs.lemmas.Result.{err_from_is_err_and}
use Rattle.go_finding.proofs.FindingSteps.{import_failed}
use Rattle.go_finding.proofs.found.Found.find_import.Goals as goal

pub returns-in_err-package-clause-told : goal.returns-in_err-package-clause-told
returns-in_err-package-clause-told g c =
    let p = err_from_is_err_and c.from_residual-in_err-package.result c.from_residual-in_err-package.ensures.1 in
    rw (p.1, p.2) (import_failed (g.F.Files.tree c.args.files.now) c.args.self.now c.find_package.new.self c.find_package.new.self c.args.source.now c.args.literal c.as_str.result.now c.in_err-package.field-0.0 c.in_err-package.ensures.told)
