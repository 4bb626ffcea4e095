use Rattle.std.proofs.Common.{take, arith, rules}
use Rattle.std.proofs.lemmas.List.{take_all}
use Rattle.std.proofs.lemmas.Result.{err_from_is_err_and}
use Rattle.go_finding.proofs.FindingSteps.{files_next, file_broken, all_found}
use Rattle.go_finding.proofs.found.Found.find_all.Goals as goal

pub returns-in_err-imports-clause-told : goal.returns-in_err-imports-clause-told
returns-in_err-imports-clause-told g c =
    let p = err_from_is_err_and c.from_residual.result c.from_residual.ensures.1 in
    rw (p.1, p.2) (file_broken (g.F.Files.tree c.args.files.now) (g.F.Files.tree c.files.files) c.args.self.now c.files.self c.find_imports.new.self c.find_imports.new.self c.args.sources.now c.files.all.items c.files.index c.index-sources-index.result c.in_err-imports.field-0.0
    c.files.invariant.1 (omega arith) c.index-sources-index.is c.files.invariant.2 c.in_err-imports.ensures.told)

pub files-preserved : goal.files-preserved
files-preserved g c = (
  search rules,
  search rules,
  files_next (g.F.Files.tree c.args.files.now) (g.F.Files.tree c.files.files) c.args.self.now c.files.self c.find_imports.new.self c.args.sources.now c.files.all.items c.push.new.self.items c.files.index c.index-sources-index.result c.in_ok-imports.imports
      c.files.invariant.1 (omega arith) c.index-sources-index.is c.in_ok-push.ensures.items c.files.invariant.2 c.in_ok-imports.ensures.told,
)

pub returns-clause-told : goal.returns-clause-told
returns-clause-told g c =
    all_found (g.F.Files.tree c.args.files.now) c.args.self.now c.files.self c.args.sources.now (take c.files.index c.args.sources.now) c.files.all (take_all c.files.index c.args.sources.now (omega arith)) c.files.invariant.2
