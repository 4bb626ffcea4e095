use Rattle.std.proofs.Common.{rules}
use Rattle.std.proofs.lemmas.Result.{err_from_is_err_and}
use Rattle.go_finding.proofs.Governing.{own_found, none_found, next_above, broken_found}
use Rattle.go_finding.proofs.find_module.find_module.Goals as goal

pub returns-in_err-module-clause-found : goal.returns-in_err-module-clause-found
returns-in_err-module-clause-found g c =
    let p = err_from_is_err_and c.from_residual.result c.from_residual.ensures.1 in
    rw (p.1, p.2) (broken_found (g.F.Files.tree c.args.files.now) (g.F.Files.tree c.dirs.files) c.args.dir.now c.dirs.nearest.now c.in_err-module.field-0.0 c.dirs.invariant.2 c.in_err-module.ensures.own c.dirs.invariant.3)

pub returns-in-Some-clause-found : goal.returns-in-Some-clause-found
returns-in-Some-clause-found g c =
    own_found (g.F.Files.tree c.args.files.now) (g.F.Files.tree c.dirs.files) c.args.dir.now c.dirs.nearest.now c.in_ok-module.field-0 c.in-Some.module c.dirs.invariant.2 (cc) c.in_ok-module.ensures.own c.dirs.invariant.3

pub returns-in_default-parent-clause-found : goal.returns-in_default-parent-clause-found
returns-in_default-parent-clause-found g c =
    none_found (g.F.Files.tree c.args.files.now) (g.F.Files.tree c.dirs.files) c.args.dir.now c.dirs.nearest.now c.in_ok-module.field-0 c.dirs.invariant.2 (cc) c.in_ok-module.ensures.own c.in_default-parent.ensures.above c.dirs.invariant.3

pub dirs-preserved : goal.dirs-preserved
dirs-preserved g c =
    (search rules, search rules, search rules, next_above (g.F.Files.tree c.args.files.now) (g.F.Files.tree c.dirs.files) c.args.dir.now c.dirs.nearest.now c.in-Some-parent.above.now c.in_ok-module.field-0 c.dirs.invariant.2 (cc) c.in_ok-module.ensures.own c.in-Some-parent.ensures.above c.dirs.invariant.3)
