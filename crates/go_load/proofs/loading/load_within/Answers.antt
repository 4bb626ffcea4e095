use Rattle.go_finding.proofs.Governing.{module_found}
use Rattle.go_load.proofs.Starting.{finished}
use Rattle.go_load.proofs.loading.load_within.Goals as goal

pub returns-clause-go_mod : goal.returns-clause-go_mod
returns-clause-go_mod g c =
    module_found (g.F.Files.tree c.args.files.now) c.args.target.now c.target_dir.result.now c.in_ok-module.module c.load_project.result c.target_dir.ensures c.in_ok-module.ensures.found

pub returns-clause-exact : goal.returns-clause-exact
returns-clause-exact g c =
    finished (g.F.Files.tree c.args.files.now) (g.F.Files.tree c.find_module.new.files) c.args.target.now c.args.limit c.target_dir.result.now c.in_ok-module.module c.load_project.result c.in_ok-module.ensures.same c.target_dir.ensures c.in_ok-module.ensures.found c.load_project.ensures.exact
