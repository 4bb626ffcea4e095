use Rattle.std.proofs.Common.{◌∙◌}
use Rattle.go_load.proofs.Starting.{project_answered}
use Rattle.go_load.proofs.loading.load_project.Goals as goal

pub returns-clause-exact : goal.returns-clause-exact
returns-clause-exact g c =
    project_answered (g.F.Files.tree c.args.files.now) (g.F.Files.tree c.find_target.new.files) c.args.target.now c.args.limit c.args.root c.in_ok-found.found c.new-2.result c.finish.result c.in_ok-found.ensures.same c.in_ok-found.ensures.exact
    (record {
      found_is = c.new-2.ensures.found;
      target_is = c.new-2.ensures.target ∙ c.in_ok-path.ensures ∙ c.target_path.ensures;
      files = c.new-2.ensures.files;
      headers = c.new-2.ensures.packages;
      imports = c.new-2.ensures.imports;
      links = c.new-2.ensures.links;
      programs = c.new-2.ensures.programs;
      left = c.new-2.ensures.left;
    })
    c.finish.ensures.exact
