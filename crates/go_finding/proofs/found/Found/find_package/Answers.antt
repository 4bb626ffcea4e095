use Rattle.std.proofs.Common.{◌≡◌, ◌∙◌, Some, None, ap, sym, rules}
use Rattle.go_sources.specs.BuiltIns.{built_in_named}
use Rattle.go_finding.specs.Entries.{dir_in}
use Rattle.go_finding.proofs.Joining.{package_in_directory}
use Rattle.go_finding.proofs.found.Found.find_package.Goals as goal

pub returns-in-Some-2-clause-told : goal.returns-in-Some-2-clause-told
returns-in-Some-2-clause-told g c =
    let none : built_in_named c.args.path.now ≡ None = search rules in
    let named : dir_in c.args.self.now.root c.args.path.now ≡ Some c.as_str.result.now = sym (rw c.in-Some-2.is at c.in_ok-dir.ensures) ∙ ap Some (sym c.as_str.ensures.value) in
    package_in_directory (g.F.Files.tree c.args.files.now) c.args.self.now c.find_directory.new.self c.args.path.now c.as_str.result.now c.find_directory.result none named c.find_directory.ensures.told
