use Rattle.std.proofs.Common.{◌∙◌, refl, sym}
use Rattle.std.proofs.lemmas.Option.{slice_get_read}
use Rattle.go_finding.proofs.FindingSteps.{package_of_paths, package_built_in}
use Rattle.go_finding.proofs.found.Found.find_imports_of.Goals as goal

pub returns-then-is_built_in-clause-told : goal.returns-then-is_built_in-clause-told
returns-then-is_built_in-clause-told g c =
    package_built_in (g.F.Files.tree c.args.files.now) c.args.number c.args.self.now c.args.sources.now c.in_ok-no_imports.field-0 c.index.result.now
    (slice_get_read c.args.self.now.entries.items _ c.args.number c.index.result.now refl c.requires c.index.ensures) (sym c.is_built_in.ensures ∙ c.if-is_built_in.true) c.in_ok-no_imports.ensures

pub returns-clause-told : goal.returns-clause-told
returns-clause-told g c =
    package_of_paths (g.F.Files.tree c.args.files.now) c.args.number c.args.self.now c.find_all.new.self c.args.sources.now c.find_all.result c.index.result.now
    (slice_get_read c.args.self.now.entries.items _ c.args.number c.index.result.now refl c.requires c.index.ensures) (sym c.is_built_in.ensures ∙ c.if-is_built_in.false) c.find_all.ensures.told
