use Rattle.std.proofs.lemmas.Result.{err_from_is_err_and}
use Rattle.std.proofs.lemmas.List.Elements.{All-append, All-same}
use Rattle.go_sources.specs.declared.sources.SourceFile.{SourceFile}
use Rattle.go_sources.specs.Sources.{IsText}
use Rattle.go_load.proofs.PackageLoading.{unread, faulty, unfound_import, loaded}
use Rattle.go_load.proofs.loader.Loader.load_package.Goals as goal

pub returns-in_err-sources-clause-exact : goal.returns-in_err-sources-clause-exact
returns-in_err-sources-clause-exact g c =
    let p = err_from_is_err_and c.from_residual.result c.from_residual.ensures.1 in
    rw (p.1, p.2) (unread (g.F.Files.tree c.args.files.now) c.args.number c.args.self.now c.args.self.now c.in_err-sources.field-0.0 c.requires c.in_err-sources.ensures.exact)

pub returns-in_err-check_files-clause-why : goal.returns-in_err-check_files-clause-why
returns-in_err-check_files-clause-why g c =
    let p = err_from_is_err_and c.from_residual-in_err-check_files.result c.from_residual-in_err-check_files.ensures.1 in
    rw (p.1, p.2) (c.in_err-check_files.ensures.why (g.F.Files.tree c.args.files.now))

pub returns-in_err-check_files-clause-exact : goal.returns-in_err-check_files-clause-exact
returns-in_err-check_files-clause-exact g c =
    let p = err_from_is_err_and c.from_residual-in_err-check_files.result c.from_residual-in_err-check_files.ensures.1 in
    rw (p.1, p.2) (faulty (g.F.Files.tree c.args.files.now) c.args.number c.args.self.now c.args.self.now c.in_ok-sources.sources c.in_err-check_files.field-0.0 c.as_slice.result.now c.as_slice.ensures.value c.requires c.in_ok-sources.ensures.exact c.in_err-check_files.ensures.exact)

pub returns-in_err-imports-clause-exact : goal.returns-in_err-imports-clause-exact
returns-in_err-imports-clause-exact g c =
    let p = err_from_is_err_and c.from_residual-in_err-imports.result c.from_residual-in_err-imports.ensures.1 in
    rw (p.1, p.2) (unfound_import (g.F.Files.tree c.args.files.now) (g.F.Files.tree c.read_package.new.files) c.args.number c.args.self.now (record c.args.self.now { found = c.find_imports_of.new.self }) c.find_imports_of.new.self c.in_ok-sources.sources c.in_err-imports.field-0.0
    c.as_slice.result.now c.as_slice-3.result.now c.as_slice.ensures.value c.as_slice-3.ensures.value c.in_ok-sources.ensures.same c.requires c.in_ok-sources.ensures.exact c.in_ok-check_files.ensures.exact c.in_err-imports.ensures.told)

pub returns-clause-told : goal.returns-clause-told
returns-clause-told g c = λ told.
    let P : SourceFile → Type 0 = λ (file : SourceFile). IsText (g.F.Files.tree c.args.files.now) file.path file.bytes in
    All-same P c.add_package.new.self.files.items _ c.in_ok-add_package.ensures.files
    (All-append P c.args.self.now.files.items c.in_ok-sources.sources.items told c.in_ok-sources.ensures.told)

pub returns-clause-exact : goal.returns-clause-exact
returns-clause-exact g c =
    loaded (g.F.Files.tree c.args.files.now) (g.F.Files.tree c.read_package.new.files) c.args.number c.args.self.now c.add_package.new.self c.find_imports_of.new.self c.in_ok-sources.sources c.in_ok-imports.imports c.in_ok-package.package
    c.as_slice.result.now c.as_slice-2.result.now c.as_slice-3.result.now c.as_slice.ensures.value c.as_slice-2.ensures.value c.as_slice-3.ensures.value
    c.in_ok-sources.ensures.same c.requires c.in_ok-sources.ensures.exact c.in_ok-sources.ensures.of c.in_ok-check_files.ensures.exact c.in_ok-package.ensures c.in_ok-imports.ensures.told c.in_ok-add_package.ensures
