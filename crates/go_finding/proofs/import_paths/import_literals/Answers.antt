use Rattle.std.proofs.Common.{◌≡◌, ◌∙◌, ap, take, arith}
use Rattle.std.specs.List.{flat_map}
use Rattle.std.proofs.lemmas.List.{take_all}
use Rattle.go_finding.proofs.ImportLists.{literals_of_decl, literals_of_decls}
use Rattle.go_finding.proofs.import_paths.import_literals.Goals as goal

pub returns : goal.returns
returns c = λ bytes.
    let all = c.args.tree.now.imports.items in
    let whole : take c.imports.import-index all ≡ all = take_all c.imports.import-index all (omega arith) in
    c.imports.invariant ∙ ap (flat_map literals_of_decl) whole ∙ literals_of_decls bytes all
