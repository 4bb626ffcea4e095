use Rattle.std.proofs.Common.{◌≡◌, ◌∙◌, true, false, bytes_eq, ap, List, map, rules}
use Rattle.std.proofs.Math.ListN.{drop_of_length-le}
use Rattle.go_base.specs.declared.rule.Rule.TheVariants.{SecondPackageName}
use Rattle.go_sources.specs.declared.sources.SourceFile.{SourceFile}
use Rattle.go_finding.specs.Finding.{view_file}
use Rattle.go_finding.specs.Programs.{broken_at, name_of, other_name}
use Rattle.go_load.proofs.LoaderLaws.{refused}
use Rattle.go_load.proofs.NameLaws.{same_name_next, other_name_here}
use Rattle.go_load.proofs.loader.check_names.Goals as goal

pub returns-then-ne-clause-why : goal.returns-then-ne-clause-why
returns-then-ne-clause-why c = λ files. c.refuse_in.ensures.why files (λ place. tt)

pub returns-then-ne-clause-exact : goal.returns-then-ne-clause-exact
returns-then-ne-clause-exact c =
    let name = name_of (view_file c.args.head.now) in
    let other : bytes_eq (name_of (view_file c.file-item.result)) (name_of (view_file c.args.head.now)) ≡ false = search rules in
    refused (Unit {0}) (broken_at (view_file c.file-item.result) c.file-item.result.tree.name SecondPackageName).place SecondPackageName c.refuse_in.result (other_name name (map view_file c.args.others.now))
    (c.files.invariant ∙ other_name_here name c.args.others.now c.files.file-index c.file-item.result c.files-test.true c.file-item.is other) c.refuse_in.ensures.here

pub files-preserved : goal.files-preserved
files-preserved c =
    let name = name_of (view_file c.args.head.now) in
    let same : bytes_eq (name_of (view_file c.file-item.result)) (name_of (view_file c.args.head.now)) ≡ true = search rules in
    c.files.invariant ∙ same_name_next name c.args.others.now c.files.file-index c.file-item.result c.files-test.true c.file-item.is same

pub returns-clause-exact : goal.returns-clause-exact
returns-clause-exact c =
    c.files.invariant ∙ ap (λ (these : List SourceFile). other_name (name_of (view_file c.args.head.now)) (map view_file these)) (drop_of_length-le c.args.others.now c.files-test.false)
