use Rattle.std.proofs.Common.{◌≡◌, ◌+◌, arith, rules}
use Rattle.go_finding.proofs.LinkLaws.{links_next}
use Rattle.go_finding.proofs.links.push_links.Goals as goal

pub files-preserved : goal.files-preserved
files-preserved c =
    let file : c.in_ok-file.file ≡ c.args.first + c.files.index = omega (arith, c.in_ok-file.ensures, c.saturating_add.ensures) in
    links_next c.args.links.now.items c.files.links.items c.push_file_links.new.links.items c.args.number c.args.first c.files.index c.in_ok-file.file c.args.imports.now c.index-imports-index.result c.files-test.true c.index-imports-index.is file c.files.invariant (search rules)
