use Rattle.go_finding.proofs.Listings.{listed_paths, absent_paths}
use Rattle.go_finding.proofs.listing.list_go_files.Goals as goal

pub returns-in-Err-Absent-clause-answer : goal.returns-in-Err-Absent-clause-answer
returns-in-Err-Absent-clause-answer g c =
    absent_paths (g.F.Files.tree c.args.files.now) c.args.dir.now c.new.result (rw c.in-Err-Absent.field-0-is at c.in-Err-Absent.ensures.answer) c.new.ensures.items

pub returns-clause-answer : goal.returns-clause-answer
returns-clause-answer g c =
    listed_paths (g.F.Files.tree c.args.files.now) c.args.dir.now c.in-Ok.names c.in_ok-names.names c.in_ok-paths_in.field-0 c.in-Ok.ensures.answer c.in_ok-names.ensures.all c.in_ok-names.ensures.order
    (rw (← c.as_slice.ensures.value) c.in_ok-paths_in.ensures)
