use Rattle.std.proofs.lemmas.Result.{err_from_is_err_and}
use Rattle.go_load.proofs.FileLaws.{whole_refused, text_refused}
use Rattle.go_load.proofs.package_files.read_path.Goals as goal

pub returns-in_err-bytes-clause-answer : goal.returns-in_err-bytes-clause-answer
returns-in_err-bytes-clause-answer g c =
    let p = err_from_is_err_and c.from_residual.result c.from_residual.ensures.1 in
    rw (p.1, p.2) (whole_refused (g.F.Files.tree c.args.files.now) c.args.path.now c.args.room c.in_err-bytes.field-0.0 c.in_err-bytes.ensures.answer)

pub returns-in_err-source_of-in-Some-clause-answer : goal.returns-in_err-source_of-in-Some-clause-answer
returns-in_err-source_of-in-Some-clause-answer g c =
    let p = err_from_is_err_and c.from_residual-in_err-source_of-in-Some.result c.from_residual-in_err-source_of-in-Some.ensures.1 in
    rw (p.1, p.2) (text_refused (g.F.Files.tree c.args.files.now) c.args.path.now c.args.room c.in_ok-bytes.field-0 c.in-Some.bytes c.in_err-source_of-in-Some.field-0.0 c.in-Some.is c.in_ok-bytes.ensures.answer c.in_err-source_of-in-Some.ensures.answer)
