use Rattle.std.proofs.Common.{◌∙◌}
use Rattle.std.proofs.lemmas.Result.{err_from_is_err_and}
use Rattle.go_finding.proofs.Governing.{own_unread}
use Rattle.go_finding.proofs.Modules.{go_mod_stops}
use Rattle.go_finding.proofs.find_module.read_module.Goals as goal

pub returns-clause-why : goal.returns-clause-why
returns-clause-why g c = go_mod_stops (g.F.Files.tree c.args.files.now) c.as_slice.result.now c.in-Err.fault _ c.refuse_at.result c.in-Err.ensures.fault c.refuse_at.ensures

pub returns-in_err-bytes-clause-own : goal.returns-in_err-bytes-clause-own
returns-in_err-bytes-clause-own g c =
    let p = err_from_is_err_and c.from_residual-in_err-bytes.result c.from_residual-in_err-bytes.ensures.1 in
    rw (p.1, p.2) (own_unread (g.F.Files.tree c.args.files.now) c.args.dir.now c.as_str.result.now c.in_err-bytes.field-0.0 (c.as_str.ensures.value ∙ c.in_ok-path.ensures) c.in_err-bytes.ensures.answer)
