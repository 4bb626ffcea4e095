use Rattle.interp_calls.proofs.Puts.{many_results, one_result}
use Rattle.interp_calls.proofs.calling.results.Goals as goal

pub returns-in_ok-read-in-len1 : goal.returns-in_ok-read-in-len1
returns-in_ok-read-in-len1 c =
    one_result c.args.machine.now c.args.values.now c.value-item.result c.in_ok-read-in-len1.field-0
    c.in-len1.len_at_least c.in-len1.len_below c.value-item.is c.in_ok-read-in-len1.ensures

pub returns-in_ok-tuple-in_default : goal.returns-in_ok-tuple-in_default
returns-in_ok-tuple-in_default c =
    many_results c.args.machine.now c.args.values.now c.in_ok-tuple-in_default.field-0 c.in_default.len_at_least
    c.in_ok-tuple-in_default.ensures
