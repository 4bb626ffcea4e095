use Rattle.go_finding.proofs.Stopping.{scan_stops}
use Rattle.go_load.proofs.TextReading.{bad_bytes}
use Rattle.go_load.proofs.read.read_tree.Goals as goal

pub returns-in-Err-Refused-clause-why : goal.returns-in-Err-Refused-clause-why
returns-in-Err-Refused-clause-why c = λ files text.
    scan_stops files c.args.path.now c.args.bytes.now c.in-Err-Refused.offset c.in-Err-Refused.rule c.refuse_at.result (rw c.in-Err-Refused.field-0-is at c.in-Err-Refused.ensures.refused) c.refuse_at.ensures text

pub returns-in-Err-Refused-clause-answer : goal.returns-in-Err-Refused-clause-answer
returns-in-Err-Refused-clause-answer c =
    bad_bytes c.args.path.now c.args.bytes.now c.in-Err-Refused.offset c.in-Err-Refused.rule c.refuse_at.result (rw c.in-Err-Refused.field-0-is at c.in-Err-Refused.ensures.refused) c.refuse_at.ensures
