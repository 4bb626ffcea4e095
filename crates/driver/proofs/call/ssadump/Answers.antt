use Rattle.std.proofs.Common.{map, string_bytes}
use Rattle.driver.proofs.Answering.{answers_still, read_fault_was, said_answers, write_fault_was}
use Rattle.driver.proofs.Reported.{reports_as}
use Rattle.driver.proofs.call.ssadump.Goals as goal

pub returns-clause-answers : goal.returns-clause-answers
returns-clause-answers g c = answers_still (map string_bytes c.args.words.now) _ _ _ c.perform-outcome.result c.report.result _ _ c.perform-outcome.ensures.answers c.report.ensures.becomes

pub returns-clause-read_fault : goal.returns-clause-read_fault
returns-clause-read_fault g c = λ e. c.perform-outcome.ensures.read_fault (read_fault_was _ _ c.perform-outcome.result c.report.result c.report.ensures.becomes e)

pub returns-clause-write_fault : goal.returns-clause-write_fault
returns-clause-write_fault g c = write_fault_was _ _ c.perform-outcome.result c.report.result _ c.report.ensures.becomes c.perform-outcome.ensures.write_fault

pub returns-clause-reports : goal.returns-clause-reports
returns-clause-reports g c =
    reports_as _ _ c.report.result _ _ _ _ (said_answers (map string_bytes c.args.words.now) _ c.perform-outcome.result _ _ c.perform-outcome.ensures.answers)
    c.report.ensures.reports
