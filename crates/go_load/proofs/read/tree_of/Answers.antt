use Rattle.go_finding.proofs.Stopping.{deep_stops, syntax_stops}
use Rattle.go_load.proofs.TextReading.{too_deep, bad_syntax}
use Rattle.go_load.proofs.read.tree_of.Goals as goal

pub returns-in-Err-TooDeep-clause-why : goal.returns-in-Err-TooDeep-clause-why
returns-in-Err-TooDeep-clause-why c = λ files text.
    deep_stops files c.args.path.now c.args.bytes.now c.args.tokens.now c.in-Err-TooDeep.index c.token_start-offset.result c.refuse_at.result c.requires.list (rw c.in-Err-TooDeep.field-0-is at c.in-Err-TooDeep.ensures.too_deep) c.token_start-offset.ensures.start c.refuse_at.ensures text

pub returns-in-Err-Unexpected-clause-why : goal.returns-in-Err-Unexpected-clause-why
returns-in-Err-Unexpected-clause-why c = λ files text.
    syntax_stops files c.args.path.now c.args.bytes.now c.args.tokens.now c.in-Err-Unexpected.index c.token_start-offset-in-Err-Unexpected.result c.refuse_at-in-Err-Unexpected.result c.requires.list
    (rw c.in-Err-Unexpected.field-0-is at c.in-Err-Unexpected.ensures.too_deep) (rw c.in-Err-Unexpected.field-0-is at c.in-Err-Unexpected.ensures.parsed) c.token_start-offset-in-Err-Unexpected.ensures.start c.refuse_at-in-Err-Unexpected.ensures text

pub returns-in-Ok-clause-answer : goal.returns-in-Ok-clause-answer
returns-in-Ok-clause-answer c =
    record { tokens = c.args.tokens.now; list = c.requires.list; verdict = (c.in-Ok.ensures.too_deep, c.in-Ok.ensures.parsed.0); roles = c.in-Ok.ensures.parsed.1 }

pub returns-in-Err-TooDeep-clause-answer : goal.returns-in-Err-TooDeep-clause-answer
returns-in-Err-TooDeep-clause-answer c =
    too_deep c.args.path.now c.args.bytes.now c.args.tokens.now c.in-Err-TooDeep.index c.token_start-offset.result c.refuse_at.result c.requires.list
    (rw c.in-Err-TooDeep.field-0-is at c.in-Err-TooDeep.ensures.too_deep, rw c.in-Err-TooDeep.field-0-is at c.in-Err-TooDeep.ensures.parsed)
    c.token_start-offset.ensures.start c.refuse_at.ensures

pub returns-in-Err-Unexpected-clause-answer : goal.returns-in-Err-Unexpected-clause-answer
returns-in-Err-Unexpected-clause-answer c =
    bad_syntax c.args.path.now c.args.bytes.now c.args.tokens.now c.in-Err-Unexpected.index c.token_start-offset-in-Err-Unexpected.result c.refuse_at-in-Err-Unexpected.result c.requires.list
    (rw c.in-Err-Unexpected.field-0-is at c.in-Err-Unexpected.ensures.too_deep, rw c.in-Err-Unexpected.field-0-is at c.in-Err-Unexpected.ensures.parsed)
    c.token_start-offset-in-Err-Unexpected.ensures.start c.refuse_at-in-Err-Unexpected.ensures
