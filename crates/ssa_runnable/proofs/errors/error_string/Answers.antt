use Rattle.ssa_runnable.proofs.Throwing.{error_first, error_found, error_more, error_none}
use Rattle.ssa_runnable.proofs.errors.error_string.Goals as goal

pub loop-id-init : goal.loop-id-init
loop-id-init c = error_first c.args.code.now _ c.as_slice-id-items.ensures

pub loop-id-preserved : goal.loop-id-preserved
loop-id-preserved c =
    error_more c.args.code.now c.as_slice-id-items.result.now c.loop-id.id-index _ c.loop-id-test.true
    c.if-is_error_string.ensures c.loop-id.invariant

pub returns-then-is_error_string : goal.returns-then-is_error_string
returns-then-is_error_string c =
    error_found c.args.code.now c.as_slice-id-items.result.now c.loop-id.id-index _ c.loop-id-test.true
    c.if-is_error_string.ensures c.loop-id.invariant

pub returns : goal.returns
returns c =
    error_none c.args.code.now c.as_slice-id-items.result.now c.loop-id.id-index c.loop-id-test.false c.loop-id.invariant
