use Rattle.std.proofs.Common.{arith}
use Rattle.ssa_typed.proofs.Places.{functions-more, functions-typed, ill-function}
use Rattle.ssa_typed.proofs.checking.type_code.Goals as goal

pub returns-in-Some-clause-ill : goal.returns-in-Some-clause-ill
returns-in-Some-clause-ill c = λ function block instr e.
    ill-function c.args.code.now c.as_slice-function-items.result.now c.loop-number.number c.in-Some.place.block c.in-Some.place.instr c.function-item.result _ function block instr
    c.as_slice-function-items.ensures (omega arith) c.function-item.is c.loop-number.invariant (rw c.in-Some.is at c.in-Ok.ensures) (cc) (cc) (cc)

pub loop-number-preserved : goal.loop-number-preserved
loop-number-preserved c =
    functions-more c.args.code.now c.as_slice-function-items.result.now c.loop-number.number c.function-item.result _
    c.as_slice-function-items.ensures (omega arith) c.function-item.is (rw c.in_default-found.is at c.in-Ok.ensures) c.loop-number.invariant

pub returns-clause-typed : goal.returns-clause-typed
returns-clause-typed c = λ ok.
    functions-typed c.args.code.now c.as_slice-function-items.result.now c.loop-number.number c.as_slice-function-items.ensures (omega arith) c.loop-number.invariant
