use Rattle.std.proofs.Common.{arith, sym, ◌∙◌}
use Rattle.ssa_ir.specs.declared.code.Function.{Function}
use Rattle.ssa_print.specs.Codes.{is_own}
use Rattle.ssa_print.proofs.Fronts.{front-to, front-whole}
use Rattle.ssa_print.proofs.printing.count_own.Goals as goal

pub returns-then-not-is_own-clause-value : goal.returns-then-not-is_own-clause-value
returns-then-not-is_own-clause-value c =
    front-to (λ (f : Function). is_own f.kind) c.args.functions.now c.loop-index.index c.index-functions-index.result _
    (omega arith) c.index-functions-index.is (sym c.is_own.ensures ∙ c.if-not-is_own.true) c.loop-index.invariant

pub returns-clause-value : goal.returns-clause-value
returns-clause-value c = front-whole (λ (f : Function). is_own f.kind) c.args.functions.now c.loop-index.index (omega arith) c.loop-index.invariant
