use Rattle.std.proofs.Common.{ap, ◌+◌, ◌∙◌, arith}
use Rattle.ssa_print.specs.Codes.{length_in}
use Rattle.ssa_print.proofs.Summed.{sum_more, sum_all}
use Rattle.ssa_print.proofs.printing.count_all.Goals as goal

pub loop-block-preserved : goal.loop-block-preserved
loop-block-preserved c =
    sum_more c.args.available.now c.loop-block.block c.loop-block.count _ (omega arith) c.loop-block.invariant
    (c.in_ok-count.ensures ∙ ap (λ o. c.loop-block.count + length_in o) c.get.ensures)

pub returns : goal.returns
returns c = sum_all c.args.available.now c.loop-block.block c.loop-block.count (omega arith) c.loop-block.invariant
