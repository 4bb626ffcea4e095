use Rattle.std.proofs.Common.{◌++◌, ◌∙◌, ap, arith}
use Rattle.std.specs.List.{flat_map}
use Rattle.ssa_print.specs.Functions.{block_text}
use Rattle.ssa_print.proofs.Numbered.{pieces-turn, numbered-whole}
use Rattle.ssa_print.proofs.functions.push_blocks.Goals as goal

pub loop-number-preserved : goal.loop-number-preserved
loop-number-preserved c =
    pieces-turn (block_text c.args.writer.now.setting.now c.args.writer.now.given.now.keys c.args.registers.now) c.args.blocks.now c.loop-number.number _ _ _ _ _
    (omega arith) c.index-blocks-number.is c.loop-number.invariant c.in_ok-push_block.ensures

pub returns : goal.returns
returns c =
    c.loop-number.invariant ∙ ap (λ numbered. c.args.text.now.items ++ flat_map (block_text c.args.writer.now.setting.now c.args.writer.now.given.now.keys c.args.registers.now) numbered)
    (numbered-whole c.args.blocks.now c.loop-number.number (omega arith))
