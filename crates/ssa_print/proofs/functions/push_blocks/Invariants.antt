use Rattle.std.proofs.Common.{◌≡◌, ◌++◌, take}
use Rattle.std.specs.List.{enumerate_from, flat_map}
use Rattle.ssa_print.specs.Functions.{block_text}
use Rattle.ssa_print.proofs.functions.push_blocks.Given as goal

abbrev pub invariant-loop-number : goal.invariant-loop-number
invariant-loop-number l = l.text.items ≡ l.initial.text.items ++ flat_map (block_text l.writer.setting.now l.writer.given.now.keys l.registers) (take l.number (enumerate_from 0 l.blocks))
