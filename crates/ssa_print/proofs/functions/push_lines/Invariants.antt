use Rattle.std.proofs.Common.{◌≡◌, ◌++◌, take}
use Rattle.std.specs.List.{flat_map}
use Rattle.ssa_print.specs.Functions.{line_text}
use Rattle.ssa_print.proofs.functions.push_lines.Given as goal

abbrev pub invariant-loop-instr : goal.invariant-loop-instr
invariant-loop-instr l = l.text.items ≡ l.initial.text.items ++ flat_map (line_text l.writer.setting.now l.writer.given.now.keys l.registers) (take l.instr-index l.instrs)
