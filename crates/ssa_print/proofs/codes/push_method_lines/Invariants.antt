use Rattle.std.proofs.Common.{◌≡◌, ◌++◌, take}
use Rattle.std.specs.List.{flat_map}
use Rattle.ssa_print.specs.Codes.{method_line}
use Rattle.ssa_print.proofs.codes.push_method_lines.Given as goal

abbrev pub invariant-loop-line : goal.invariant-loop-line
invariant-loop-line l = l.text.items ≡ l.initial.text.items ++ flat_map (method_line l.setting) (take l.line-index l.methods)
