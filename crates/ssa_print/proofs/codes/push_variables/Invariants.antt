use Rattle.std.proofs.Common.{◌≡◌, ◌++◌, take}
use Rattle.std.specs.List.{flat_map}
use Rattle.ssa_print.specs.Codes.{variable_line}
use Rattle.ssa_print.proofs.codes.push_variables.Given as goal

abbrev pub invariant-loop-named : goal.invariant-loop-named
invariant-loop-named l = l.text.items ≡ l.initial.text.items ++ flat_map (variable_line l.setting) (take l.named-index l.variables)
