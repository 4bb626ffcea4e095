use Rattle.std.proofs.Common.{◌≡◌, ◌++◌, take, codes, length}
use Rattle.go_text.specs.Joined.{joined}
use Rattle.std.specs.List.{enumerate_from}
use Rattle.ssa_print.specs.Functions.{param_text}
use Rattle.ssa_print.proofs.functions.push_params.Given as goal

abbrev pub invariant-loop-index : goal.invariant-loop-index
invariant-loop-index l = l.text.items ≡ l.initial.text.items ++ joined (codes ", ") (param_text l.setting l.variadic (length l.params)) (take l.index (enumerate_from 0 l.params))
