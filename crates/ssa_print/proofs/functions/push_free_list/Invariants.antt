use Rattle.std.proofs.Common.{◌≡◌, ◌++◌, take, codes}
use Rattle.go_text.specs.Joined.{joined}
use Rattle.std.specs.List.{enumerate_from}
use Rattle.ssa_print.specs.Functions.{free_text}
use Rattle.ssa_print.proofs.functions.push_free_list.Given as goal

abbrev pub invariant-loop-index : goal.invariant-loop-index
invariant-loop-index l = l.text.items ≡ l.initial.text.items ++ joined (codes ", ") (free_text l.setting) (take l.index (enumerate_from 0 l.free))
