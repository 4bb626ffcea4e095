use Rattle.std.proofs.Common.{◌≡◌, ◌++◌, take, codes}
use Rattle.go_text.specs.Joined.{joined}
use Rattle.ssa_print.specs.Instructions.{case_text}
use Rattle.ssa_print.proofs.instructions.Writer.cases.Given as goal

abbrev pub invariant-loop-index : goal.invariant-loop-index
invariant-loop-index l = l.text.items ≡ l.initial.text.items ++ joined (codes ", ") (case_text l.self.setting.now l.self.given.now.keys) (take l.index l.cases)
