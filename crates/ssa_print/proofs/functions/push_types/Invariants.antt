use Rattle.std.proofs.Common.{◌≡◌, ◌++◌, take, codes}
use Rattle.go_text.specs.Joined.{joined}
use Rattle.go_text.specs.TypeText.{type_text_of}
use Rattle.ssa_print.proofs.functions.push_types.Given as goal

abbrev pub invariant-loop-index : goal.invariant-loop-index
invariant-loop-index l = l.text.items ≡ l.initial.text.items ++ joined (codes ", ") (type_text_of l.setting.naming) (take l.index l.ids)
