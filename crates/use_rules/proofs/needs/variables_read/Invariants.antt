use Rattle.std.proofs.Common.{◌≡◌, take}
use Rattle.go_base.specs.declared.ids.VarId.{VarId}
use Rattle.use_rules.specs.Uses.{flag_at, is_read}
use Rattle.use_rules.proofs.needs.variables_read.Given as goal

abbrev pub invariant-loop-mention : goal.invariant-loop-mention
invariant-loop-mention l = (v : VarId) → flag_at l.read.items v.number ≡ is_read (take l.mention-index l.mentions) v
