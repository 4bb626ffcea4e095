use Rattle.std.proofs.Common.{◌≡◌, true, take}
use Rattle.std.specs.List.{list_all}
use Rattle.ssa_runnable.specs.Zeros.{zero_at}
use Rattle.ssa_runnable.proofs.zeros.fields_have.Given as goal

abbrev pub invariant-loop-field : goal.invariant-loop-field
invariant-loop-field l = list_all (λ field. zero_at l.known field.of) (take l.field-index l.fields) ≡ true
