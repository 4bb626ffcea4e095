use Rattle.std.proofs.Common.{◌≡◌, drop}
use Rattle.std.specs.List.{find}
use Rattle.go_type.specs.Table.{term_at}
use Rattle.ssa_mean.specs.Faults.{is_error_term}
use Rattle.ssa_runnable.proofs.errors.error_string.Given as goal

abbrev pub invariant-loop-id : goal.invariant-loop-id
invariant-loop-id l =
    find (λ of. is_error_term l.code (term_at l.code.types of)) (drop l.id-index l.id-items)
    ≡ find (λ of. is_error_term l.code (term_at l.code.types of)) l.code.declared
