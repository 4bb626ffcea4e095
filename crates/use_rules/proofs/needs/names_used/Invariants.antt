use Rattle.std.proofs.Common.{◌≡◌, ℕ, take}
use Rattle.std.specs.Prelude.{◌&&◌, ◌==◌}
use Rattle.std.specs.List.{list_any}
use Rattle.use_rules.specs.Uses.{flag_at}
use Rattle.use_rules.proofs.needs.names_used.Given as goal

abbrev pub invariant-loop-variable : goal.invariant-loop-variable
invariant-loop-variable l =
    (k : ℕ) → flag_at l.used.items k
    ≡ list_any (λ it. (it.1 == k) && flag_at l.fn.read it.0.number) (take l.variable-index l.variables)
