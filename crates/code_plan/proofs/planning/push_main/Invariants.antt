use Rattle.std.proofs.Common.{◌≡◌, ◌++◌, drop, map}
use Rattle.ssa_mean.specs.Runs.{is_main, those_from}
use Rattle.code_plan.proofs.planning.push_main.Given as goal

abbrev pub invariant-loop-number : goal.invariant-loop-number
invariant-loop-number l =
    l.starts.items ++ map (λ id. id.number) (those_from l.number is_main (drop l.number l.functions))
    ≡ l.fn.starts.items ++ map (λ id. id.number) (those_from 0 is_main l.functions)
