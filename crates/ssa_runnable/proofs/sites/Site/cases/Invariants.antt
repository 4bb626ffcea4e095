use Rattle.std.proofs.Common.{◌≡◌, true, [], ◌∷◌, take}
use Rattle.std.specs.List.{list_all}
use Rattle.ssa_runnable.specs.Runnable.{has_meaning, operands_of_cases}
use Rattle.ssa_runnable.proofs.sites.Site.cases.Given as goal

abbrev pub invariant-loop-case : goal.invariant-loop-case
invariant-loop-case l = list_all (λ case. list_all (has_meaning l.self.code.now) (operands_of_cases (case ∷ []))) (take l.case-index l.cases) ≡ true
