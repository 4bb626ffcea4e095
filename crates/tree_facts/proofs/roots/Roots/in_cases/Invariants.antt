use Rattle.std.proofs.Common.{◌≡◌, take}
use Rattle.tree_facts.specs.Statements.{in_cases}
use Rattle.tree_facts.specs.Search.{searched}
use Rattle.tree_facts.proofs.roots.Roots.in_cases.Given as goal

abbrev pub invariant-loop-case : goal.invariant-loop-case
invariant-loop-case l = l.self ≡ searched l.fn.self (in_cases (take l.case-index l.cases))
