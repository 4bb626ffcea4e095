use Rattle.std.proofs.Common.{◌≡◌, drop, ◌++◌}
use Rattle.cg_uses.specs.Settings.{setting_of}
use Rattle.cg_uses.specs.Statements.{in_cases}
use Rattle.cg_uses.proofs.clauses.in_cases.Given as goal

abbrev pub invariant-loop-case : goal.invariant-loop-case
invariant-loop-case l = l.out.items ++ in_cases (setting_of l.around) l.tag (drop l.case-index l.cases) ≡ l.fn.out.items ++ in_cases (setting_of l.around) l.tag l.cases
