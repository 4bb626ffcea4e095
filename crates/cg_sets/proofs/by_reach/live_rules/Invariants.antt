use Rattle.cg_solve.specs.Tables.{row}
use Rattle.cg_sets.specs.Rules.{row_rule}
use Rattle.cg_sets.proofs.RowRules.{RulesBelow, made_rows}
use Rattle.cg_sets.proofs.by_reach.live_rules.Given as goal

abbrev pub invariant-loop-group : goal.invariant-loop-group
invariant-loop-group l = RulesBelow row_rule (made_rows l.marks (row l.all.rows)) l.group l.rules.items
