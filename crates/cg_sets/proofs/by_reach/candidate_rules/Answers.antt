use Rattle.std.proofs.Common.{◌≡◌, ◌∙◌, ◌++◌, List, ap, map, arith}
use Rattle.cg_solve.specs.Tables.{row}
use Rattle.cg_sets.specs.Reaching.{candidate_rule}
use Rattle.cg_sets.specs.declared.candidates.Candidate.{Candidate}
use Rattle.cg_sets.proofs.RowRules.{rules_none, rules_more, all_row_rules}
use Rattle.cg_sets.proofs.by_reach.candidate_rules.Goals as goal

pub loop-group-init : goal.loop-group-init
loop-group-init c = rules_none candidate_rule (row c.args.all.now.rows) _ c.new-rules.ensures.items

pub loop-group-preserved : goal.loop-group-preserved
loop-group-preserved c =
    let rows = row c.args.all.now.rows in
    let k = c.loop-group.group in
    rules_more candidate_rule rows k c.loop-group.rules.items c.put_row.new.rules.items (c.in_ok-put_row.ensures ∙ ap (λ (l : List Candidate). c.loop-group.rules.items ++ map (candidate_rule k) l) c.row.ensures) c.loop-group.invariant

pub returns : goal.returns
returns c = all_row_rules (row c.args.all.now.rows) c.loop-group.group c.loop-group.rules.items (λ j l. c.len-group-end.ensures j (omega arith)) c.loop-group.invariant
