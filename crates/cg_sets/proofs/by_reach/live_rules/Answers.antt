use Rattle.std.proofs.Common.{◌≡◌, ◌∙◌, ◌++◌, List, ap, map, arith}
use Rattle.std.specs.List.{filter}
use Rattle.cg_solve.specs.Tables.{row}
use Rattle.cg_sets.specs.Reaching.{is_made}
use Rattle.cg_sets.specs.Rules.{row_rule}
use Rattle.cg_sets.specs.declared.candidates.Candidate.{Candidate}
use Rattle.cg_sets.proofs.RowRules.{rules_none, rules_more, all_made_rules, made_rows}
use Rattle.cg_sets.proofs.by_reach.live_rules.Goals as goal

pub loop-group-init : goal.loop-group-init
loop-group-init c = rules_none row_rule (made_rows c.args.marks.now (row c.args.all.now.rows)) _ c.new-rules.ensures.items

pub loop-group-preserved : goal.loop-group-preserved
loop-group-preserved c =
    let marks = c.args.marks.now in
    let k = c.loop-group.group in
    rules_more row_rule (made_rows marks (row c.args.all.now.rows)) k c.loop-group.rules.items c.put_live_row.new.rules.items
    (c.in_ok-put_live_row.ensures ∙ ap (λ (l : List Candidate). c.loop-group.rules.items ++ map (row_rule k) (filter (is_made marks) l)) c.row.ensures) c.loop-group.invariant

pub returns : goal.returns
returns c = all_made_rules c.args.marks.now (row c.args.all.now.rows) c.loop-group.group c.loop-group.rules.items (λ j l. c.len-group-end.ensures j (omega arith)) c.loop-group.invariant
