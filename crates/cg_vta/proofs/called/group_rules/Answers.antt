use Rattle.std.proofs.Common.{◌∙◌, ◌++◌, List, ap, flat_map, arith}
use Rattle.cg_solve.specs.Tables.{row}
use Rattle.cg_sets.specs.declared.candidates.Candidate.{Candidate}
use Rattle.cg_vta.specs.Choosing.{group_rule}
use Rattle.cg_vta.proofs.Rowed.{below_all, below_more, below_none}
use Rattle.cg_vta.proofs.called.group_rules.Goals as goal

pub loop-group-init : goal.loop-group-init
loop-group-init c = below_none (row c.args.all.now.rows) group_rule _ c.new-rules.ensures.items

pub loop-group-preserved : goal.loop-group-preserved
loop-group-preserved c =
    let rows = row c.args.all.now.rows in
    let k = c.loop-group.group in
    below_more rows group_rule k c.loop-group.rules.items c.put_row.new.rules.items (c.in_ok-put_row.ensures ∙ ap (λ (l : List Candidate). c.loop-group.rules.items ++ flat_map (group_rule k) l) c.row.ensures) c.loop-group.invariant

pub returns : goal.returns
returns c = below_all (row c.args.all.now.rows) group_rule c.loop-group.group c.loop-group.rules.items (λ j l. c.len-group-end.ensures j (omega arith)) c.loop-group.invariant
