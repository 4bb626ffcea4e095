use Rattle.std.proofs.Common.{List, arith, subst}
use Rattle.cg_solve.specs.Tables.{row}
use Rattle.cg_sets.specs.declared.candidates.Candidate.{Candidate}
use Rattle.cg_vta.proofs.Standings.{GoalsMore, goals_all, goals_more, goals_none, kept_none}
use Rattle.cg_vta.proofs.goals.Goals.of.Goals as goal

pub loop-group-init : goal.loop-group-init
loop-group-init c = record { kept = kept_none c.none-goals.result c.none-goals.ensures.standings c.none-goals.ensures.rows; goals = goals_none (row c.args.all.now.rows) c.none-goals.result c.none-goals.ensures.standings }

pub loop-group-preserved : goal.loop-group-preserved
loop-group-preserved c =
    let i = c.loop-group.invariant in
    let rows = row c.args.all.now.rows in
    let k = c.loop-group.group in
    let put = c.in_ok-put_row.ensures in
    record {
      kept = put.kept i.kept;
      goals = goals_more rows k c.loop-group.goals c.put_row.new.self (subst (λ (l : List Candidate). GoalsMore c.loop-group.goals c.put_row.new.self k l) c.row.ensures (put.goals i.kept)) i.goals;
    }

pub returns : goal.returns
returns c = goals_all (row c.args.all.now.rows) c.loop-group.group c.loop-group.goals (λ j l. c.len-group-end.ensures j (omega arith)) c.loop-group.invariant.kept c.loop-group.invariant.goals
