use Rattle.std.proofs.Common.{◌≡◌, ◌∙◌, ◌++◌, List, ap, arith, flat_map}
use Rattle.cg_solve.specs.Tables.{row}
use Rattle.cg_sets.specs.declared.candidates.Candidate.{Candidate}
use Rattle.cg_vta.specs.Facts.{operands}
use Rattle.cg_vta.proofs.Rowed.{kept_more, whole_all, whole_more, whole_none}
use Rattle.cg_vta.proofs.facts.put_operands.Goals as goal

pub loop-group-init : goal.loop-group-init
loop-group-init c = record { kept = λ k h. h; whole = whole_none (row c.args.all.now.rows) operands c.args.nodes.now.items }

pub loop-group-preserved : goal.loop-group-preserved
loop-group-preserved c =
    let i = c.loop-group.invariant in
    let rows = row c.args.all.now.rows in
    let old = c.loop-group.nodes.items in
    let new = c.put_row.new.nodes.items in
    let put : new ≡ old ++ flat_map operands (rows c.loop-group.group) = c.in_ok-put_row.ensures ∙ ap (λ (l : List Candidate). old ++ flat_map operands l) c.row.ensures in
    record {
      kept = λ k h. kept_more rows operands c.loop-group.group old new put k (i.kept k h);
      whole = whole_more rows operands c.loop-group.group old new put i.whole;
    }

pub returns-clause-kept : goal.returns-clause-kept
returns-clause-kept c = c.loop-group.invariant.kept

pub returns-clause-whole : goal.returns-clause-whole
returns-clause-whole c = whole_all (row c.args.all.now.rows) operands c.loop-group.group c.loop-group.nodes.items (λ j l. c.len-group-end.ensures j (omega arith)) c.loop-group.invariant.whole
