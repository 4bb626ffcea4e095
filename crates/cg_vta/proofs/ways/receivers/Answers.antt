use Rattle.std.proofs.Common.{◌∙◌, ◌++◌, List, ap, flat_map, arith}
use Rattle.cg_solve.specs.Tables.{row}
use Rattle.cg_sets.specs.declared.candidates.Candidate.{Candidate}
use Rattle.cg_vta.specs.Passing.{receiver_of, receiver_way}
use Rattle.cg_vta.specs.Rows.{called_row}
use Rattle.cg_vta.proofs.Rowed.{below_all, below_more, below_none, called_none}
use Rattle.cg_vta.proofs.ways.receivers.Goals as goal

pub loop-group-init : goal.loop-group-init
loop-group-init c = below_none (called_row c.args.called.now (row c.args.all.now.rows)) (receiver_way c.args.nodes.now) _ c.new-ways.ensures.items

pub loop-group-preserved : goal.loop-group-preserved
loop-group-preserved c =
    let rows = called_row c.args.called.now (row c.args.all.now.rows) in
    let nodes = c.args.nodes.now in
    let k = c.loop-group.group in
    below_more rows (receiver_way nodes) k c.loop-group.ways.items c.put_receivers.new.ways.items (c.in_ok-put_receivers.ensures ∙ ap (λ (l : List Candidate). c.loop-group.ways.items ++ flat_map (receiver_of nodes) l) c.called_row.ensures) c.loop-group.invariant

pub returns : goal.returns
returns c =
    let rows = row c.args.all.now.rows in
    let called = c.args.called.now in
    below_all (called_row called rows) (receiver_way c.args.nodes.now) c.loop-group.group c.loop-group.ways.items (λ j l. called_none called rows j (c.len-group-end.ensures j (omega arith))) c.loop-group.invariant
