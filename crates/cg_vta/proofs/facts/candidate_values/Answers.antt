use Rattle.std.proofs.Common.{◌≡◌, ◌∙◌, ◌++◌, List, ap, arith, flat_map, inl}
use Rattle.cg_solve.specs.Tables.{row}
use Rattle.cg_sets.specs.declared.candidates.Candidate.{Candidate}
use Rattle.cg_vta.specs.Facts.{value_in}
use Rattle.cg_vta.proofs.Rowed.{whole_all, whole_more, whole_none}
use Rattle.cg_vta.proofs.facts.candidate_values.Goals as goal

pub loop-group-init : goal.loop-group-init
loop-group-init c = whole_none (row c.args.all.now.rows) value_in _

pub loop-group-preserved : goal.loop-group-preserved
loop-group-preserved c =
    let rows = row c.args.all.now.rows in
    let old = c.loop-group.values.items in
    let new = c.put_values.new.values.items in
    let put : new ≡ old ++ flat_map value_in (rows c.loop-group.group) = c.in_ok-put_values.ensures ∙ ap (λ (l : List Candidate). old ++ flat_map value_in l) c.row.ensures in
    whole_more rows value_in c.loop-group.group old new put c.loop-group.invariant

pub returns : goal.returns
returns c = λ w h. whole_all (row c.args.all.now.rows) value_in c.loop-group.group c.loop-group.values.items (λ j l. c.len-group-end.ensures j (omega arith)) c.loop-group.invariant h.0 h.1 w h.2 (inl h.3)
