use Rattle.std.proofs.Common.{List, ℕ, arith, subst}
use Rattle.cg_solve.specs.LeastSets.{marked}
use Rattle.cg_solve.specs.Tables.{row}
use Rattle.cg_vta.specs.Facts.{Follows}
use Rattle.cg_vta.proofs.Following.{follows_all, follows_more, follows_none}
use Rattle.cg_vta.proofs.facts.follow_values.Goals as goal

pub loop-value-init : goal.loop-value-init
loop-value-init c = record { clear = c.in_ok-search.ensures; follows = follows_none c.args.rules.now (row c.args.seeds.now) c.args.nodes.now c.args.values.now _ c.new-facts.ensures }

pub loop-value-preserved : goal.loop-value-preserved
loop-value-preserved c =
    let i = c.loop-value.invariant in
    let rules = c.args.rules.now in
    let seeds = row c.args.seeds.now in
    let nodes = c.args.nodes.now in
    let values = c.args.values.now in
    let v = c.loop-value.value in
    let old = row c.loop-value.facts in
    let new = row c.follow_value.new.facts in
    let put = c.in_ok-follow_value.ensures in
    record { clear = put.clear; follows = follows_more rules seeds nodes values v old new (subst (λ (l : List ℕ). Follows rules l nodes (marked values v) v old new) c.row-row.ensures put.follows) i.follows }

pub returns : goal.returns
returns c = follows_all c.args.rules.now (row c.args.seeds.now) c.args.nodes.now c.args.values.now c.loop-value.value (row c.loop-value.facts) (λ j l. c.len-value-end.ensures j (omega arith)) c.loop-value.invariant.follows
