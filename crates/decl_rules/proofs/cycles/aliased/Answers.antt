use Rattle.std.proofs.Common.{false}
use Rattle.decl_rules.specs.Cycles.{alias_edges, aliased}
use Rattle.decl_rules.proofs.Loops.{some_more}
use Rattle.decl_rules.proofs.cycles.aliased.Goals as goal

pub loop-tie-preserved : goal.loop-tie-preserved
loop-tie-preserved c =
    some_more (alias_edges c.args.declared.now) c.args.ties.now c.loop-tie.tie-index (record { owner = 0; target = 0; embedded = false }) c.loop-tie.edges.items c.add_alias.new.edges.items (aliased c.args.declared.now c.args.ties.now)
    c.loop-tie-test.true c.in_ok-add_alias.ensures c.loop-tie.invariant
