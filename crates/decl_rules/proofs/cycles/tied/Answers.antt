use Rattle.std.proofs.Common.{false}
use Rattle.decl_rules.specs.Cycles.{tie_edges, tied}
use Rattle.decl_rules.proofs.Loops.{some_more}
use Rattle.decl_rules.proofs.cycles.tied.Goals as goal

pub loop-tie-preserved : goal.loop-tie-preserved
loop-tie-preserved c =
    some_more (tie_edges c.args.declared.now c.args.facts.now) c.args.ties.now c.loop-tie.tie-index (record { owner = 0; target = 0; embedded = false }) c.loop-tie.edges.items c.add_tie.new.edges.items
    (tied c.args.declared.now c.args.ties.now c.args.facts.now) c.loop-tie-test.true c.in_ok-add_tie.ensures c.loop-tie.invariant
