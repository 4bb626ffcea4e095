use Rattle.std.proofs.Common.{sym, true≢false, arith}
use Rattle.import_graph.proofs.Leading.{never_lower}
use Rattle.import_graph.proofs.cycles.is_on_cycle.Goals as goal

pub returns-then-rank_of : goal.returns-then-rank_of
returns-then-rank_of c = (
  λ never. absurd (true≢false (sym never)),
  λ way. absurd (omega (arith, never_lower c.args.ranks.now c.args.edges.now c.requires.ordered c.args.edge.to c.args.edge.from way)),
)
