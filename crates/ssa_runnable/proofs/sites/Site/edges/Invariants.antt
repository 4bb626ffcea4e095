use Rattle.std.proofs.Common.{◌≡◌, true, take}
use Rattle.std.specs.List.{list_all}
use Rattle.ssa_runnable.specs.Runnable.{has_meaning}
use Rattle.ssa_runnable.proofs.sites.Site.edges.Given as goal

abbrev pub invariant-loop-edge : goal.invariant-loop-edge
invariant-loop-edge l = list_all (λ edge. has_meaning l.self.code.now edge.value) (take l.edge-index l.edges) ≡ true
