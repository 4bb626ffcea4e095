use Rattle.std.proofs.Common.{◌≡◌, drop}
use Rattle.std.specs.Prelude.{◌==◌}
use Rattle.std.specs.List.{find}
use Rattle.go_interp.proofs.stepping.edge_from.Given as goal

-- no edge so far is the one
abbrev pub invariant-loop-edge : goal.invariant-loop-edge
invariant-loop-edge l =
    find (λ edge. edge.from == l.from) (drop l.edge-index l.edges) ≡ find (λ edge. edge.from == l.from) l.edges
