use Rattle.std.proofs.Common.{◌≡◌, ◌<◌, ℕ, length, map}
use Rattle.go_graph.specs.Graph.{next}
use Rattle.decl_rules.specs.Denoting.{step_at, targets_of}
use Rattle.decl_rules.proofs.denoting.leading.Given as goal

abbrev pub invariant-loop-number : goal.invariant-loop-number
invariant-loop-number l = record {
  size : length l.graph.items ≡ l.number;
  rows : (x : ℕ) → x < l.number → next (map (λ r. r.items) l.graph.items) x ≡ targets_of (step_at l.nodes.list l.through x);
}
