use Rattle.std.proofs.Common.{◌≡◌, ◌<◌, ◌+◌, ℕ, [], take, slice_index, vec_len}
use Rattle.init_order.specs.Groups.{waits}
use Rattle.init_order.proofs.edges.counts_of.Given as goal

abbrev pub invariant-loop-edge : goal.invariant-loop-edge
invariant-loop-edge l = record {
  size : vec_len l.counts ≡ l.count;
  so_far : (g : ℕ) → g < l.count → slice_index l.counts.items g ≡ waits (take l.edge-index l.edges) [] g + 1;
}
