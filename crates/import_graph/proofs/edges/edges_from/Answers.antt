use Rattle.std.proofs.Common.{◌≡◌, ◌-◌, List, length, take, drop, ltb, leb, sym, subst, rules}
use Rattle.std.specs.List.Sorted.{IsNonDecreasingBy}
use Rattle.std.proofs.lemmas.List.{take_rest}
use Rattle.std.proofs.lemmas.List.Sorted.{IsPartitionPoint-from_clause, IsPartitionedBy-ltb, IsPartitionedBy-leb, IsNonDecreasingBy-drop}
use Rattle.import_graph.specs.declared.edges.Edge.{Edge}
use Rattle.import_graph.proofs.EdgesOfNode.{all_of_node}
use Rattle.import_graph.proofs.edges.edges_from.Goals as goal

pub returns : goal.returns
returns c =
    let edges = c.args.edges.now in
    let first = c.partition_point-first.result in
    let starts = IsPartitionPoint-from_clause (λ edge. ltb edge.from c.args.node) edges _ c.partition_point-first.ensures.partitioned (IsPartitionedBy-ltb (λ edge. edge.from) edges c.args.node c.requires) (λ a r q k. search rules) in
    let is_rest : take (length edges - first) (drop first edges) ≡ drop first edges = take_rest edges first in
    let ascend = subst (λ (l : List Edge). IsNonDecreasingBy (λ edge. edge.from) l) (sym is_rest) (IsNonDecreasingBy-drop (λ edge. edge.from) first edges c.requires) in
    let stops = IsPartitionPoint-from_clause (λ edge. leb edge.from c.args.node) _ _ c.partition_point-count.ensures.partitioned (IsPartitionedBy-leb (λ edge. edge.from) _ c.args.node ascend) (λ a r q k. search rules) in
    all_of_node edges c.args.node first _ _ is_rest c.partition_point-first.ensures.bound c.partition_point-count.ensures.bound starts stops
