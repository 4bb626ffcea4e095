use Rattle.std.proofs.Common.{◌≡◌, map, length}
use Rattle.type_sizes.specs.Nesting.{IsPartGraphTo}
use Rattle.type_sizes.proofs.nesting.add_rows.Given as goal

abbrev pub invariant-places : goal.invariant-places
invariant-places l = record {
  graph : IsPartGraphTo l.types l.fn.id l.reached.keys (map (λ r. r.items) l.graph.items);
  count : length (map (λ r. r.items) l.graph.items) ≡ l.place;
}
