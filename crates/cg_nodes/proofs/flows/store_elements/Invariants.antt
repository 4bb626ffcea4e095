use Rattle.std.proofs.Common.{◌≡◌, drop, ◌++◌}
use Rattle.std.specs.Prelude.{flat_map}
use Rattle.cg_nodes.specs.Uses.{seen_all, stored_elem}
use Rattle.cg_nodes.proofs.flows.store_elements.Given as goal

abbrev pub invariant-loop-item : goal.invariant-loop-item
invariant-loop-item l = l.out.items ++ flat_map (stored_elem l.parts) (seen_all l.types (drop l.item-index l.items)) ≡ l.fn.out.items ++ flat_map (stored_elem l.parts) (seen_all l.types l.items)
