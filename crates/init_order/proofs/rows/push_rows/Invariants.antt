use Rattle.std.proofs.Common.{◌≡◌, ◌++◌, [], map, replicate}
use Rattle.init_order.proofs.rows.push_rows.Given as goal

abbrev pub invariant-loop-made : goal.invariant-loop-made
invariant-loop-made l = map (λ r. r.items) l.rows.items ≡ map (λ r. r.items) l.fn.rows.items ++ replicate l.made []
