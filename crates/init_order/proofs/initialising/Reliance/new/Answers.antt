use Rattle.std.proofs.Common.{◌+◌, ap}
use Rattle.init_order.specs.Naming.{Naming}
use Rattle.init_order.proofs.RowLaws.{three_parts, is_new_graph}
use Rattle.init_order.proofs.initialising.Reliance.new.Goals as goal

pub invariant_of-result : goal.invariant_of-result
invariant_of-result c =
    is_new_graph _ (c.args.variables + c.args.steps + c.args.functions)
    (three_parts c.new-graph.result.items c.push_rows.new.rows.items c.push_rows-2.new.rows.items c.push_rows-3.new.rows.items c.args.variables c.args.steps c.args.functions c.new-graph.ensures.items c.in_ok-push_rows.ensures c.in_ok-push_rows-2.ensures c.in_ok-push_rows-3.ensures)

pub returns : goal.returns
returns c =
    ap (λ rows. let n : Naming = record { variables = c.args.variables; steps = c.args.steps; functions = c.args.functions; rows = rows } in n)
    (three_parts c.new-graph.result.items c.push_rows.new.rows.items c.push_rows-2.new.rows.items c.push_rows-3.new.rows.items c.args.variables c.args.steps c.args.functions c.new-graph.ensures.items c.in_ok-push_rows.ensures c.in_ok-push_rows-2.ensures c.in_ok-push_rows-3.ensures)
