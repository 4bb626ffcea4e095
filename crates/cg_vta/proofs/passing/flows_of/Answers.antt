use Rattle.std.proofs.Common.{List, ap, subst}
use Rattle.cg_nodes.specs.declared.nodes.Node.{Node}
use Rattle.cg_numbers.specs.declared.numbers.Numbers.{Numbers}
use Rattle.cg_numbers.proofs.Collecting.{extends_on}
use Rattle.cg_solve.specs.Tables.{row}
use Rattle.cg_vta.specs.Passing.{PutsWays, receiver_way}
use Rattle.cg_vta.specs.Rows.{AreOf, called_row}
use Rattle.cg_vta.specs.declared.ways.Way.{Way}
use Rattle.cg_vta.proofs.Streams.{all_streams, same_on}
use Rattle.cg_vta.proofs.passing.flows_of.Goals as goal

pub returns-clause-flows : goal.returns-clause-flows
returns-clause-flows c = λ p met answers called.
    let m = c.args.numbers.now in
    let mid = c.put_ways.new.numbers in
    let n = c.put_stations.new.numbers in
    let rows = row c.args.all.now.rows in
    let given = c.in_ok-given.given.items in
    let first = c.in_ok-put_ways.ensures in
    let last = c.in_ok-put_stations.ensures in
    let puts : PutsWays mid given c.in_ok-rules.rules.items c.put_ways.new.rules.items = subst (λ (l : List Way). PutsWays mid l c.in_ok-rules.rules.items c.put_ways.new.rules.items) c.as_slice-2.ensures.value first.puts in
    let are : AreOf (called_row c.args.called.now rows) (receiver_way m.nodes.keys) given = subst (λ (l : List Node). AreOf (called_row c.args.called.now rows) (receiver_way l) given) c.as_slice.ensures.keys c.in_ok-given.ensures in
    all_streams p m mid n rows c.args.called.now c.args.flows.now given c.in_ok-rules.rules.items c.put_ways.new.rules.items c.put_stations.new.rules.items met answers called first.extends last.extends
    (ap (λ (x : Numbers). x.groups) first.same) (ap (λ (x : Numbers). x.groups) last.same) c.in_ok-rules.ensures are puts last.puts

pub returns-clause-extends : goal.returns-clause-extends
returns-clause-extends c = extends_on c.in_ok-put_ways.ensures.extends c.in_ok-put_stations.ensures.extends

pub returns-clause-same : goal.returns-clause-same
returns-clause-same c = same_on c.args.numbers.now c.put_ways.new.numbers c.put_stations.new.numbers c.in_ok-put_ways.ensures.same c.in_ok-put_stations.ensures.same
