use Rattle.std.proofs.Common.{List, refl, subst}
use Rattle.std.proofs.lemmas.List.{take_all}
use Rattle.cg_vta.specs.declared.ways.Way.{Way}
use Rattle.cg_nodes.specs.declared.nodes.Node.TheVariants as node_of
use Rattle.cg_numbers.proofs.Collecting.{extends_on, extends_self}
use Rattle.cg_vta.specs.Passing.{PutsWays, way}
use Rattle.cg_vta.proofs.Streams.{puts_more, puts_none, same_on}
use Rattle.cg_vta.proofs.passing.put_ways.Goals as goal

pub loop-way-init : goal.loop-way-init
loop-way-init c = record { extends = extends_self c.args.numbers.now; same = refl; puts = puts_none c.args.numbers.now c.args.rules.now.items }

pub loop-way-preserved : goal.loop-way-preserved
loop-way-preserved c =
    let i = c.loop-way.invariant in
    let m = c.loop-way.numbers in
    let n = c.put_way.new.numbers in
    let put = c.in_ok-put_way.ensures in
    record {
      extends = extends_on i.extends put.extends;
      same = same_on c.args.numbers.now m n i.same put.same;
      puts = puts_more m n c.args.ways.now c.loop-way.way-index (way node_of.Nothing node_of.Nothing) c.args.rules.now.items c.loop-way.rules.items c.put_way.new.rules.items put.extends c.loop-way-test.true put.puts i.puts;
    }

pub returns-clause-puts : goal.returns-clause-puts
returns-clause-puts c =
    subst (λ (l : List Way). PutsWays c.loop-way.numbers l c.args.rules.now.items c.loop-way.rules.items) (take_all c.loop-way.way-index c.args.ways.now c.loop-way-test.false) c.loop-way.invariant.puts
