use Rattle.std.proofs.Common.{◌<◌, ◌≤◌, ap, arith, length, refl}
use Rattle.cg_numbers.specs.declared.numbers.Numbers.{Numbers}
use Rattle.cg_numbers.proofs.Collecting.{extends_on, extends_self}
use Rattle.cg_solve.specs.Tables.{row}
use Rattle.cg_vta.proofs.Streams.{same_on, stations_all, stations_more, stations_none}
use Rattle.cg_vta.proofs.passing.put_stations.Goals as goal

pub stations-init : goal.stations-init
stations-init c = record { extends = extends_self c.args.numbers.now; same = refl; puts = stations_none (row c.args.all.now.rows) c.args.called.now c.args.numbers.now c.args.rules.now.items }

pub stations-preserved : goal.stations-preserved
stations-preserved c =
    let i = c.stations.invariant in
    let m = c.stations.numbers in
    let n = c.put_station.new.numbers in
    let put = c.in_ok-put_station.ensures in
    let below : c.stations.number < length m.nodes.keys = omega arith in
    record {
      extends = extends_on i.extends put.extends;
      same = same_on c.args.numbers.now m n i.same put.same;
      puts = stations_more (row c.args.all.now.rows) c.args.called.now m n c.stations.number c.args.rules.now.items c.stations.rules.items c.put_station.new.rules.items put.extends (ap (λ (x : Numbers). x.groups) put.same) below put.puts i.puts;
    }

pub stations-smaller : goal.stations-smaller
stations-smaller c = omega arith

pub returns-clause-puts : goal.returns-clause-puts
returns-clause-puts c =
    let n = c.stations.numbers in
    let all : length n.nodes.keys ≤ c.stations.number = omega arith in
    stations_all (row c.args.all.now.rows) c.args.called.now n c.stations.number c.args.rules.now.items c.stations.rules.items all c.stations.invariant.puts
