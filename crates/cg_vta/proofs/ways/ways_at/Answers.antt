use Rattle.cg_solve.specs.Tables.{row}
use Rattle.cg_vta.proofs.Streams.{ways_none, ways_some}
use Rattle.cg_vta.proofs.ways.ways_at.Goals as goal

pub returns-in_default : goal.returns-in_default
returns-in_default c = ways_none c.args.numbers.now.groups.keys (row c.args.all.now.rows) c.args.called.now c.args.node _ c.new.ensures.items (c.called_at.ensures.none c.in_default.is)

pub returns : goal.returns
returns c =
    ways_some c.args.numbers.now.groups.keys (row c.args.all.now.rows) c.args.called.now c.args.node c.laws.ensures.groups c.in-Some.group c.in-Some.ensures.some c.groups.result.now c.row.result.now c.in_ok-ways.ways.items c.groups.ensures c.row.ensures c.in_ok-ways.ensures
