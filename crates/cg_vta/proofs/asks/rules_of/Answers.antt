use Rattle.std.proofs.Common.{◌<◌, ◌≤◌, arith, length}
use Rattle.cg_solve.specs.Tables.{row}
use Rattle.cg_vta.proofs.Gathering.{answered_all, answered_more, answered_none}
use Rattle.cg_vta.proofs.asks.rules_of.Goals as goal

pub turns-init : goal.turns-init
turns-init c = λ rows goals. answered_none (row c.args.facts.now) rows c.args.nothing c.args.asks.now.list.keys _ c.new-rules.ensures.items

pub turns-preserved : goal.turns-preserved
turns-preserved c = λ rows goals.
    let below : c.turns.number < length c.turns.asks.list.keys = omega arith in
    answered_more (row c.args.facts.now) rows c.args.nothing c.turns.number c.args.asks.now.list.keys c.turns.asks.list.keys c.put_ask.new.asks.list.keys c.turns.rules.items c.put_ask.new.rules.items below (c.in_ok-put_ask.ensures rows goals) (c.turns.invariant rows goals)

pub returns : goal.returns
returns c = λ rows goals.
    let all : length c.turns.asks.list.keys ≤ c.turns.number = omega arith in
    answered_all (row c.args.facts.now) rows c.args.nothing c.turns.number c.args.asks.now.list.keys c.turns.asks.list.keys c.turns.rules.items all (c.turns.invariant rows goals)

pub turns-smaller : goal.turns-smaller
turns-smaller c = omega arith
