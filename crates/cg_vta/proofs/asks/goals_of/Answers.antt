use Rattle.std.proofs.Common.{◌∙◌, List, ℕ, subst}
use Rattle.std.proofs.lemmas.List.{take_all}
use Rattle.cg_vta.proofs.Standings.{FoundIn, found_more, found_none}
use Rattle.cg_vta.proofs.asks.goals_of.Goals as goal

pub loop-value-init : goal.loop-value-init
loop-value-init c = λ rows goals. found_none rows c.args.ask.group _ c.new-found.ensures.items

pub loop-value-preserved : goal.loop-value-preserved
loop-value-preserved c = λ rows goals.
    let values = c.row-value-items.result.now in
    let i = c.loop-value.value-index in
    found_more rows c.args.goals.now goals c.args.ask.group values i c.loop-value-test.true c.loop-value.found.items c.put_found.new.found.items c.find.result.now c.in_ok-put_found.ensures (c.find.ensures goals.kept) (c.loop-value.invariant rows goals)

pub returns : goal.returns
returns c = λ rows goals.
    let values = c.row-value-items.result.now in
    subst (λ (l : List ℕ). FoundIn rows c.args.ask.group l c.loop-value.found.items) (take_all c.loop-value.value-index values c.loop-value-test.false ∙ c.row-value-items.ensures) (c.loop-value.invariant rows goals)
