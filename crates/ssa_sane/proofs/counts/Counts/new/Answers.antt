use Rattle.std.proofs.Common.{◌≡◌, ◌∷◌, ◌<◌, ◌^◌, List, subst, ap, length, arith}
use Rattle.std.specs.BTreeMap.{values}
use Rattle.ssa_sane.specs.Counts.{AreCountsBut}
use Rattle.ssa_sane.specs.declared.homes.Home.{Home}
use Rattle.ssa_sane.proofs.Counted.{counts_step, own_small, others_small}
use Rattle.ssa_sane.proofs.counts.Counts.new.Goals as goal

pub add-requires-clause-own : goal.add-requires-clause-own
add-requires-clause-own c =
    let all = values c.args.homes.now.map in
    let small : length all < 2 ^ 63 = (let f = c.values-home-items.ensures.fits in let l = c.values-home-items.ensures.len in let r = ap length c.values-home-items.ensures.rest in omega arith) in
    own_small c.args.homes.now.lacking.items all c.loop-home.home-iterator c.args.blocks c.loop-home.counts c.loop-home.invariant small

pub add-requires-clause-others : goal.add-requires-clause-others
add-requires-clause-others c =
    let all = values c.args.homes.now.map in
    let small : length all < 2 ^ 63 = (let f = c.values-home-items.ensures.fits in let l = c.values-home-items.ensures.len in let r = ap length c.values-home-items.ensures.rest in omega arith) in
    others_small c.args.homes.now.lacking.items all c.loop-home.home-iterator c.args.blocks c.loop-home.counts c.loop-home.invariant small

pub loop-home-preserved : goal.loop-home-preserved
loop-home-preserved c =
    let all = values c.args.homes.now.map in
    let rest : c.loop-home.home-iterator ≡ c.in-Some.home.now ∷ c.next.new.self = c.in-Some.ensures.steps in
    counts_step c.args.homes.now.lacking.items all c.next.new.self c.in-Some.home.now c.args.blocks c.loop-home.counts c.add.new.self
    (subst (λ (l : List Home). AreCountsBut c.args.homes.now.lacking.items all l c.args.blocks c.loop-home.counts) rest c.loop-home.invariant) c.add.ensures
