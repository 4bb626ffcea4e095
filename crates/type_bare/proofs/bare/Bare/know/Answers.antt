use Rattle.std.proofs.Common.{arith}
use Rattle.go_type.proofs.Growing.{grows_on}
use Rattle.type_bare.proofs.Known.{keeps_on, definitions_on}
use Rattle.type_bare.proofs.bare.Bare.know.Goals as goal

pub returns-in_err-add-clause-grows : goal.returns-in_err-add-clause-grows
returns-in_err-add-clause-grows c = grows_on _ _ _ c.loop-place.invariant.grows c.add.ensures.grows

pub loop-place-preserved : goal.loop-place-preserved
loop-place-preserved c =
    let before = c.loop-place.invariant in
    let added = c.in_ok-add.ensures in
    record {
      count = omega (arith, before.count, added.ok);
      known = λ known. added.known (before.known known);
      keeps = keeps_on c.args.self.now c.loop-place.self c.add.new.self before.keeps added.keeps;
      grows = grows_on c.args.types.now c.loop-place.types c.add.new.types before.grows added.grows;
      definitions = definitions_on c.args.types.now c.loop-place.types c.add.new.types before.definitions added.definitions;
    }
