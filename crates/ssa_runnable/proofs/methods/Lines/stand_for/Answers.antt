use Rattle.std.proofs.Common.{List, refl, subst}
use Rattle.std.specs.List.{All}
use Rattle.std.proofs.lemmas.List.{take_all}
use Rattle.std.proofs.lemmas.List.Elements.{All-more}
use Rattle.go_base.specs.declared.ids.TypeId.{TypeId}
use Rattle.ssa_runnable.specs.Methods.{HasAll}
use Rattle.ssa_runnable.proofs.methods.Lines.stand_for.Goals as goal

pub loop-of-preserved : goal.loop-of-preserved
loop-of-preserved c =
    All-more (HasAll c.args.self.now.code.now c.args.interface c.args.methods.now) c.args.types.now c.loop-of.of-index _
    c.loop-of-test.true c.loop-of.invariant (c.stands_for.ensures.0 c.if-not-stands_for.false)

pub returns : goal.returns
returns c = (
  λ h. subst (λ (l : List TypeId). All (HasAll c.args.self.now.code.now c.args.interface c.args.methods.now) l)
      (take_all c.loop-of.of-index c.args.types.now c.loop-of-test.false) c.loop-of.invariant,
  λ all. refl,
)
