use Rattle.std.proofs.Common.{◌≤◌, List, length, refl, subst, arith}
use Rattle.std.specs.List.{All}
use Rattle.std.proofs.lemmas.List.{take_all}
use Rattle.std.proofs.lemmas.List.Elements.{All-more}
use Rattle.go_type.specs.declared.term.MethodType.{MethodType}
use Rattle.go_type.specs.Assignable.{HasMethodOf}
use Rattle.go_type.proofs.assigning.has_methods.Goals as goal

pub loop-method-preserved : goal.loop-method-preserved
loop-method-preserved c =
    All-more (HasMethodOf c.args.types.now c.args.a) c.args.methods.now c.loop-method.method-index _ c.loop-method-test.true c.loop-method.invariant (c.has_method.ensures.0 c.if-not-has_method.false)

pub returns : goal.returns
returns c =
    let past : length c.args.methods.now ≤ c.loop-method.method-index = omega arith in (
      λ h. subst (λ (l : List MethodType). All (HasMethodOf c.args.types.now c.args.a) l) (take_all c.loop-method.method-index c.args.methods.now past) c.loop-method.invariant,
      λ all. refl,
    )
