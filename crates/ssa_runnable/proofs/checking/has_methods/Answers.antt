use Rattle.std.proofs.Common.{subst, sym, ◌∙◌, List}
use Rattle.go_base.specs.declared.ids.TypeId.{TypeId}
use Rattle.ssa_runnable.specs.Methods.{AllHave}
use Rattle.ssa_runnable.proofs.Runnable.{methods_back, methods_stand}
use Rattle.ssa_runnable.proofs.checking.has_methods.Goals as goal

pub returns : goal.returns
returns c =
    let code = c.args.code.now in
    let is = c.as_slice.ensures.value ∙ c.in_ok-boxed.ensures in (
      λ h. methods_stand code c.as_slice.result.now c.in_ok-types.types.keys is c.in_ok-types.ensures.all
          (subst (λ (l : List TypeId). (of : TypeId) → AllHave code l of) c.as_slice-2.ensures.keys
          (c.stand_everywhere.ensures.0 h)),
      λ has. c.stand_everywhere.ensures.1
          (subst (λ (l : List TypeId). (of : TypeId) → AllHave code l of) (sym c.as_slice-2.ensures.keys)
          (methods_back code c.as_slice.result.now c.in_ok-types.types.keys is c.in_ok-types.ensures.only has)),
    )
