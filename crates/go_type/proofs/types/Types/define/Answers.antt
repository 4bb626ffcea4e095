use Rattle.std.proofs.Common.{sym, subst}
use Rattle.go_type.specs.Held.{IsHeld}
use Rattle.go_type.proofs.Kept.{writes_underlying, held_underlying}
use Rattle.go_type.proofs.types.Types.define.Goals as goal

pub invariant_of-self : goal.invariant_of-self
invariant_of-self c =
    subst IsHeld (sym (writes_underlying _ c.args.self.now c.self.view_is c.self.invariant c.args.id c.args.underlying c.index_mut-definition.result.now c.requires (λ h. c.index_mut-definition.ensures.value)))
    (held_underlying _ c.args.self.now c.self.view_is c.self.invariant c.args.id c.args.underlying c.requires)

pub returns : goal.returns
returns c = writes_underlying _ c.args.self.now c.self.view_is c.self.invariant c.args.id c.args.underlying c.index_mut-definition.result.now c.requires (λ h. c.index_mut-definition.ensures.value)
