use Rattle.std.proofs.Common.{Err, subst}
use Rattle.go_type.specs.declared.methods.SelectError.{SelectError}
use Rattle.go_type.specs.Selector.{Finds}
use Rattle.go_type.proofs.sights.sight_of.Goals as goal

pub returns-in-Err-Ambiguous : goal.returns-in-Err-Ambiguous
returns-in-Err-Ambiguous c =
    (c.in-Err-Ambiguous.field-0-0, (c.in-Err-Ambiguous.field-0-1, subst (λ (e : SelectError). Finds c.args.types.now c.args.wanted c.args.a (Err e)) c.in-Err-Ambiguous.field-0-is c.in-Err-Ambiguous.ensures))
