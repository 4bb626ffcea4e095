use Rattle.std.proofs.Common.{subst}
use Rattle.std.specs.List.{IsDistinct}
use Rattle.go_type.specs.Table.{Table, same_term}
use Rattle.go_type.proofs.IdenticalTypes.{identical_iff}
use Rattle.go_type.proofs.types.identical.Goals as goal

pub returns : goal.returns
returns c =
    let distinct = subst (λ (t : Table). IsDistinct same_term t.terms) c.types.view_is c.types.invariant.distinct in
    identical_iff c.args.types.now distinct c.args.a c.args.b c.eq.result c.eq.ensures
