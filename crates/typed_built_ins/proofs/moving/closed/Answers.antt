use Rattle.std.proofs.Common.{sym}
use Rattle.go_type.specs.Assignable.{underlying_term_of}
use Rattle.go_type.specs.Table.{Table}
use Rattle.typed_built_ins.specs.Moving.{closed_term}
use Rattle.typed_built_ins.proofs.moving.closed.Goals as goal

pub returns : goal.returns
returns c =
    c.of_value.ensures (λ (types : Table). closed_term (underlying_term_of types c.args.x.expr.of)) (sym c.takes_close-takes.ensures)
