use Rattle.std.proofs.Common.{[], ◌∙◌, ap, sym, Option, List, unwrap_or}
use Rattle.go_value.specs.Values.{Val}
use Rattle.go_store.specs.Arrays.{with_elements}
use Rattle.go_store.specs.Cells.{held}
use Rattle.go_store.specs.Stores.{stored}
use Rattle.go_store.proofs.Appended.{no_elements}
use Rattle.go_store.proofs.Lengthened.{no_more}
use Rattle.go_store.proofs.store.Store.push_slice.Goals as goal

pub returns-then-slice-eq0-clause-ok : goal.returns-then-slice-eq0-clause-ok
returns-then-slice-eq0-clause-ok c =
    sym (ap (λ (o : Option (List Val)). with_elements (unwrap_or o []) (held c.args.array.now)) (no_elements (stored c.args.self.now) c.args.slice.now c.if-slice-eq0.true) ∙ no_more (held c.args.array.now))
