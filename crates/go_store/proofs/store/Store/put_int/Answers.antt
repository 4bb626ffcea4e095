use Rattle.std.proofs.Common.{◌≡◌, subst, OnOk}
use Rattle.std.specs.Int.{w128}
use Rattle.std.proofs.lemmas.Int.{to_z-of_z}
use Rattle.go_value.specs.Values.{number}
use Rattle.go_store.specs.Stores.{stored, put_in}
use Rattle.go_store.proofs.store.Store.put_int.Goals as goal

pub returns-clause-ok : goal.returns-clause-ok
returns-clause-ok c =
    subst (λ n. OnOk c.put.result (stored c.put.new.self ≡ put_in (number n) (stored c.args.self.now) c.args.at.now))
    (to_z-of_z w128 c.args.value c.ranges.value)
    c.put.ensures.ok
