use Rattle.std.proofs.Common.{◌∙◌, ap, arith}
use Rattle.std.proofs.lemmas.Grind.{common_steps}
use Rattle.go_store.specs.Stores.{made, stored}
use Rattle.go_store.proofs.Held.{bytes_are}
use Rattle.go_store.proofs.Spelled.{makes_bytes}
use Rattle.go_store.proofs.store.Store.slice_of_bytes.Goals as goal

pub returns : goal.returns
returns c =
    makes_bytes (stored c.args.self.now) (stored c.slice_of_array.new.self) c.args.bytes.items _
    (grind (arith, common_steps))
    (c.in_ok-slice_of_array.ensures.ok ∙ ap (made (stored c.args.self.now)) (bytes_are c.args.bytes))
    tt
