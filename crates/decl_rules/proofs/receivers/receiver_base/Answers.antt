use Rattle.std.proofs.Common.{Some, subst, sym, ◌↔◌, ◌≡◌, Option}
use Rattle.decl_rules.specs.declared.receivers.Receiver.{Receiver}
use Rattle.decl_rules.specs.Receivers.{IsBase}
use Rattle.decl_rules.proofs.Bases.{base_is}
use Rattle.decl_rules.proofs.receivers.receiver_base.Goals as goal

pub returns : goal.returns
returns c = λ are r.
    let list = c.args.nodes.now.list in
    subst (λ (o : Option Receiver). (o ≡ Some r) ↔ IsBase list c.args.form r) (sym c.found_base.ensures) (base_is list c.args.denoting.now are c.args.form r)
