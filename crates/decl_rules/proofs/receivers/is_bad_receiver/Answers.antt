use Rattle.std.proofs.Common.{Bool, true, subst, sym, ◌↔◌, ◌≡◌}
use Rattle.decl_rules.specs.Receivers.{IsBadReceiver}
use Rattle.decl_rules.proofs.Bases.{receiver_is}
use Rattle.decl_rules.proofs.receivers.is_bad_receiver.Goals as goal

pub returns : goal.returns
returns c = λ are.
    let list = c.args.nodes.now.list in
    subst (λ (b : Bool). (b ≡ true) ↔ IsBadReceiver list c.args.types.now c.args.receiver c.args.form) (sym c.is_bad.ensures)
    (receiver_is list c.args.denoting.now are c.args.types.now c.args.receiver c.args.form)
