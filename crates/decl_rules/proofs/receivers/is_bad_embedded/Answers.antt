use Rattle.std.proofs.Common.{◌∙◌, Bool, true, ap, subst, sym, ◌↔◌, ◌≡◌}
use Rattle.decl_rules.specs.Receivers.{IsBadEmbedded, bad_embedded}
use Rattle.decl_rules.proofs.Bases.{embedded_is}
use Rattle.decl_rules.proofs.receivers.is_bad_embedded.Goals as goal

pub returns : goal.returns
returns c = λ are.
    let list = c.args.nodes.now.list in
    subst (λ (b : Bool). (b ≡ true) ↔ IsBadEmbedded list c.args.types.now c.args.name c.args.pointer)
    (sym (c.is_embedded_badly.ensures ∙ ap (bad_embedded list c.args.types.now c.args.pointer) c.under.ensures))
    (embedded_is list c.args.denoting.now are c.args.types.now c.args.name c.args.pointer)
