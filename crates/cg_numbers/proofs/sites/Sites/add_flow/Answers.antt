use Rattle.std.proofs.Common.{refl, ap}
use Rattle.cg_numbers.specs.declared.numbers.Numbers.{Numbers}
use Rattle.cg_numbers.proofs.Collecting.{adds_flow}
use Rattle.cg_numbers.proofs.sites.Sites.add_flow.Goals as goal

pub returns : goal.returns
returns c =
    adds_flow c.args.self.now _ c.node.new.self c.in_ok-from.ensures.extends (ap (λ (n : Numbers). n.values) c.node.ensures.same) c.in_ok-to.ensures.extends c.args.from c.args.to _ _
    (ap (λ (n : Numbers). n.values) c.node-2.ensures.same) c.in_ok-from.ensures.ok c.in_ok-to.ensures.ok c.in_ok-push.ensures.items refl refl
