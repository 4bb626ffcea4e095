use Rattle.std.proofs.Common.{refl, ap}
use Rattle.cg_numbers.specs.declared.numbers.Numbers.{Numbers}
use Rattle.cg_numbers.proofs.Collecting.{adds_seed}
use Rattle.cg_numbers.proofs.sites.Sites.add_seed.Goals as goal

pub returns : goal.returns
returns c =
    adds_seed c.args.self.now _ c.node.new.self c.in_ok-node.ensures.extends (ap (λ (n : Numbers). n.values) c.node.ensures.same) c.in_ok-value.ensures.extends c.args.function c.args.value _ _
    c.in_ok-node.ensures.ok c.in_ok-value.ensures.ok c.in_ok-value.ensures.only c.in_ok-push.ensures.items refl refl
