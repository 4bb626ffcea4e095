use Rattle.std.proofs.Common.{refl}
use Rattle.cg_numbers.proofs.Collecting.{adds_call}
use Rattle.cg_numbers.proofs.sites.Sites.add_call.Goals as goal

pub returns : goal.returns
returns c =
    adds_call c.args.self.now _ c.args.function c.args.at c.args.called c.in_ok-call.call c.in_ok-call.ensures.extends c.in_ok-call.ensures.values c.in_ok-call.ensures.ok c.in_ok-push.ensures.items refl refl
