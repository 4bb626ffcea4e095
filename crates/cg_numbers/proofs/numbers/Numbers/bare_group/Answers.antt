use Rattle.std.proofs.Common.{refl}
use Rattle.cg_numbers.proofs.Lists.{inserted, continues_self}
use Rattle.cg_numbers.proofs.numbers.Numbers.bare_group.Goals as goal

pub returns-clause-extends : goal.returns-clause-extends
returns-clause-extends c = record {
  likeness = refl;
  nodes = continues_self c.args.self.now.nodes.keys;
  values = continues_self c.args.self.now.values.keys;
  groups = inserted _ _ _ _ c.in_ok-number.ensures.keys;
}
