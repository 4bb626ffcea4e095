use Rattle.std.proofs.Common.{refl}
use Rattle.cg_numbers.proofs.Lists.{inserted, continues_self}
use Rattle.cg_numbers.proofs.numbers.Numbers.bare_node.Goals as goal

pub returns-clause-extends : goal.returns-clause-extends
returns-clause-extends c = record {
  likeness = refl;
  nodes = inserted _ _ _ _ c.in_ok-number.ensures.keys;
  values = continues_self c.args.self.now.values.keys;
  groups = continues_self c.args.self.now.groups.keys;
}
