use Rattle.std.proofs.Common.{refl}
use Rattle.cg_numbers.proofs.Lists.{inserted, grown_by, continues_self}
use Rattle.cg_numbers.proofs.numbers.Numbers.bare_value.Goals as goal

pub returns-clause-extends : goal.returns-clause-extends
returns-clause-extends c = record {
  likeness = refl;
  nodes = continues_self c.args.self.now.nodes.keys;
  values = inserted _ _ _ _ c.in_ok-number.ensures.keys;
  groups = continues_self c.args.self.now.groups.keys;
}

pub returns-clause-only : goal.returns-clause-only
returns-clause-only c = grown_by _ _ _ _ c.in_ok-number.ensures.keys
