use Rattle.go_type.proofs.Kept.{held_either, writes_either}
use Rattle.go_type.proofs.types.Types.add_method.Goals as goal

pub invariant_of-self : goal.invariant_of-self
invariant_of-self c =
    held_either _ c.args.self.now c.self.view_is c.self.invariant c.args.id c.args.method c.index_mut-definition.result.now c.push.new.self c.push.result c.requires c.index_mut-definition.ensures.value c.push.ensures.ok c.push.ensures.err

pub returns-clause-ok : goal.returns-clause-ok
returns-clause-ok c =
    writes_either _ c.args.self.now c.self.view_is c.self.invariant c.args.id c.args.method c.index_mut-definition.result.now c.push.new.self c.push.result c.requires c.index_mut-definition.ensures.value c.push.ensures.ok
