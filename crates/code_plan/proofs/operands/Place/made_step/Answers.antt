use Rattle.code_plan.proofs.Stepped.{stepped}
use Rattle.code_plan.specs.Sites.{site_of}
use Rattle.code_plan.proofs.operands.Place.made_step.Goals as goal

pub returns-in-MakeInterface : goal.returns-in-MakeInterface
returns-in-MakeInterface c =
    stepped (site_of c.args.self.now) c.args.register _ _ c.make_interface.result c.in-MakeInterface.is
    (c.make_interface.ensures c.in-MakeInterface.to)

pub returns-in-MakeMap : goal.returns-in-MakeMap
returns-in-MakeMap c =
    stepped (site_of c.args.self.now) c.args.register _ _ c.make_map.result c.in-MakeMap.is
    (c.make_map.ensures c.in-MakeMap.field-0)
