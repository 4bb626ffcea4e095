use Rattle.typed_parts.proofs.Adapts.{assigned_comes, no_type_assigned, no_value_assigned}
use Rattle.typed_parts.proofs.adapting.assigned.Goals as goal

pub returns-in_default : goal.returns-in_default
returns-in_default c =
    no_value_assigned c.args.ground.now c.args.x c.args.to c.in_default.is

pub returns-in-Some-to : goal.returns-in-Some-to
returns-in-Some-to c =
    assigned_comes c.args.ground.now c.assigned_to.new.ground c.args.x c.args.to c.in-Some.x c.in-Some-to.to c.assigned_to.result c.in-Some.is c.in-Some-to.is c.assigned_to.ensures

pub returns-in-None : goal.returns-in-None
returns-in-None c =
    no_type_assigned c.args.ground.now c.args.x c.args.to c.in-Some.x c.in-Some.is c.in-None.is
