use Rattle.code_plan.proofs.Stepped.{stepped}
use Rattle.code_plan.specs.Sites.{site_of}
use Rattle.code_plan.proofs.operands.Place.step.Goals as goal

pub returns-in-Store : goal.returns-in-Store
returns-in-Store c =
    stepped (site_of c.args.self.now) c.args.register _ _ c.store.result c.in-Store.is
    (c.store.ensures c.args.register)

pub returns-in-Update : goal.returns-in-Update
returns-in-Update c =
    stepped (site_of c.args.self.now) c.args.register _ _ c.update.result c.in-Update.is
    (c.update.ensures c.args.register)

pub returns-in-Go : goal.returns-in-Go
returns-in-Go c =
    stepped (site_of c.args.self.now) c.args.register _ _ c.go.result c.in-Go.is
    (c.go.ensures c.args.register)

pub returns-in-Defer : goal.returns-in-Defer
returns-in-Defer c =
    stepped (site_of c.args.self.now) c.args.register _ _ c.defer.result c.in-Defer.is
    (c.defer.ensures c.args.register)

pub returns-in-Send : goal.returns-in-Send
returns-in-Send c =
    stepped (site_of c.args.self.now) c.args.register _ _ c.send.result c.in-Send.is
    (c.send.ensures c.args.register)

pub returns-in-Jump : goal.returns-in-Jump
returns-in-Jump c =
    stepped (site_of c.args.self.now) c.args.register _ _ c.jump.result c.in-Jump.is
    (c.jump.ensures c.args.register)

pub returns-in-If : goal.returns-in-If
returns-in-If c =
    stepped (site_of c.args.self.now) c.args.register _ _ c.branch-self.result c.in-If.is
    (c.branch-self.ensures c.args.register)
