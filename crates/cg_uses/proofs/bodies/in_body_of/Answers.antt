use Rattle.std.proofs.Common.{sym, ap, ◌∙◌, append-nil, ◌++◌, Option}
use Rattle.go_tree.specs.declared.program.Body.{Body}
use Rattle.cg_uses.specs.Bodies.{uses_if_body}
use Rattle.cg_uses.specs.Statements.{uses_in_some}
use Rattle.cg_uses.proofs.GetsAt.{none_at}
use Rattle.cg_uses.proofs.bodies.in_body_of.Goals as goal

pub returns-in-None : goal.returns-in-None
returns-in-None c =
    let none = none_at c.as_slice.result.now c.args.program.now.bodies c.args.function.number c.as_slice.ensures c.in-None.ensures.lookup.3 in
    sym (ap (λ (body : Option (Option Body)). c.args.out.now.items ++ uses_in_some (uses_if_body c.args.program.now c.args.function) body) none ∙ append-nil c.args.out.now.items)
