use Rattle.std.proofs.Common.{sym, ap, ◌∙◌, append-nil, ◌++◌, Option}
use Rattle.std.proofs.lemmas.Result.{IfOk-equal}
use Rattle.go_tree.specs.declared.functions.FunctionDecl.{FunctionDecl}
use Rattle.cg_uses.specs.Bodies.{declared_uses, uses}
use Rattle.cg_uses.specs.Statements.{uses_in_some}
use Rattle.cg_uses.proofs.GetsAt.{none_at, some_at}
use Rattle.cg_uses.proofs.bodies.in_function.Goals as goal

pub returns-in-Some : goal.returns-in-Some
unfolding uses
returns-in-Some c =
    let found = some_at c.as_slice.result.now c.args.program.now.functions c.args.function.number c.in-Some.decl.now c.as_slice.ensures c.in-Some.ensures.lookup.3.0 c.in-Some.ensures.lookup.1 in
    IfOk-equal _ _ _ _ c.in_declared.ensures (sym (ap (λ (decl : Option FunctionDecl). c.args.out.now.items ++ uses_in_some (declared_uses c.args.program.now c.args.function) decl) found))

pub returns-in-None : goal.returns-in-None
unfolding uses
returns-in-None c =
    let none = none_at c.as_slice.result.now c.args.program.now.functions c.args.function.number c.as_slice.ensures c.in-None.ensures.lookup.3 in
    sym (ap (λ (decl : Option FunctionDecl). c.args.out.now.items ++ uses_in_some (declared_uses c.args.program.now c.args.function) decl) none ∙ append-nil c.args.out.now.items)
