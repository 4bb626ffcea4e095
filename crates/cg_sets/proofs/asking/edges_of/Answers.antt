use Rattle.std.proofs.Common.{sym, subst}
use Rattle.std.proofs.lemmas.Result.{IfOk-weaker}
use Rattle.cg_solve.specs.Lists.{Has}
use Rattle.cg_solve.specs.Tables.{row}
use Rattle.cg_solve.proofs.Members.{Has-Contains, Contains-Has}
use Rattle.cg_sets.proofs.Questions.{has_edge, edge_given}
use Rattle.cg_sets.proofs.asking.edges_of.Goals as goal

pub returns-clause-members : goal.returns-clause-members
returns-clause-members c =
    let rules = c.args.rules.now in
    let questions = c.args.questions.now in
    let given = row c.in_ok-given.given in
    let items = c.in_ok-edges.edges.items in
    IfOk-weaker c.in_order.result _ _
    (λ found both e. (
      λ h. has_edge rules given questions e c.in_ok-given.ensures.sound (subst (λ l. Has l e) c.in_ok-edges.ensures (Contains-Has items e ((both e).0 h))),
      λ h. (both e).1 (Has-Contains items e (subst (λ l. Has l e) (sym c.in_ok-edges.ensures) (edge_given rules given questions e c.in_ok-given.ensures.whole h))),
    ))
    c.in_order.ensures.members
