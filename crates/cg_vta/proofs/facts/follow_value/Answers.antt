use Rattle.std.proofs.Common.{◌∙◌, sym, subst}
use Rattle.cg_solve.specs.LeastSets.{IsSolved, search_of}
use Rattle.cg_solve.specs.Lists.{Has}
use Rattle.cg_solve.specs.Tables.{row}
use Rattle.cg_vta.proofs.Following.{follows, follows_not}
use Rattle.cg_vta.proofs.facts.follow_value.Goals as goal

pub returns-clause-follows : goal.returns-clause-follows
returns-clause-follows c =
    let rules = c.args.rules.now in
    let seeds = c.args.seeds.now in
    let solved : IsSolved seeds rules (search_of c.solve.new.self) = c.in_ok-solve.ensures in
    follows rules seeds c.args.nodes.now _ c.args.value (row c.args.facts.now) (row c.put_facts.new.facts) c.found.result.now c.in_ok-put_facts.ensures
    (λ k h. (solved.exact k).0 (solved.only k (subst (λ l. Has l k) c.found.ensures h)))
    (λ k d. subst (λ l. Has l k) (sym c.found.ensures) (solved.listed k ((solved.exact k).1 d)))

pub returns-then-not-is_marked-clause-follows : goal.returns-then-not-is_marked-clause-follows
returns-then-not-is_marked-clause-follows c = follows_not c.args.rules.now c.args.seeds.now c.args.nodes.now _ c.args.value (row c.args.facts.now) (sym c.is_marked.ensures ∙ c.if-not-is_marked.true)
