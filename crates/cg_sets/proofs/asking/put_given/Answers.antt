use Rattle.std.proofs.Common.{◌≡◌, ◌∷◌, [], ◌∙◌, ap, sym, subst, ℕ, List}
use Rattle.cg_solve.specs.LeastSets.{Derives, IsSolved, search_of}
use Rattle.cg_solve.specs.Lists.{Has}
use Rattle.cg_solve.specs.Tables.{row}
use Rattle.cg_sets.specs.Asking.{answer_number}
use Rattle.cg_sets.proofs.Questions.{grows}
use Rattle.cg_sets.proofs.asking.put_given.Goals as goal

pub returns-clause-given : goal.returns-clause-given
returns-clause-given c =
    let rules = c.args.rules.now in
    let search = search_of c.solve.new.self in
    let seeds : c.as_slice.result.now ≡ answer_number c.args.answer ∷ [] = c.as_slice.ensures ∙ ap (λ n. n ∷ []) c.in_ok-start.ensures in
    let solved : IsSolved (answer_number c.args.answer ∷ []) rules search = subst (λ s. IsSolved s rules search) seeds c.in_ok-solve.ensures in
    grows rules (row c.args.given.now) (row c.put_found.new.given) c.args.answer c.found.result.now c.in_ok-put_found.ensures
    (λ n h. (solved.exact n).0 (solved.only n (subst (λ l. Has l n) c.found.ensures h)))
    (λ n d. subst (λ l. Has l n) (sym c.found.ensures) (solved.listed n ((solved.exact n).1 d)))
