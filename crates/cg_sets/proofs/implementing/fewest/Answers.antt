use Rattle.std.proofs.Common.{◌≡◌, ◌∙◌, ◌∷◌, List, inl, inr, get_or, subst, sym}
use Rattle.std.proofs.lemmas.Option.{slice_get-get_or}
use Rattle.cg_numbers.proofs.Lists.{has_at}
use Rattle.cg_sets.specs.Implementing.{IsOneRow}
use Rattle.cg_sets.specs.declared.implementing.Required.{Required}
use Rattle.cg_solve.specs.Lists.{Has}
use Rattle.cg_sets.proofs.implementing.fewest.Goals as goal

pub loop-method-preserved : goal.loop-method-preserved
loop-method-preserved c =
    let cs = c.args.classes.now in
    let required = c.args.required.now in
    let rest = c.in-Some.rest.now in
    let i = c.loop-method.method-index in
    let d : Required = record { name = 0; of = record { number = 0 } } in
    let r = get_or rest i d in
    let has : Has rest r = has_at rest i r (slice_get-get_or rest i d c.loop-method-test.true) in
    elim c.shorter-least.ensures [
      | inl e ↦ subst (IsOneRow cs required) (sym e) c.loop-method.invariant
      | inr e ↦ inr (r, subst (λ (l : List Required). Has l r) (sym c.in-Some.ensures.cases.0) (inr has), e ∙ c.row.ensures)
    ]
