use Rattle.std.proofs.Common.{◌≡◌, ◌∙◌, ℕ, Bool, List, true, ap, subst, sym}
use Rattle.std.specs.Prelude.{◌↔◌}
use Rattle.std.proofs.lemmas.Result.{IfOk-weaker}
use Rattle.cg_numbers.specs.declared.sites.Seed.{Seed}
use Rattle.cg_numbers.specs.declared.sites.Site.{Site}
use Rattle.cg_solve.specs.LeastSets.{marked}
use Rattle.cg_solve.specs.Lists.{Has}
use Rattle.cg_solve.specs.Tables.{row}
use Rattle.cg_vta.specs.Facts.{IsChosen, IsFollowed, seeds_at}
use Rattle.cg_vta.proofs.Reaches.{are_facts}
use Rattle.cg_vta.proofs.facts.facts_of.Goals as goal

pub returns : goal.returns
returns c = λ p made first streams.
    let n = c.args.met.now.numbers in
    let rows = row c.args.all.now.rows in
    let starts = c.args.starts in
    let rules = c.args.rules.now in
    let sites = c.args.met.now.sites.items in
    let seeds = c.args.met.now.seeds.items in
    let table = row c.in_ok-seeds.seeds in
    let chosen = c.as_slice-3.result.now in
    let followed = c.as_slice-4.result.now in
    let same : (k : ℕ) → table k ≡ seeds_at seeds starts k = λ k. c.in_ok-seeds.ensures k ∙ ap (λ (l : List Seed). seeds_at l starts k) c.as_slice.ensures.value in
    let all_chosen : (k : ℕ) → IsChosen sites rows starts.nothing k → Has chosen k =
    λ k h. subst (λ (l : List ℕ). Has l k) (sym c.as_slice-3.ensures.value) (c.in_ok-chosen.ensures k (subst (λ (l : List Site). IsChosen l rows starts.nothing k) (sym c.as_slice-2.ensures.value) h))
    in
    let all_followed : (k : ℕ) → IsFollowed rows k → Has followed k = λ k h. subst (λ (l : List ℕ). Has l k) (sym c.as_slice-4.ensures.value) (c.in_ok-followed.ensures k h) in
    let mark_nodes : (k : ℕ) → (marked c.as_slice-5.result.now k ≡ true) ↔ Has chosen k = λ k. subst (λ (l : List Bool). (marked l k ≡ true) ↔ Has chosen k) (sym c.as_slice-5.ensures.value) (c.in_ok-nodes.ensures k) in
    let mark_values : (k : ℕ) → (marked c.as_slice-6.result.now k ≡ true) ↔ Has followed k = λ k. subst (λ (l : List Bool). (marked l k ≡ true) ↔ Has followed k) (sym c.as_slice-6.ensures.value) (c.in_ok-values.ensures k) in
    IfOk-weaker c.follow_values.result _ _
    (λ facts reached. are_facts p n seeds starts rules made first streams c.laws.ensures.nodes c.laws.ensures.values sites rows table chosen followed c.as_slice-5.result.now c.as_slice-6.result.now (row facts) same all_chosen all_followed mark_nodes mark_values reached)
    c.follow_values.ensures
