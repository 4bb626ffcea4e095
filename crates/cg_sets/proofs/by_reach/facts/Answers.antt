use Rattle.std.proofs.Common.{◌≡◌, ◌∙◌, ◌++◌, ℕ, List, true, ap, map, subst, sym}
use Rattle.std.specs.Prelude.{◌↔◌}
use Rattle.std.proofs.lemmas.Result.{IfOk-weaker}
use Rattle.cg_numbers.specs.declared.sites.Seed.{Seed}
use Rattle.cg_numbers.specs.declared.sites.Site.{Site}
use Rattle.cg_sets.specs.Reaching.{seed_rule, site_rule, starts_of}
use Rattle.cg_sets.proofs.Reached.{is_reach}
use Rattle.cg_solve.specs.LeastSets.{Derives, marked}
use Rattle.cg_solve.specs.Tables.{row}
use Rattle.cg_solve.specs.declared.solving.Rule.{Rule}
use Rattle.cg_sets.proofs.by_reach.facts.Goals as goal

pub returns : goal.returns
returns c = λ met made answers fault.
    let p = c.args.program.now in
    let n = c.args.met.now.numbers in
    let sites = c.args.met.now.sites.items in
    let seeds = c.args.met.now.seeds.items in
    let rows = row c.args.all.now.rows in
    let row_rules = c.in_ok-rules.rules.items in
    let rules = c.as_slice-4.result.now in
    let fronts = c.put_sites.new.rules.items in
    let first : fronts ≡ row_rules ++ map site_rule sites = c.in_ok-put_sites.ensures ∙ ap (λ (l : List Site). row_rules ++ map site_rule l) c.as_slice.ensures.value in
    let all : rules ≡ (row_rules ++ map site_rule sites) ++ map seed_rule seeds =
    c.as_slice-4.ensures.value ∙ (c.in_ok-put_seeds.ensures ∙ (ap (λ (l : List Seed). fronts ++ map seed_rule l) c.as_slice-2.ensures.value ∙ ap (λ (l : List Rule). l ++ map seed_rule seeds) first))
    in
    let starts : c.as_slice-5.result.now ≡ starts_of p c.args.fault = c.as_slice-5.ensures.value ∙ c.in_ok-starts.ensures in
    IfOk-weaker c.solve.result _ _
    (λ marks solved. is_reach p n sites seeds rows c.args.fault rules row_rules met made answers fault c.in_ok-rules.ensures all c.laws.ensures.values marks.items
    (λ k. subst (λ (s : List ℕ). (marked marks.items k ≡ true) ↔ Derives s rules k) starts (solved k)))
    c.solve.ensures
