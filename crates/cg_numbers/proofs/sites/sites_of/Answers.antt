use Rattle.std.proofs.Common.{◌≡◌, ◌∙◌, List, ℕ, arith, length, subst, sym}
use Rattle.cg_numbers.specs.Numbered.{StandsFor}
use Rattle.cg_numbers.specs.Sites.{Collects, Among, Met, Stands, all_met, met_of}
use Rattle.cg_numbers.specs.declared.likeness.Likeness.{Likeness}
use Rattle.cg_numbers.proofs.Collecting.{collects_as, met_stands, stands_met, next_met}
use Rattle.cg_solve.specs.Lists.{each_below}
use Rattle.cg_numbers.proofs.sites.sites_of.Goals as goal

pub loop-number-init : goal.loop-number-init
loop-number-init c = record { types = c.in_ok-sites.ensures.types; met = c.in_ok-sites.ensures.met }

pub loop-number-preserved : goal.loop-number-preserved
loop-number-preserved c =
    let p = c.args.program.now in
    let n = c.loop-number.number in
    let all = each_below (met_of p) n in
    record {
      types = subst (λ (l : Likeness). StandsFor p.types l.types l.bares) (sym c.in_ok-add_all.ensures.types) c.loop-number.invariant.types;
      met = subst (λ (l : List Met). Collects (Among l) c.add_all.new.self) (next_met p n c.as_slice.result.now (c.as_slice.ensures.value ∙ c.in_ok-met.ensures)) (c.in_ok-add_all.ensures.met all c.loop-number.invariant.met);
    }

pub returns-clause-types : goal.returns-clause-types
returns-clause-types c = c.loop-number.invariant.types

pub returns-clause-met : goal.returns-clause-met
returns-clause-met c =
    let p = c.args.program.now in
    let e : c.loop-number.number ≡ length p.functions = omega arith in
    collects_as (Among (all_met p)) (Stands p) c.loop-number.sites (met_stands p) (stands_met p) (subst (λ (k : ℕ). Collects (Among (each_below (met_of p) k)) c.loop-number.sites) e c.loop-number.invariant.met)
