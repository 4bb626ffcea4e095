use Rattle.cg_numbers.proofs.Lists.{grown_by, once}
use Rattle.cg_vta.specs.Asks.{standing}
use Rattle.cg_vta.specs.contracts.goals.StandingPartialEq.TheImpl as same_standing
use Rattle.cg_vta.specs.contracts.goals.StandingEq.TheImpl.Laws as standing_laws
use Rattle.cg_vta.specs.declared.goals.Goals.{Goals}
use Rattle.cg_vta.proofs.Keyed.{standing_stored}
use Rattle.cg_vta.proofs.Standings.{goal_put, kept_put}
use Rattle.cg_vta.proofs.goals.Goals.put.Goals as goal

pub returns-clause-kept : goal.returns-clause-kept
returns-clause-kept c = λ kept.
    let d = c.args.candidate in
    let new : Goals = record { standings = c.insert_full.new.self; rows = c.put.new.self } in
    let s = c.in_ok-place.ensures.stored in
    kept_put c.args.self.now new c.args.group d.value d.goal c.in_ok-place.place kept (grown_by _ _ _ _ c.in_ok-place.ensures.keys) (standing_stored new.standings.keys c.in_ok-place.place (standing c.args.group d.value) s.0 s.1 s.2)
    (once same_standing.ghosts.eq standing_laws.laws-law.refl new.standings.keys c.in_ok-place.ensures.unique) c.in_ok-put.ensures

pub returns-clause-goals : goal.returns-clause-goals
returns-clause-goals c = λ kept.
    let d = c.args.candidate in
    let new : Goals = record { standings = c.insert_full.new.self; rows = c.put.new.self } in
    let s = c.in_ok-place.ensures.stored in
    goal_put c.args.self.now new c.args.group d.value d.goal c.in_ok-place.place kept (grown_by _ _ _ _ c.in_ok-place.ensures.keys) (standing_stored new.standings.keys c.in_ok-place.place (standing c.args.group d.value) s.0 s.1 s.2)
    (once same_standing.ghosts.eq standing_laws.laws-law.refl new.standings.keys c.in_ok-place.ensures.unique) c.in_ok-put.ensures
