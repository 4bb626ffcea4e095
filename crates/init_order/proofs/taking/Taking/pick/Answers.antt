use Rattle.std.proofs.Common.{◌<◌, inl, inr, refl, sym, subst, length, rules}
use Rattle.go_graph.specs.Graph.{IsAmong}
use Rattle.init_order.proofs.Picking.{nothing_left, above_all}
use Rattle.init_order.proofs.taking.Taking.pick.Goals as goal

pub bounds-groups-step : goal.bounds-groups-step
bounds-groups-step c = c.requires c.in_ok-step.step (subst (IsAmong c.in_ok-step.step) (sym c.in_ok-step.ensures.removal) (inl refl))

pub offset_bounds-groups-step : goal.offset_bounds-groups-step
offset_bounds-groups-step c =
    let within : c.in_ok-step.step < length c.args.groups.now = c.requires c.in_ok-step.step (subst (IsAmong c.in_ok-step.step) (sym c.in_ok-step.ensures.removal) (inl refl)) in
    search rules

pub returns-clause-next : goal.returns-clause-next
returns-clause-next c =
    inr (record {
      step = c.in_ok-step.step;
      none_free = nothing_left c.args.self.now.free c.in_default.ensures.cases.0;
      none_free2 = nothing_left c.pop.new.self c.in_default.ensures.cases.1;
      first = c.in_ok-step.ensures.removal;
      of_group = refl;
      above = above_all c.in_ok-step.step c.pop_first.new.self.keys c.in_ok-step.ensures.all_above;
    })
