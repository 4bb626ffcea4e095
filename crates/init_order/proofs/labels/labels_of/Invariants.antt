use Rattle.std.proofs.Common.{◌≡◌, vec_len}
use Rattle.init_order.specs.Taking.{AreLabels}
use Rattle.init_order.proofs.labels.labels_of.Given as goal

abbrev pub invariant-loop-step : goal.invariant-loop-step
invariant-loop-step l = record {
  size : vec_len l.labels ≡ l.count;
  so_far : AreLabels l.groups l.step l.labels.items;
}
