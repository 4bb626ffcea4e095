use Rattle.std.proofs.Common.{◌≡◌, drop, vec_len}
use Rattle.init_order.specs.Groups.{told}
use Rattle.init_order.specs.Taking.{state}
use Rattle.init_order.proofs.taking.Taking.tell_all.Given as goal

abbrev pub invariant-loop-group : goal.invariant-loop-group
invariant-loop-group l = record {
  size : vec_len l.self.waiting ≡ vec_len l.fn.self.waiting;
  told : told l.labels (drop l.group-index l.groups) (state l.self) ≡ told l.labels l.groups (state l.fn.self);
}
