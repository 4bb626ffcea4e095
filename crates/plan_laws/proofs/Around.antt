-- All but the goroutine that runs stays as it was, where that changes.
use Rattle.std.proofs.Common.{◌≡◌, Option, Some, sym, subst, ◌∙◌}
use Rattle.std.specs.Prelude.{slice_get}
use Rattle.plan_laws.proofs.Alike.{Known, IsAround, IsOther}
use Rattle.plan_laws.proofs.Lists.{get_set, get_set_other, length_set}
use Rattle.plan_mean.specs.State as plans
use Rattle.ssa_mean.specs.State as codes

pub around_with : (k : Known) (m : codes.Machine) (q : plans.Machine) → IsAround k m q → (g : codes.Goroutine)
    (current : plans.Goroutine) → IsAround k (codes.with_current g m) (record q { current = current })
around_with k m q around g current =
    record {
      others = λ n other. subst (λ (x : Option codes.Goroutine). IsOther k x (slice_get q.others n))
          (sym (get_set_other m.goroutines m.sched.current.number n g other)) (around.others n other);
      holder = around.holder;
      count = around.count ∙ sym (length_set m.goroutines m.sched.current.number g);
      starts = around.starts;
      store = around.store;
      sched = around.sched;
      ticks = around.ticks;
      output = around.output;
    }

-- the goroutine that runs is then the new one
pub there_with : (m : codes.Machine) (g old : codes.Goroutine)
    → slice_get m.goroutines m.sched.current.number ≡ Some old
    → slice_get (codes.with_current g m).goroutines m.sched.current.number ≡ Some g
there_with m g old there = get_set m.goroutines m.sched.current.number g old there

pub around_current : (k : Known) (m : codes.Machine) (q : plans.Machine) → IsAround k m q → (current : plans.Goroutine)
    → IsAround k m (record q { current = current })
around_current k m q around current =
    record {
      others = around.others;
      holder = around.holder;
      count = around.count;
      starts = around.starts;
      store = around.store;
      sched = around.sched;
      ticks = around.ticks;
      output = around.output;
    }
