use Rattle.std.proofs.Common.{refl}
use Rattle.go_interp.proofs.running.bare.Goals as goal

pub returns : goal.returns
returns c =
    record {
      code_is = refl;
      plan_is = refl;
      store = c.new.ensures;
      sched_is = refl;
      none = c.new-2.ensures.items;
      current = c.new-3.ensures;
      begun = refl;
      ticks = refl;
      output = c.new-4.ensures.items;
      asked = c.new-6.ensures.empty;
    }
