-- A goroutine without frames: it begins, goes on with what it is to call, or ends.
use Rattle.std.proofs.Common.{◌≡◌, ℕ, suc, Bool, true, false, List, [], ◌∷◌, Option, Some, None, ap, refl, sym, subst}
use Rattle.std.specs.Prelude.{◌==◌, drop, if◌then◌else◌, map, slice_get}
use Rattle.go_base.specs.declared.ids.FuncId.{FuncId}
use Rattle.go_sched.specs.declared.scheduling.Point.TheVariants as point
use Rattle.plan_laws.proofs.Acting.{IsSettled}
use Rattle.plan_laws.proofs.Alike.{Known, IsKnown, Follows, IsAround, IsLaterWhere}
use Rattle.plan_laws.proofs.Around.{around_current, around_with, there_with}
use Rattle.plan_laws.proofs.Calling.{makes_alike, enters_alike}
use Rattle.plan_laws.proofs.Lists.{at_drop, past_drop}
use Rattle.plan_laws.proofs.Settled.{settled_machine}
use Rattle.plan_laws.proofs.Waiting.{switches_alike}
use Rattle.plan_mean.specs.State as plans
use Rattle.plan_mean.specs.Step as planned
use Rattle.plan_mean.specs.Unwinding as planned_unwinding
use Rattle.ssa_mean.specs.State as codes
use Rattle.ssa_mean.specs.Step as steps
use Rattle.ssa_mean.specs.Unwinding as unwinding

-- the machines in which the goroutine that runs has no frames
pub record IsBare (k : Known) (m : codes.Machine) (q : plans.Machine) (g : codes.Goroutine) : Type 0 where
  pub around : IsAround k m q
  pub there : slice_get m.goroutines m.sched.current.number ≡ Some (record g { frames = [] })
  pub begin : IsLaterWhere g.begin q.current.begin
  pub fault : q.current.fault ≡ g.fault
  pub sources : q.current.sources ≡ 0

abbrev pub bare_on : plans.Machine → plans.Machine
bare_on q = record q { current = record (q.current) { frames = [] } }

bare_settled : (k : Known) (m : codes.Machine) (q : plans.Machine) (g : codes.Goroutine) → IsBare k m q g
    → IsSettled k m (bare_on q)
bare_settled k m q g is =
    record {
      around = around_current k m q is.around (record (q.current) { frames = [] });
      g = record g { frames = [] };
      there = is.there;
      frames = tt;
      begin = is.begin;
      fault = is.fault;
      sources = is.sources;
    }

-- what goroutine 0 is to call next
next_start : (k : Known) (m : codes.Machine) (q : plans.Machine) (g : codes.Goroutine) → IsBare k m q g → (id : FuncId)
    → (others : List FuncId) → drop (suc q.started) k.w.plan.starts.items ≡ map (λ id. id.number) others
    → IsSettled k (record m { starts = others }) (record (bare_on q) { started = suc q.started })
next_start k m q g is id others same =
    record {
      around = record {
        others = is.around.others;
        holder = is.around.holder;
        count = is.around.count;
        starts = sym same;
        store = is.around.store;
        sched = is.around.sched;
        ticks = is.around.ticks;
        output = is.around.output;
      };
      g = record g { frames = [] };
      there = is.there;
      frames = tt;
      begin = is.begin;
      fault = is.fault;
      sources = is.sources;
    }

starts_by : (k : Known) → IsKnown k → (m : codes.Machine) (q : plans.Machine) (g : codes.Goroutine) → IsBare k m q g
    → (starts : List FuncId) → map (λ id. id.number) starts ≡ drop q.started k.w.plan.starts.items
    → Follows k (steps.starts_next k.code m starts)
    (planned.starts_next k.w (bare_on q) (slice_get k.w.plan.starts.items q.started))
unfolding next_start
starts_by k known m q g is [] same =
    subst (λ (found : Option ℕ). Follows k (steps.starts_next k.code m []) (planned.starts_next k.w (bare_on q) found))
    (sym (past_drop k.w.plan.starts.items q.started (sym same))) (refl, is.around.output)
starts_by k known m q g is (id ∷ others) same =
    let both = at_drop k.w.plan.starts.items q.started id.number (map (λ id. id.number) others) (sym same) in
    subst (λ (found : Option ℕ). Follows k (steps.starts_next k.code m (id ∷ others)) (planned.starts_next k.w (bare_on q) found))
    (sym both.0)
    (enters_alike k known (record m { starts = others }) (record (bare_on q) { started = suc q.started })
    (next_start k m q g is id others both.1) (steps.first_entry id) (planned.first_entry id.number) (record {
      function = refl;
      free = refl;
      arguments = refl;
      deferred = refl;
      chain = refl;
      result = (refl, refl);
    }))

-- goroutine 0 goes on, any other ends
ends_by : (k : Known) → IsKnown k → (m : codes.Machine) (q : plans.Machine) (g : codes.Goroutine) → IsBare k m q g
    → (b : Bool)
    → Follows k (if b then steps.starts_next k.code m m.starts else unwinding.switches k.code point.Ended m)
    (if b then planned.starts_next k.w (bare_on q) (slice_get k.w.plan.starts.items q.started)
    else planned_unwinding.switches k.w point.Ended (bare_on q))
ends_by k known m q g is true = starts_by k known m q g is m.starts is.around.starts
ends_by k known m q g is false =
    switches_alike k known point.Ended m (bare_on q) (settled_machine k m (bare_on q) (bare_settled k m q g is))

begins_by : (k : Known) → IsKnown k → (m : codes.Machine) (q : plans.Machine) (g : codes.Goroutine) → IsBare k m q g
    → (begin : Option codes.Later) (begin' : Option plans.Later) → IsLaterWhere begin begin'
    → Follows k (steps.begins k.w.answers k.code m (record g { frames = [] }) begin) (planned.begins k.w (bare_on q) begin')
begins_by k known m q g is None None alike =
    subst (λ (n : ℕ). Follows k (steps.ends_or_starts k.code m m.sched.current.number) (planned.ends_or_starts k.w (bare_on q) n))
    (sym (ap (λ sched. sched.current.number) is.around.sched))
    (ends_by k known m q g is (m.sched.current.number == 0))
begins_by k known m q g is (Some later) (Some it) alike =
    makes_alike k known (codes.with_current (record g { frames = []; begin = None }) m)
    (plans.with_current (record (q.current) { frames = []; begin = None }) q)
    (record {
      around = around_with k m q is.around (record g { frames = []; begin = None })
          (record (q.current) { frames = []; begin = None });
      g = record g { frames = []; begin = None };
      there = there_with m (record g { frames = []; begin = None }) (record g { frames = [] }) is.there;
      frames = tt;
      begin = tt;
      fault = is.fault;
      sources = is.sources;
    })
    later it alike false
begins_by k known m q g is None (Some it) alike = absurd alike
begins_by k known m q g is (Some later) None alike = absurd alike

pub begins_alike : (k : Known) → IsKnown k → (m : codes.Machine) (q : plans.Machine) (g : codes.Goroutine) → IsBare k m q g
    → Follows k (steps.begins k.w.answers k.code m (record g { frames = [] }) g.begin)
    (planned.begins k.w (bare_on q) q.current.begin)
begins_alike k known m q g is = begins_by k known m q g is g.begin q.current.begin is.begin
