-- Instructions on maps, ranges as they begin, and ticks.
use Rattle.std.proofs.Common.{ℕ, zero, suc, ◌≡◌, Bool, [], Option, Some, None, refl, sym, ap, subst, ◌∙◌}
use Rattle.code_plan.specs.Registers.{behind}
use Rattle.code_plan.specs.declared.steps.Step.{Step}
use Rattle.code_plan.specs.declared.steps.Step.TheVariants as act
use Rattle.go_maps.specs.Entries.{with_pair}
use Rattle.go_maps.specs.Maps.{put_fault}
use Rattle.go_store.specs.MapCalls.{map_changed}
use Rattle.go_store.specs.Stores.{Stored}
use Rattle.go_value.specs.Values.{Val, map_number}
use Rattle.go_value.specs.Values.{value_of as held_value}
use Rattle.go_value.specs.declared.faults.Fault.{Fault}
use Rattle.plan_laws.proofs.Acting.{Acting, IsActing, Agree, site_of}
use Rattle.plan_laws.proofs.Agreeing.{one_read, agree_nowhere, agree_same, gives_one, gives_two, one_agrees, two_agree}
use Rattle.plan_laws.proofs.Agreeing.{holds_of_one, holds_of_two}
use Rattle.plan_laws.proofs.Alike.{Known, Follows, ArePending}
use Rattle.plan_laws.proofs.Giving.{plan_at, IsAlikeSettled, alike_from, changes_alike, ChangesWell, kept_behind}
use Rattle.plan_laws.proofs.Going.{goes_alike}
use Rattle.plan_laws.proofs.Slots.{none_pending}
use Rattle.plan_laws.proofs.Values.{IsAlike}
use Rattle.plan_mean.specs.Operands.{look}
use Rattle.plan_mean.specs.State as plans
use Rattle.plan_mean.specs.Step as planned
use Rattle.plan_mean.specs.Step.{acts as planned_acts}
use Rattle.plan_mean.specs.Unwinding as planned_unwinding
use Rattle.ssa_ir.specs.declared.operands.Operand.{Operand}
use Rattle.ssa_ir.specs.declared.ops.Op.TheVariants as op
use Rattle.ssa_mean.specs.Comes.{of_option, then_to, where_some}
use Rattle.ssa_mean.specs.Making.{value_or}
use Rattle.ssa_mean.specs.MapCalls.{looked_up, unless_fault}
use Rattle.ssa_mean.specs.Operands.{value_of, element_type}
use Rattle.ssa_mean.specs.Ranges.{range_of}
use Rattle.ssa_mean.specs.Step as steps
use Rattle.ssa_mean.specs.Step.{acts}
use Rattle.ssa_mean.specs.Unwinding as unwinding
use Rattle.ssa_mean.specs.Zeros.{zero_where}

-- ---- look-ups

look_up_agrees : (k : Known) (a : Acting) → (it : Operand) (comma_ok with_ok : Bool)
    → with_ok ≡ comma_ok → (absent : Val) → zero_where k.code (element_type k.code a.function it) ≡ Some absent → (u v : Val)
    → Agree (steps.look_up (site_of k a) it comma_ok u v) (planned.look_up k.w a.m.store absent with_ok u v)
look_up_agrees k a it comma_ok with_ok same absent is_zero (map_number id) key =
    agree_same (steps.look_up (site_of k a) it comma_ok (map_number id) key)
    (planned.look_up k.w a.m.store absent with_ok (map_number id) key)
    (ap (λ ok. then_to (λ found. value_or ok found absent) (looked_up k.w.answers.comparable a.m.store id key)) same
    ∙ ap (where_some (λ other. then_to (λ found. value_or comma_ok found other)
    (looked_up k.w.answers.comparable a.m.store id key))) (sym is_zero))
look_up_agrees k a it comma_ok with_ok same absent is_zero u v =
    agree_nowhere (steps.look_up (site_of k a) it comma_ok u v)

lookup_settled : (it key : Operand) (comma_ok : Bool) → IsAlikeSettled (op.Lookup it key comma_ok)
unfolding acts planned_acts
lookup_settled it key comma_ok k known a register (act.Lookup one other absent with_ok slot) may is acting =
    gives_two k known a (act.Lookup one other absent with_ok slot) acting register slot is.4 may it key one other is.0 is.1
    (steps.look_up (site_of k a) it comma_ok) (planned.look_up k.w a.m.store (held_value absent.value) with_ok)
    (look_up_agrees k a it comma_ok with_ok is.3 (held_value absent.value) is.2)
lookup_settled it key comma_ok k known a register _ may is acting = absurd is

pub lookup_alike : (it key : Operand) (comma_ok : Bool) → IsAlike (op.Lookup it key comma_ok)
lookup_alike it key comma_ok = alike_from (op.Lookup it key comma_ok) (lookup_settled it key comma_ok)

-- ---- "Assignment statements": an entry

update_agrees : (k : Known) (a : Acting) → (u v new : Val)
    → Agree (steps.update (site_of k a) u v new) (planned.update k.w a.m.store u v new)
update_agrees k a (map_number id) key new =
    agree_same (steps.update (site_of k a) (map_number id) key new)
    (planned.update k.w a.m.store (map_number id) key new) refl
update_agrees k a u v new = agree_nowhere (steps.update (site_of k a) u v new)

update_well : (k : Known) (a : Acting) (step : Step) → IsActing k a step → behind step a.pending ≡ [] → (u v new : Val)
    → ChangesWell k a step (steps.update (site_of k a) u v new)
update_well k a step acting nothing (map_number id) key new =
    unless (put_fault k.w.answers.comparable id key) (map_changed (with_pair key new) a.m.store id)
  where
    unless : (found : Option Fault) (store : Stored) → ChangesWell k a step (unless_fault found store)
    unless (Some it) store = tt
    unless None store =
        record {
          kept =
              subst (λ pending. ArePending (k.marks a.frame.function.number) store pending a.frame) (sym nothing)
              (none_pending (k.marks a.frame.function.number) store a.frame);
          may = tt;
        }
update_well k a step acting nothing _ v new = tt

update_settled : (it key new : Operand) → IsAlikeSettled (op.Update it key new)
unfolding acts planned_acts
update_settled it key new k known a register (act.Update one other third) may is acting =
    changes_alike k known a (act.Update one other third) acting
    (steps.with_two (site_of k a) it key (λ it key. steps.with_one (site_of k a) new (steps.update (site_of k a) it key)))
    (where_some (λ u. where_some (λ v. where_some (planned.update k.w a.m.store u v) (look (plan_at a) third))
    (look (plan_at a) other)) (look (plan_at a) one))
    (two_agree (λ u v. where_some (steps.update (site_of k a) u v) (value_of k.code a.frame new))
    (λ u v. where_some (planned.update k.w a.m.store u v) (look (plan_at a) third))
    (λ u v. one_agrees (steps.update (site_of k a) u v) (planned.update k.w a.m.store u v)
    (update_agrees k a u v) (value_of k.code a.frame new) (look (plan_at a) third)
    (one_read k a (act.Update one other third) acting new third is.2))
    (value_of k.code a.frame it) (value_of k.code a.frame key) (look (plan_at a) one) (look (plan_at a) other)
    (one_read k a (act.Update one other third) acting it one is.0)
    (one_read k a (act.Update one other third) acting key other is.1))
    (holds_of_two (ChangesWell k a (act.Update one other third))
    (λ u v. where_some (steps.update (site_of k a) u v) (value_of k.code a.frame new)) tt
    (λ u v. holds_of_one (ChangesWell k a (act.Update one other third)) (steps.update (site_of k a) u v) tt
    (update_well k a (act.Update one other third) acting refl u v) (value_of k.code a.frame new))
    (value_of k.code a.frame it) (value_of k.code a.frame key))
update_settled it key new k known a register _ may is acting = absurd is

pub update_alike : (it key new : Operand) → IsAlike (op.Update it key new)
update_alike it key new = alike_from (op.Update it key new) (update_settled it key new)

-- ---- ranges as they begin

range_settled : (it : Operand) → IsAlikeSettled (op.Range it)
unfolding acts planned_acts
range_settled it k known a register (act.Range arg slot) may is acting =
    gives_one k known a (act.Range arg slot) acting register slot is.1 may it arg is.0
    (λ v. of_option (range_of a.m.store v)) (λ v. of_option (range_of a.m.store v))
    (λ v. agree_same (of_option (range_of a.m.store v)) (of_option (range_of a.m.store v)) refl)
range_settled it k known a register _ may is acting = absurd is

pub range_alike : (it : Operand) → IsAlike (op.Range it)
range_alike it = alike_from (op.Range it) (range_settled it)

-- ---- ticks

ticked : (k : Known) (a : Acting) → IsActing k a act.Tick → (ticks : ℕ)
    → Follows k (unwinding.with_tick ticks a.m (steps.goes_behind (site_of k a) None None))
    (planned_unwinding.with_tick ticks (plan_at a) plans.goes)
ticked k a acting zero = (refl, refl)
ticked k a acting (suc n) =
    goes_alike k a act.Tick acting
    (record { store = a.m.store; sched = a.m.sched; ticks = n; output = a.m.output })
    (record { current = refl; kept = kept_behind k a act.Tick acting })
    None None refl None tt

tick_settled : IsAlikeSettled op.Tick
unfolding acts planned_acts
tick_settled k known a register act.Tick may is acting = ticked k a acting a.m.ticks
tick_settled k known a register _ may is acting = absurd is

pub tick_alike : IsAlike op.Tick
tick_alike = alike_from op.Tick tick_settled
