-- Operations on channels in both machines: sends, receives, selects and closes.
use Rattle.std.proofs.Common.{ℕ, ◌≡◌, Bool, true, not, List, [], ◌∷◌, Option, Some, None, refl, sym, ap, ap₂, subst}
use Rattle.std.proofs.Common.{subst₂, ◌∙◌}
use Rattle.std.specs.Global.{Box, Vec}
use Rattle.std.specs.List.{AllZip}
use Rattle.std.specs.Option.{option_and_then, option_map}
use Rattle.code_plan.specs.Forms.{IsStep, IsCase}
use Rattle.code_plan.specs.Operands.{IsArg}
use Rattle.code_plan.specs.Registers.{Marks, Pending, may_give, behind}
use Rattle.code_plan.specs.declared.steps.Arg.{Arg}
use Rattle.code_plan.specs.declared.steps.PlannedCase.{PlannedCase}
use Rattle.code_plan.specs.declared.steps.PlannedCase.TheVariants as planned_case
use Rattle.code_plan.specs.declared.steps.Step.{Step}
use Rattle.code_plan.specs.declared.steps.Step.TheVariants as act
use Rattle.go_base.specs.declared.ids.ChanId.{ChanId}
use Rattle.go_sched.specs.Channels as chans
use Rattle.go_sched.specs.Channels.{Case}
use Rattle.go_sched.specs.Goroutines.{State}
use Rattle.go_sched.specs.Operations.{Outcome, sends, receives, closes, selects}
use Rattle.go_value.specs.Values as vals
use Rattle.go_value.specs.Values.{Val, chan_number}
use Rattle.go_value.specs.declared.faults.Fault.{Fault}
use Rattle.go_value.specs.declared.values.Value.{Value}
use Rattle.plan_laws.proofs.Acting.{Acting, FollowsWhere, IsActing, IsSlot, MayHold, MayPoint, plan_site, site_of}
use Rattle.plan_laws.proofs.Alike.{Known, IsKnown, IsMachine, IsPlaced, Follows}
use Rattle.plan_laws.proofs.Answering.{behind_at, came_alike, faults_at, stays_at}
use Rattle.plan_laws.proofs.Giving.{plan_at, settled}
use Rattle.plan_laws.proofs.Outcomes.{IsDone, closes_done, closes_kept, receives_kept_by, selects_kept, sends_kept}
use Rattle.plan_laws.proofs.Reading.{one_value}
use Rattle.plan_laws.proofs.Receiving.{IsWaiting, one_received, one_selected}
use Rattle.plan_laws.proofs.Switching.{sched_machine}
use Rattle.plan_laws.proofs.Values.{IsAlikeStaying}
use Rattle.plan_laws.proofs.Waking.{waiting_gives}
use Rattle.plan_mean.specs.Channels as planned_channels
use Rattle.plan_mean.specs.Operands.{look}
use Rattle.plan_mean.specs.State as plans
use Rattle.plan_mean.specs.Step as planned
use Rattle.plan_mean.specs.Unwinding as planned_unwinding
use Rattle.ssa_ir.specs.declared.operands.Operand.{Operand}
use Rattle.ssa_ir.specs.declared.ops.Op.{Op}
use Rattle.ssa_ir.specs.declared.ops.Op.TheVariants as op
use Rattle.ssa_ir.specs.declared.ops.SelectCase.{SelectCase}
use Rattle.ssa_ir.specs.declared.ops.SelectCase.TheVariants as case
use Rattle.ssa_mean.specs.Channels as channels
use Rattle.ssa_mean.specs.Making.{value_or}
use Rattle.ssa_mean.specs.Operands.{value_of}
use Rattle.ssa_mean.specs.State as codes
use Rattle.ssa_mean.specs.Step as steps
use Rattle.ssa_mean.specs.Unwinding as unwinding
pub use Rattle.plan_laws.proofs.Switching.{switches_alike}
pub use Rattle.plan_laws.proofs.Waking.{woken_alike}

-- ---- closes

close_on : (k : Known) → IsKnown k → (m next : codes.Machine) (q : plans.Machine) → IsMachine k [] next q
    → ((it : Fault) → Follows k (unwinding.meets k.code m it) (planned_unwinding.meets k.w it q)) → m.sched ≡ next.sched
    → (id : Option ChanId) (outcome : Outcome) → outcome.after.current ≡ m.sched.current → IsDone outcome.answer
    → Follows k (channels.came_to k.code m (λ index it. Some (channels.with_sched outcome.after next)) None outcome.answer)
    (planned_channels.came_to k.w q (λ index it. planned_channels.with_sched outcome.after q) q outcome.answer)
close_on k known m next q it faulted same id outcome kept is_done =
    came_alike k known m q (λ index it. Some (channels.with_sched outcome.after next))
    (λ index it. planned_channels.with_sched outcome.after q) None q outcome.answer
    (record {
      done = λ index got. sched_machine k [] next q outcome.after it (kept ∙ ap (λ (s : State). s.current) same);
      default = tt;
      blocks = λ e. absurd (subst IsDone e is_done);
      faults = faulted;
    })

-- a close by a call: the machine as it is where the call faults, and as it goes on; in the plan both are one
pub close_alike : (k : Known) → IsKnown k → (m next : codes.Machine) (q : plans.Machine) → IsMachine k [] next q
    → (faulted : (it : _) → Follows k (unwinding.meets k.code m it) (planned_unwinding.meets k.w it q))
    → m.sched ≡ next.sched → (arguments : List Val)
    → Follows k (steps.close_of k.code m next arguments) (planned.close_of k.w q arguments)
close_alike k known m next q it faulted same [] = tt
close_alike k known m next q it faulted same (chan_number id ∷ []) =
    subst (λ (sched : State). Follows k (steps.close_of k.code m next (chan_number id ∷ []))
    (planned_channels.came_to k.w q (λ index it. planned_channels.with_sched (closes sched id).after q) q
    (closes sched id).answer)) (same ∙ sym it.around.sched)
    (close_on k known m next q it faulted same id (closes m.sched id) (closes_kept m.sched id) (closes_done m.sched id))
close_alike k known m next q it faulted same _ = tt

-- ---- operands

look_at : (k : Known) (a : Acting) (step : Step) → IsActing k a step → (it : Operand) (arg : Arg)
    → IsArg (plan_site k a) it arg → value_of k.code a.frame it ≡ look (plan_at a) arg
look_at k a step acting it arg is =
    sym (subst (λ (q : plans.Machine). look q arg ≡ value_of k.code a.frame it) (settled k a step acting)
    (one_value k a step acting it arg is))

-- where there is a value
both_there : {A : Type 0} (k : Known) (next : A → codes.Next) (planned_next : A → plans.Next) (it : Option A)
    → ((a : A) → Follows k (next a) (planned_next a))
    → Follows k (codes.where_there next it) (plans.where_there planned_next it)
both_there k next planned_next None alike = tt
both_there k next planned_next (Some a) alike = alike a

-- what may be given where a goroutine may wait
waiting_holds : (marks : Marks) (pending : Pending) (at : Op) (register : Option ℕ) → IsWaiting at
    → may_give marks at register ≡ true → (it : Option Val) → MayHold marks pending register it
waiting_holds marks pending at (Some register) waits may (Some it) =
    let gives = waiting_gives marks at register waits may in
    (gives.0, subst (λ (cell : Bool). MayPoint cell pending it) (sym gives.1) tt)
waiting_holds marks pending at (Some register) waits may None = tt
waiting_holds marks pending at None waits may it = tt

-- ---- an operation of the frame that runs

-- it is done, or gives a default; or the frame stays; or it meets a fault
acting_came : (k : Known) → IsKnown k → (a : Acting) (step : Step) → IsActing k a step
    → IsPlaced k a.function [] a.frame a.planned → (outcome : Outcome) → outcome.after.current ≡ a.m.sched.current
    → (next : ℕ → Option Val → Option codes.Machine) (planned_next : ℕ → Option Val → plans.Machine)
    → (otherwise : Option codes.Machine) (planned_otherwise : plans.Machine)
    → ((index : ℕ) (it : Option Val) → FollowsWhere k (next index it) (Some (planned_next index it)))
    → FollowsWhere k otherwise (Some planned_otherwise)
    → Follows k (channels.came_to k.code (channels.with_sched outcome.after a.m) next otherwise outcome.answer)
    (planned_channels.came_to k.w (planned_channels.with_sched outcome.after (plan_at a)) planned_next planned_otherwise
    outcome.answer)
acting_came k known a step acting is_placed outcome kept next planned_next otherwise planned_otherwise is_done is_default =
    came_alike k known (channels.with_sched outcome.after a.m)
    (planned_channels.with_sched outcome.after (plan_at a)) next planned_next otherwise planned_otherwise outcome.answer
    (record {
      done = is_done;
      default = is_default;
      blocks = λ e. stays_at k known a step acting outcome.after kept is_placed;
      faults = faults_at k known a step acting outcome.after kept;
    })

-- the frame goes on with a value, where there is one
given_where : (k : Known) → IsKnown k → (a : Acting) (step : Step) → IsActing k a step → behind step a.pending ≡ []
    → (sched : State) → sched.current ≡ a.m.sched.current → (register : Option ℕ) (slot : ℕ)
    → IsSlot a.function register (Some slot)
    → ((it : Option Val) → MayHold (k.marks a.frame.function.number) (behind step a.pending) register it)
    → (given : Option Val) (it : Val) → given ≡ Some it
    → FollowsWhere k (option_map (λ given. steps.behind_with (site_of k a) register sched (Some given)) given)
    (Some (plans.with_value slot it (planned_channels.with_sched sched (plan_at a))))
given_where k known a step acting none sched kept register slot same may given it is =
    subst (λ (given : Option Val).
    FollowsWhere k (option_map (λ given. steps.behind_with (site_of k a) register sched (Some given)) given)
    (Some (plans.with_value slot it (planned_channels.with_sched sched (plan_at a))))) (sym is)
    (behind_at k known a step acting sched kept none register (Some slot) same (Some it) (may (Some it)))

-- ---- sends

send_on_alike : (k : Known) → IsKnown k → (a : Acting) (to value : Arg) → IsActing k a (act.Send to value)
    → IsPlaced k a.function [] a.frame a.planned → (channel it : Val)
    → Follows k (steps.send_on (site_of k a) channel it) (planned.send_on k.w (plan_at a) channel it)
send_on_alike k known a to value acting is_placed (chan_number id) it =
    let outcome : Outcome = sends 0 it a.m.sched id in
    acting_came k known a (act.Send to value) acting is_placed outcome (sends_kept 0 it a.m.sched id)
    (λ index got. Some (steps.behind_with (site_of k a) None outcome.after None))
    (λ index got. planned_channels.with_sched outcome.after (plan_at a)) None (plan_at a)
    (λ index got. behind_at k known a (act.Send to value) acting outcome.after (sends_kept 0 it a.m.sched id) refl
    None None refl None tt) tt
send_on_alike k known a to value acting is_placed _ it = tt

send_settled : (channel it : Operand) (k : Known) → IsKnown k → (a : Acting) (register : Option ℕ) (step : Step)
    → IsStep (plan_site k a) register (op.Send channel it) step → IsActing k a step
    → IsPlaced k a.function [] a.frame a.planned
    → Follows k (steps.acts (site_of k a) register (op.Send channel it)) (planned.acts k.w (plan_at a) step)
unfolding steps.acts planned.acts
send_settled channel it k known a register (act.Send to value) is acting is_placed =
    subst₂ (λ (one other : Option Val). Follows k
    (codes.where_there (λ channel. codes.where_there (steps.send_on (site_of k a) channel)
    (value_of k.code a.frame it)) (value_of k.code a.frame channel))
    (plans.where_there (λ channel. plans.where_there (planned.send_on k.w (plan_at a) channel) other) one))
    (look_at k a (act.Send to value) acting channel to is.0) (look_at k a (act.Send to value) acting it value is.1)
    (both_there k _ _ (value_of k.code a.frame channel) (λ channel. both_there k
    (steps.send_on (site_of k a) channel) (planned.send_on k.w (plan_at a) channel) (value_of k.code a.frame it)
    (send_on_alike k known a to value acting is_placed channel)))
send_settled channel it k known a register _ is acting is_placed = absurd is

pub send_alike : (channel it : Operand) → IsAlikeStaying (op.Send channel it)
send_alike channel it k known a register step may is acting is_placed =
    subst (λ (q : plans.Machine). Follows k (steps.acts (site_of k a) register (op.Send channel it))
    (planned.acts k.w q step)) (sym (settled k a step acting))
    (send_settled channel it k known a register step is acting is_placed)

-- ---- receives

receive_from_alike : (k : Known) → IsKnown k → (a : Acting) (from : Arg) (null : Box Value) (with_ok : Bool) (slot : ℕ)
    → IsActing k a (act.Receive from null with_ok slot) → IsPlaced k a.function [] a.frame a.planned
    → (channel : Operand) (comma_ok : Bool) (register : Option ℕ)
    → may_give (k.marks a.frame.function.number) (op.Receive channel comma_ok) register ≡ true
    → IsStep (plan_site k a) register (op.Receive channel comma_ok) (act.Receive from null with_ok slot) → (it : Val)
    → Follows k (steps.receive_from (site_of k a) register channel comma_ok it)
    (planned.receive_from k.w (plan_at a) slot null with_ok it)
receive_from_alike k known a from null with_ok slot acting is_placed channel comma_ok register may is (chan_number id) =
    let outcome : Outcome = receives 0 a.m.sched id in
    acting_came k known a (act.Receive from null with_ok slot) acting is_placed outcome (receives_kept_by 0 a.m.sched id)
    (λ index got. option_map (λ given. steps.behind_with (site_of k a) register outcome.after (Some given))
    (channels.received k.code a.function channel comma_ok got))
    (λ index got. plans.with_value slot (planned_channels.received null with_ok got)
    (planned_channels.with_sched outcome.after (plan_at a))) None (plan_at a)
    (λ index got. given_where k known a (act.Receive from null with_ok slot) acting refl outcome.after
    (receives_kept_by 0 a.m.sched id) register slot is.3
    (waiting_holds (k.marks a.frame.function.number) [] (op.Receive channel comma_ok) register tt may)
    (channels.received k.code a.function channel comma_ok got) (planned_channels.received null with_ok got)
    (one_received (plan_site k a) channel null.value comma_ok got is.1
    ∙ ap (λ (ok : Bool). Some (value_or ok got (vals.value_of null.value))) (sym is.2))) tt
receive_from_alike k known a from null with_ok slot acting is_placed channel comma_ok register may is _ = tt

receive_settled : (channel : Operand) (comma_ok : Bool) (k : Known) → IsKnown k → (a : Acting) (register : Option ℕ)
    (step : Step) → may_give (k.marks a.frame.function.number) (op.Receive channel comma_ok) register ≡ true
    → IsStep (plan_site k a) register (op.Receive channel comma_ok) step → IsActing k a step
    → IsPlaced k a.function [] a.frame a.planned
    → Follows k (steps.acts (site_of k a) register (op.Receive channel comma_ok)) (planned.acts k.w (plan_at a) step)
unfolding steps.acts planned.acts
receive_settled channel comma_ok k known a register (act.Receive from null with_ok slot) may is acting is_placed =
    subst (λ (one : Option Val). Follows k
    (codes.where_there (steps.receive_from (site_of k a) register channel comma_ok) (value_of k.code a.frame channel))
    (plans.where_there (planned.receive_from k.w (plan_at a) slot null with_ok) one))
    (look_at k a (act.Receive from null with_ok slot) acting channel from is.0)
    (both_there k (steps.receive_from (site_of k a) register channel comma_ok)
    (planned.receive_from k.w (plan_at a) slot null with_ok) (value_of k.code a.frame channel)
    (receive_from_alike k known a from null with_ok slot acting is_placed channel comma_ok register may is))
receive_settled channel comma_ok k known a register _ may is acting is_placed = absurd is

pub receive_alike : (channel : Operand) (comma_ok : Bool) → IsAlikeStaying (op.Receive channel comma_ok)
receive_alike channel comma_ok k known a register step may is acting is_placed =
    subst (λ (q : plans.Machine). Follows k (steps.acts (site_of k a) register (op.Receive channel comma_ok))
    (planned.acts k.w q step)) (sym (settled k a step acting))
    (receive_settled channel comma_ok k known a register step may is acting is_placed)

-- ---- selects

one_case : (k : Known) (a : Acting) (step : Step) → IsActing k a step → (it : SelectCase) (to : PlannedCase)
    → IsCase (plan_site k a) it to → channels.case_of k.code a.frame it ≡ planned_channels.case_of (plan_at a) to
one_case k a step acting (case.Send channel value) (planned_case.Send to arg) is =
    ap₂ (λ (value channel : Option Val). option_and_then (λ id. option_map (chans.send id) value)
    (option_and_then channels.chan_in channel)) (look_at k a step acting value arg is.1)
    (look_at k a step acting channel to is.0)
one_case k a step acting (case.Receive channel) (planned_case.Receive from null) is =
    ap (λ (it : Option Val). option_map chans.receive (option_and_then channels.chan_in it))
    (look_at k a step acting channel from is.0)
one_case k a step acting (case.Send channel value) (planned_case.Receive from null) is = absurd is
one_case k a step acting (case.Receive channel) (planned_case.Send to arg) is = absurd is

same_cases : (k : Known) (a : Acting) (step : Step) → IsActing k a step → (its : List SelectCase)
    (planned : List PlannedCase) → AllZip (IsCase (plan_site k a)) its planned
    → channels.cases_of k.code a.frame its ≡ planned_channels.cases_of (plan_at a) planned
same_cases k a step acting [] [] are = refl
same_cases k a step acting (it ∷ its) (to ∷ planned) are =
    ap₂ channels.with_case (one_case k a step acting it to are.0) (same_cases k a step acting its planned are.1)
same_cases k a step acting _ _ are = absurd are

select_among_alike : (k : Known) → IsKnown k → (a : Acting) (waits : Bool) (planned_cases : Vec PlannedCase) (slot : ℕ)
    → IsActing k a (act.Select waits planned_cases slot) → IsPlaced k a.function [] a.frame a.planned
    → (blocking : Bool) (cases : List SelectCase) (register : Option ℕ)
    → may_give (k.marks a.frame.function.number) (op.Select blocking cases) register ≡ true
    → IsStep (plan_site k a) register (op.Select blocking cases) (act.Select waits planned_cases slot)
    → (outcome : Outcome) → outcome.after.current ≡ a.m.sched.current
    → Follows k (steps.select_among (site_of k a) register blocking cases outcome)
    (planned.select_among k.w (plan_at a) slot planned_cases.items outcome)
select_among_alike k known a waits planned_cases slot acting is_placed blocking cases register may is outcome kept =
    acting_came k known a (act.Select waits planned_cases slot) acting is_placed outcome kept
    (λ index got. given (Some index) got) (λ index got. planned_given (Some index) got) (given None None)
    (planned_given None None) (λ index got. alike (Some index) got) (alike None None)
  where
    given : Option ℕ → Option Val → Option codes.Machine
    given chosen got =
        option_map (λ given. steps.behind_with (site_of k a) register outcome.after (Some given))
        (channels.selected k.code a.function cases chosen got)

    planned_given : Option ℕ → Option Val → plans.Machine
    planned_given chosen got =
        plans.with_value slot (planned_channels.selected planned_cases.items chosen got)
        (planned_channels.with_sched outcome.after (plan_at a))

    alike : (chosen : Option ℕ) (got : Option Val) → FollowsWhere k (given chosen got) (Some (planned_given chosen got))
    alike chosen got =
        given_where k known a (act.Select waits planned_cases slot) acting refl outcome.after kept register slot is.2
        (waiting_holds (k.marks a.frame.function.number) [] (op.Select blocking cases) register tt may)
        (channels.selected k.code a.function cases chosen got)
        (planned_channels.selected planned_cases.items chosen got)
        (one_selected (plan_site k a) cases planned_cases.items is.1 chosen got)

select_settled : (blocking : Bool) (cases : List SelectCase) (k : Known) → IsKnown k → (a : Acting)
    (register : Option ℕ) (step : Step)
    → may_give (k.marks a.frame.function.number) (op.Select blocking cases) register ≡ true
    → IsStep (plan_site k a) register (op.Select blocking cases) step → IsActing k a step
    → IsPlaced k a.function [] a.frame a.planned
    → Follows k (steps.acts (site_of k a) register (op.Select blocking cases)) (planned.acts k.w (plan_at a) step)
unfolding steps.acts planned.acts
select_settled blocking cases k known a register (act.Select waits planned_cases slot) may is acting is_placed =
    subst₂ (λ (operations : Option (List Case)) (waits : Bool). Follows k
    (codes.where_there (λ operations. steps.select_among (site_of k a) register blocking cases
    (selects a.m.sched operations (not blocking))) (channels.cases_of k.code a.frame cases))
    (plans.where_there (λ operations. planned.select_among k.w (plan_at a) slot planned_cases.items
    (selects a.m.sched operations (not waits))) operations))
    (same_cases k a (act.Select waits planned_cases slot) acting cases planned_cases.items is.1) (sym is.0)
    (both_there k _ _ (channels.cases_of k.code a.frame cases) (λ operations.
    select_among_alike k known a waits planned_cases slot acting is_placed blocking cases register may is
    (selects a.m.sched operations (not blocking)) (selects_kept a.m.sched operations (not blocking))))
select_settled blocking cases k known a register _ may is acting is_placed = absurd is

pub select_alike : (blocking : Bool) (cases : List SelectCase) → IsAlikeStaying (op.Select blocking cases)
select_alike blocking cases k known a register step may is acting is_placed =
    subst (λ (q : plans.Machine). Follows k (steps.acts (site_of k a) register (op.Select blocking cases))
    (planned.acts k.w q step)) (sym (settled k a step acting))
    (select_settled blocking cases k known a register step may is acting is_placed)
