-- Operations on channels, by what the calls on the channels of a run give.
use Rattle.std.proofs.Common.{◌≡◌, ◌∙◌, ap, sym, refl, subst, ℕ, List, [], ◌∷◌, Bool, true, false, not, Option}
use Rattle.std.proofs.Common.{Some, None}
use Rattle.std.proofs.Common.{Result, Ok, Err, slice_get}
use Rattle.std.specs.Prelude.{if◌then◌else◌}
use Rattle.std.specs.Global.{Box, Vec}
use Rattle.code_plan.specs.declared.steps.Arg.{Arg}
use Rattle.code_plan.specs.declared.steps.PlannedCase.{PlannedCase}
use Rattle.code_plan.specs.declared.steps.Step.TheVariants as act
use Rattle.go_base.specs.declared.ids.ChanId.{ChanId}
use Rattle.go_sched.specs.Channels.{Case, Chan}
use Rattle.go_sched.specs.Goroutines.{State, state_of}
use Rattle.go_sched.specs.Operations as operations
use Rattle.go_sched.specs.Operations.{Answer, Outcome, Woken, blocks, closed_at, closes, default, done, faults}
use Rattle.go_sched.specs.Operations.{receives, selects, sends}
use Rattle.go_sched.specs.declared.scheduling.Point.TheVariants as point
use Rattle.go_sched.specs.declared.scheduling.Sched.{Sched}
use Rattle.go_value.specs.Values.{Val, chan_number, value_of}
use Rattle.go_value.specs.declared.faults.Fault.{Fault}
use Rattle.go_value.specs.declared.faults.Fault.TheVariants as fault
use Rattle.go_value.specs.declared.values.Value.{Value}
use Rattle.interp_builtins.proofs.Worlds.{from_alike, told}
use Rattle.interp_builtins.specs.Operations.{Completes, receives_as}
use Rattle.interp_state.proofs.Turns.{wants, wrote_is}
use Rattle.interp_state.specs.Machines.{machine_of}
use Rattle.interp_state.specs.States.{Wrote, looked}
use Rattle.interp_state.specs.Turns.{Steps}
use Rattle.interp_state.specs.declared.machine.Machine.{Machine}
use Rattle.interp_state.specs.declared.machine.Turn.{Turn}
use Rattle.plan_mean.specs.Channels.{all_woken, came_to, cases_of, completed, stays, with_sched}
use Rattle.plan_mean.specs.Operands.{look}
use Rattle.plan_mean.specs.State.{World, Next, where_there, with_value}
use Rattle.plan_mean.specs.Step.{acts, close_of, receive_from, select_among, send_on}
use Rattle.plan_mean.specs.Unwinding.{meets, switches}

-- ---- with their operands

pub sends_is : (result : Turn) (old new : Machine) (channel value : Arg) (id : Option ChanId) (it : Val)
    → looked old channel ≡ Some (chan_number id) → looked old value ≡ Some it
    → Steps result old new (λ w. send_on w (machine_of old) (chan_number id) it)
    → Steps result old new (λ w. acts w (machine_of old) (act.Send channel value))
unfolding acts
sends_is result old new channel value id it one other step =
    told result old new (λ w. send_on w (machine_of old) (chan_number id) it)
    (λ w. acts w (machine_of old) (act.Send channel value))
    (λ w. ap (where_there (λ channel. where_there (send_on w (machine_of old) channel) (look
    (machine_of old) value))) one
    ∙ ap (where_there (send_on w (machine_of old) (chan_number id))) other) step

pub receives_is : (result : Turn) (old new : Machine) (channel : Arg) (held : Box Value) (zero : Value)
    (comma_ok : Bool)
    (slot : ℕ) (id : Option ChanId) → looked old channel ≡ Some (chan_number id) → held.value ≡ zero
    → Steps result old new (λ w. receives_as w (machine_of old) slot (value_of zero) comma_ok (receives 0
    (state_of old.sched) id))
    → Steps result old new (λ w. acts w (machine_of old) (act.Receive channel held comma_ok slot))
unfolding acts
receives_is result old new channel held zero comma_ok slot id one same step =
    told result old new
    (λ w. receives_as w (machine_of old) slot (value_of zero) comma_ok (receives 0 (state_of old.sched) id))
    (λ w. acts w (machine_of old) (act.Receive channel held comma_ok slot))
    (λ w. ap (where_there (receive_from w (machine_of old) slot held comma_ok)) one
    ∙ ap (λ (it : Value). receives_as w (machine_of old) slot (value_of it) comma_ok (receives 0
    (state_of old.sched) id)) same)
    step

pub selects_is : (result : Turn) (old new : Machine) (blocking : Bool) (all : Vec PlannedCase)
    (cases : List PlannedCase)
    (slot : ℕ) (them : List Case) → cases_of (machine_of old) cases ≡ Some them → all.items ≡ cases
    → Steps result old new (λ w. select_among w (machine_of old) slot cases (selects (state_of old.sched) them
    (not blocking)))
    → Steps result old new (λ w. acts w (machine_of old) (act.Select blocking all slot))
unfolding acts
selects_is result old new blocking all cases slot them one same step =
    told result old new
    (λ w. select_among w (machine_of old) slot cases (selects (state_of old.sched) them (not blocking)))
    (λ w. acts w (machine_of old) (act.Select blocking all slot))
    (λ w. ap (λ (cases : List PlannedCase). where_there
    (λ them. select_among w (machine_of old) slot cases (selects (state_of old.sched) them (not blocking)))
    (cases_of (machine_of old) cases)) same
    ∙ ap (where_there (λ them. select_among w (machine_of old) slot cases (selects (state_of old.sched) them
    (not blocking)))) one)
    step

-- ---- by their outcomes

-- a step of a machine whose channels have changed
pub after_call : (result : Turn) (old new : Machine) (sched : Sched) (wanted reached : Outcome)
    (next : World → Outcome → Next) → wanted ≡ reached
    → Steps result (record old { sched = sched }) new (λ w. next w reached)
    → Steps result old new (λ w. next w wanted)
after_call result old new sched wanted reached next is step =
    from_alike result old (record old { sched = sched }) new (λ w. next w reached) (λ w. next w wanted)
    (record { plan = refl; code = refl; asked = refl }) (λ w. ap (next w) is) step

-- a register gets what an operation gave, and those that waited go on
pub completes_with : {E : Type 0} (result : Turn) (old new : Machine) (sched : Sched) (wanted reached : Outcome)
    (next : World → Outcome → Next) (slot : ℕ) (given : Result Value E) (it : Val) (others : List Woken)
    → wanted ≡ reached
    → ((w : World) → next w reached ≡ completed w others (with_value slot it (machine_of
    (record old { sched = sched }))))
    → ((value : Value) → given ≡ Ok value → value_of value ≡ it)
    → Completes slot given others result (record old { sched = sched }) new → Steps result old new (λ w. next w wanted)
completes_with result old new sched wanted reached next slot (Ok value) it others is leads gives step =
    after_call result old new sched wanted reached next is
    (told result (record old { sched = sched }) new
    (λ w. completed w others (with_value slot (value_of value) (machine_of (record old { sched = sched }))))
    (λ w. next w reached)
    (λ w. leads w
    ∙ ap (λ it. completed w others (with_value slot it (machine_of (record old { sched = sched })))) (sym
    (gives value refl)))
    step)
completes_with result old new sched wanted reached next slot (Err e) it others is leads gives step =
    wants result old new (λ w. next w wanted) step

pub completes_ok : {E : Type 0} (slot : ℕ) (given : Result Value E) (it : Value) (others : List Woken) (result : Turn)
    (old mid new : Machine) → given ≡ Ok it → Wrote slot (value_of it) old mid
    → Steps result mid new (λ w. completed w others (machine_of mid)) → Completes slot given others result old new
completes_ok slot given it others result old mid new is wrote step =
    subst (λ (g : Result Value _). Completes slot g others result old new) (sym is)
    (from_alike result old mid new (λ w. completed w others (machine_of mid))
    (λ w. completed w others (with_value slot (value_of it) (machine_of old)))
    (record {
      plan = ap (λ (m : Machine). m.plan) wrote.others;
      code = ap (λ (m : Machine). m.code) wrote.others;
      asked = ap (λ (m : Machine). m.implemented) wrote.others;
    })
    (λ w. ap (completed w others) (sym (wrote_is slot (value_of it) old mid wrote))) step)

-- after a fault the channels are as before
close_fault : (state after : State) (id : ChanId) (chan : Option Chan) (it : Fault)
    → closed_at state id chan ≡ record { answer = Err it; after = after } → after ≡ state
close_fault state after id None it is = ap (λ (outcome : Outcome). outcome.after) (sym is)
close_fault state after id (Some chan) it is = by_closed chan.closed is
  where
    all_woken_at : List Woken
    all_woken_at = operations.served_by_close chan

    by_closed : (b : Bool)
        → (if b then faults fault.CloseOfClosed state
        else operations.completes 0 None all_woken_at (operations.all_gone_on all_woken_at (operations.shut id state)))
        ≡ record { answer = Err it; after = after }
        → after ≡ state
    by_closed true is = ap (λ (outcome : Outcome). outcome.after) (sym is)
    by_closed false is =
        let clash : Ok (done 0 None all_woken_at) ≡ Err it = ap (λ (outcome : Outcome). outcome.answer) is in cc

close_kept : (state after : State) (id : Option ChanId) (it : Fault)
    → closes state id ≡ record { answer = Err it; after = after } → after ≡ state
close_kept state after None it is = ap (λ (outcome : Outcome). outcome.after) (sym is)
close_kept state after (Some id) it is = close_fault state after id (slice_get state.channels id.number) it is

pub closed : (result : Turn) (old new : Machine) (sched : Sched) (id : Option ChanId) (others : List Woken)
    → closes (state_of old.sched) id ≡ record { answer = Ok (done 0 None others); after = state_of sched }
    → Steps result (record old { sched = sched }) new (λ w. completed w others (machine_of
    (record old { sched = sched })))
    → Steps result old new (λ w. close_of w (machine_of old) (chan_number id ∷ []))
closed result old new sched id others is step =
    after_call result old new sched (closes (state_of old.sched) id)
    (record { answer = Ok (done 0 None others); after = state_of sched })
    (λ w outcome. came_to w (machine_of old) (λ index it. with_sched outcome.after (machine_of old))
    (machine_of old) outcome.answer)
    is step

pub close_faults : (result : Turn) (old new : Machine) (sched : Sched) (id : Option ChanId) (it : Fault)
    → closes (state_of old.sched) id ≡ record { answer = Err it; after = state_of sched }
    → Steps result (record old { sched = sched }) new (λ w. meets w it (machine_of (record old { sched = sched })))
    → Steps result old new (λ w. close_of w (machine_of old) (chan_number id ∷ []))
close_faults result old new sched id it is step =
    after_call result old new sched (closes (state_of old.sched) id)
    (record { answer = Err it; after = state_of sched })
    (λ w outcome. came_to w (machine_of old) (λ index it. with_sched outcome.after (machine_of old))
    (machine_of old) outcome.answer)
    is
    (told result (record old { sched = sched }) new (λ w. meets w it (machine_of (record old { sched = sched })))
    (λ w. meets w it (machine_of old))
    (λ w. ap (λ state. meets w it (with_sched state (machine_of old))) (sym (close_kept (state_of old.sched)
    (state_of sched) id it is)))
    step)

-- ---- those that waited go on

pub all_completed : (result : Turn) (old mid new : Machine) (others : List Woken)
    → all_woken others (machine_of old) ≡ Some (machine_of mid) → mid ≡ record old { goroutines = mid.goroutines }
    → Steps result mid new (λ w. switches w point.After (machine_of mid))
    → Steps result old new (λ w. completed w others (machine_of old))
all_completed result old mid new others woken changed step =
    from_alike result old mid new (λ w. switches w point.After (machine_of mid)) (λ w. completed w others
    (machine_of old))
    (record {
      plan = ap (λ (m : Machine). m.plan) changed;
      code = ap (λ (m : Machine). m.code) changed;
      asked = ap (λ (m : Machine). m.implemented) changed;
    })
    (λ w. ap (where_there (switches w point.After)) woken) step

-- the goroutine stays at its step
pub blocked : (result : Turn) (old mid new : Machine) → machine_of mid ≡ stays (machine_of old)
    → mid ≡ record old { current = mid.current } → Steps result mid new (λ w. switches w point.Blocked (machine_of mid))
    → Steps result old new (λ w. switches w point.Blocked (stays (machine_of old)))
blocked result old mid new stands changed step =
    from_alike result old mid new (λ w. switches w point.Blocked (machine_of mid))
    (λ w. switches w point.Blocked (stays (machine_of old)))
    (record {
      plan = ap (λ (m : Machine). m.plan) changed;
      code = ap (λ (m : Machine). m.code) changed;
      asked = ap (λ (m : Machine). m.implemented) changed;
    })
    (λ w. ap (switches w point.Blocked) (sym stands)) step
