-- Calls in both machines.
pub use Rattle.plan_laws.proofs.Readying.{readied_alike}
pub use Rattle.plan_laws.proofs.Entering.{IsEntry, enters_alike}
pub use Rattle.plan_laws.proofs.MadeCalls.{makes_alike}
use Rattle.std.proofs.Common.{◌≡◌, ℕ, suc, Bool, true, false, not, ◌&&◌, List, [], ◌∷◌, ◌++◌, Option, Some, None, ap}
use Rattle.std.proofs.Common.{refl, sym, subst, ◌∙◌}
use Rattle.std.proofs.lemmas.List.{reverse-append}
use Rattle.std.specs.Prelude.{is_some, reverse}
use Rattle.std.specs.List.{AllZip}
use Rattle.std.specs.Option.{option_and_then, option_map, option_map_or}
use Rattle.code_plan.specs.Calls.{meant_by, with_counted}
use Rattle.code_plan.specs.Registers.{Marks, Pending, may_give, register_slot}
use Rattle.code_plan.specs.declared.steps.BuiltinForm.{BuiltinForm}
use Rattle.code_plan.specs.declared.steps.BuiltinForm.TheVariants as form
use Rattle.code_plan.specs.declared.steps.PlannedCall.{PlannedCall}
use Rattle.code_plan.specs.declared.steps.Step.{Step}
use Rattle.code_plan.specs.declared.steps.Step.TheVariants as act
use Rattle.go_base.specs.declared.ids.FuncId.{FuncId}
use Rattle.go_type.specs.declared.operators.Builtin.TheVariants as builtin
use Rattle.go_value.specs.Values.{Val}
use Rattle.go_value.specs.declared.faults.Fault.TheVariants as fault
use Rattle.plan_laws.proofs.Settled.{settled_machine}
use Rattle.plan_laws.proofs.Acting.{Acting, Agree, IsActing, IsSlot, MayHold, site_of, acting_on}
use Rattle.plan_laws.proofs.Alike.{Known, IsKnown, IsLater, IsCalled, IsResult, Follows, MayGet}
use Rattle.plan_laws.proofs.BuiltIns.{plain_of, built_ins_agree}
use Rattle.plan_laws.proofs.Frames.{frame_moved, placed_as}
use Rattle.plan_laws.proofs.Giving.{FinishesWell, finishes_alike, may_hold}
use Rattle.plan_laws.proofs.Lists.{same_count}
use Rattle.plan_laws.proofs.MadeCalls.{is_usual, usual_of}
use Rattle.plan_laws.proofs.Readying.{with_later_alike}
use Rattle.plan_laws.proofs.Recovering.{recovers_alike}
use Rattle.plan_laws.proofs.Settling.{settled_behind, settled_frames, top_deferral}
use Rattle.plan_laws.proofs.Slots.{none_pending}
use Rattle.plan_laws.proofs.Throwing.{faults_alike, panics_alike}
use Rattle.plan_laws.proofs.Values.{IsAlike}
use Rattle.plan_laws.proofs.Waiting.{close_alike}
use Rattle.plan_mean.specs.BuiltIns as planned_built_ins
use Rattle.plan_mean.specs.Slots.{top_of}
use Rattle.plan_mean.specs.State as plans
use Rattle.plan_mean.specs.Step as planned
use Rattle.ssa_ir.specs.declared.code.Function.{Function}
use Rattle.ssa_ir.specs.declared.ops.Call.{Call}
use Rattle.ssa_ir.specs.declared.ops.Op.TheVariants as op
use Rattle.ssa_mean.specs.BuiltIns as built_ins
use Rattle.ssa_mean.specs.BuiltIns.{Done}
use Rattle.ssa_mean.specs.Calls as calls
use Rattle.ssa_mean.specs.Comes.{Comes, to}
use Rattle.ssa_mean.specs.State as codes
use Rattle.ssa_mean.specs.State.{BuiltIn, plain}
use Rattle.ssa_mean.specs.Step as steps
use Rattle.ssa_mean.specs.Unwinding.{is_source}

-- ---- what the register of a call may get

both_not : (late cell : Bool) → not late && not cell ≡ true → (late ≡ false) × (cell ≡ false)
both_not false false h = (refl, refl)
both_not _ _ h = cc

may_get : (marks : Marks) (call : Call) (register : Option ℕ) → may_give marks (op.Call call) register ≡ true
    → MayGet marks register
may_get marks call None h = tt
may_get marks call (Some register) h = both_not (marks.late register) (marks.cell register) h

may_give_call : (marks : Marks) (call : Call) (register : Option ℕ) → may_give marks (op.Call call) register ≡ true
    → may_give marks op.Tick register ≡ true
may_give_call marks call None h = refl
may_give_call marks call (Some register) h = h

gets_call : (marks : Marks) (pending : Pending) (register : Option ℕ)
    → ((it : Val) → MayHold marks pending register (Some it)) → (it : Option Val) → MayHold marks pending register it
gets_call marks pending register may (Some it) = may it
gets_call marks pending None may None = tt
gets_call marks pending (Some register) may None = tt

-- what is known where an instruction calls
record IsCalling (k : Known) (a : Acting) (it : PlannedCall) (register slot : Option ℕ) : Type 0 where
  known : IsKnown k
  acting : IsActing k a (act.Call it slot)
  to : IsSlot a.function register slot
  get : MayGet (k.marks a.frame.function.number) register
  hold : (it : Val) → MayHold (k.marks a.frame.function.number) [] register (Some it)

-- ---- functions

result_of : (k : Known) (a : Acting) (it : PlannedCall) (register slot : Option ℕ) → IsCalling k a it register slot
    → IsResult k register slot (codes.advanced a.frame)
result_of k a it register slot in_it =
    record {
      goes_to = ap (λ (x : Option Function). option_and_then (λ (function : Function). option_map (register_slot function) register) x)
          in_it.acting.top.is.there ∙ in_it.to;
      may = in_it.get;
    }

function_alike : (k : Known) (a : Acting) (call : PlannedCall) (register slot : Option ℕ) → IsCalling k a call register slot
    → (later : codes.Later) (it : plans.Later) → IsLater later it → (id : FuncId) (free held : List Val) (n : ℕ)
    → n ≡ id.number → held ≡ free
    → Follows k (steps.calls (site_of k a) register later (codes.of_function id free))
    (planned.calls k.w (acting_on a) slot it (plans.of_function n held))
function_alike k a call register slot in_it later it is id free held n same values =
    enters_alike k in_it.known _ _ (settled_behind k a (act.Call call slot) in_it.acting refl) _ _
    (record {
      function = same;
      free = values;
      arguments = is.arguments;
      deferred = top_deferral k in_it.known a.function a.frame (top_of a.q.current.slots) a.planned in_it.acting.top.is a.below a.others
          ∙ sym (ap (λ (x : Option codes.Goroutine).
          option_map_or (λ (g : codes.Goroutine). calls.passes_deferral k.code g.frames) x false)
          in_it.acting.top.there
          ∙ ap (calls.passes_deferral k.code) in_it.acting.top.frames);
      chain = is.chain;
      result = result_of k a call register slot in_it;
    })

-- ---- built-in functions

finishes_usual : (s : steps.Site) (register : Option ℕ) (it : BuiltIn) → is_usual it ≡ true → (arguments : List Val)
    → steps.finishes s register (built_ins.built_in_call s.answers s.machine.store s.machine.sched it arguments)
    ≡ steps.calls_built_in s register it arguments
finishes_usual s register (plain builtin.Close) h arguments = cc
finishes_usual s register (plain builtin.Panic) h arguments = cc
finishes_usual s register (plain builtin.Recover) h arguments = cc
finishes_usual s register _ h arguments = refl

finishes_well : (k : Known) (a : Acting) (call : PlannedCall) (register slot : Option ℕ) → IsCalling k a call register slot
    → (it : Comes Done) → FinishesWell k a (act.Call call slot) register it
finishes_well k a call register slot in_it (to it) =
    record {
      kept = none_pending (k.marks a.frame.function.number) it.store a.frame;
      may = gets_call (k.marks a.frame.function.number) [] register in_it.hold it.value;
    }
finishes_well k a call register slot in_it _ = tt

usual_alike : (k : Known) (a : Acting) (call : PlannedCall) (register slot : Option ℕ) → IsCalling k a call register slot
    → (it : BuiltIn) (of : BuiltinForm) → with_counted it ≡ meant_by of → is_usual (meant_by of) ≡ true → (arguments : List Val)
    → Follows k (steps.calls_built_in (site_of k a) register it arguments)
    (planned.finishes k.w (acting_on a) slot (planned_built_ins.built_in_call k.w.answers a.q.store a.q.sched of arguments))
usual_alike k a call register slot in_it it of same usual arguments =
    let around = in_it.acting.top.around in
    let given = built_ins.built_in_call k.w.answers a.m.store a.m.sched it arguments in
    subst (λ (x : codes.Next). Follows k x
    (planned.finishes k.w (acting_on a) slot (planned_built_ins.built_in_call k.w.answers a.q.store a.q.sched of arguments)))
    (finishes_usual (site_of k a) register it (usual_of it (meant_by of) same usual) arguments)
    (finishes_alike k in_it.known a (act.Call call slot) in_it.acting register slot in_it.to given _
    (subst (λ (x : Comes Done). Agree given x)
    (λ i. planned_built_ins.built_in_call k.w.answers (sym around.store i) (sym around.sched i) of arguments)
    (built_ins_agree k.w.answers a.m.store a.m.sched it of same arguments))
    (finishes_well k a call register slot in_it given))

panic_alike : (k : Known) → IsKnown k → (a : Acting) (step : Step) → IsActing k a step → (arguments : List Val)
    → Follows k (steps.panic_of k.code a.m arguments) (planned.panic_of k.w (acting_on a) arguments)
panic_alike k known a step acting (it ∷ []) = panics_alike k known a step acting it
panic_alike k known a step acting _ = tt

built_in_alike : (k : Known) (a : Acting) (call : PlannedCall) (register slot : Option ℕ) → IsCalling k a call register slot
    → (it : BuiltIn) (of : BuiltinForm) → with_counted it ≡ meant_by of → (arguments : List Val)
    → Follows k (steps.calls_built_in (site_of k a) register it arguments)
    (planned.calls_built_in k.w (acting_on a) slot of arguments)
built_in_alike k a call register slot in_it it form.Close same arguments =
    subst (λ (x : BuiltIn). Follows k (steps.calls_built_in (site_of k a) register x arguments)
    (planned.close_of k.w (acting_on a) arguments)) (sym (plain_of it builtin.Close same))
    (close_alike k in_it.known a.m (steps.behind_call (site_of k a)) (acting_on a)
    (settled_machine k _ _ (settled_behind k a (act.Call call slot) in_it.acting refl))
    (faults_alike k in_it.known a (act.Call call slot) in_it.acting) refl arguments)
built_in_alike k a call register slot in_it it form.Panic same arguments =
    subst (λ (x : BuiltIn). Follows k (steps.calls_built_in (site_of k a) register x arguments)
    (planned.panic_of k.w (acting_on a) arguments)) (sym (plain_of it builtin.Panic same))
    (panic_alike k in_it.known a (act.Call call slot) in_it.acting arguments)
built_in_alike k a call register slot in_it it form.Recover same arguments =
    subst (λ (x : BuiltIn). Follows k (steps.calls_built_in (site_of k a) register x arguments)
    (planned.recovers_in (acting_on a) slot (plans.advanced a.planned ∷ a.others))) (sym (plain_of it builtin.Recover same))
    (recovers_alike k in_it.known a (act.Call call slot) in_it.acting register slot in_it.to in_it.hold)
built_in_alike k a call register slot in_it it of same arguments =
    usual_alike k a call register slot in_it it of same refl arguments

-- ---- all of them

called_alike : (k : Known) (a : Acting) (call : PlannedCall) (register slot : Option ℕ) → IsCalling k a call register slot
    → (later : codes.Later) (it : plans.Later) → IsLater later it → (callee : codes.Callee) (called : plans.Called)
    → IsCalled callee called
    → Follows k (steps.calls (site_of k a) register later callee) (planned.calls k.w (acting_on a) slot it called)
called_alike k a call register slot in_it later it is (codes.of_function id free) (plans.of_function n held) same =
    function_alike k a call register slot in_it later it is id free held n same.0 same.1
called_alike k a call register slot in_it later it is (codes.of_built_in one) (plans.of_built_in of) same =
    subst (λ (x : List Val). Follows k (steps.calls_built_in (site_of k a) register one later.arguments)
    (planned.calls_built_in k.w (acting_on a) slot of x)) (sym is.arguments)
    (built_in_alike k a call register slot in_it one of same later.arguments)
called_alike k a call register slot in_it later it is codes.of_nil plans.of_nil same =
    faults_alike k in_it.known a (act.Call call slot) in_it.acting fault.NilPointer
called_alike k a call register slot in_it later it is _ _ same = absurd same

pub call_alike : (call : Call) → IsAlike (op.Call call)
unfolding steps.acts planned.acts
call_alike call k known a register (act.Call it slot) may is acting =
    let marks = k.marks a.frame.function.number in
    with_later_alike k known a (act.Call it slot) acting (calls.readied k.code a.function a.frame call) _
    (readied_alike k known a (act.Call it slot) acting call it is.0) _ _
    (λ later made alike. called_alike k a it register slot
    (record {
      known = known;
      acting = acting;
      to = is.1;
      get = may_get marks call register may;
      hold = λ it. may_hold marks [] register it (may_give_call marks call register may);
    }) later made alike later.callee made.called alike.called)
call_alike call k known a register _ may is acting = absurd is

-- ---- calls that are put off

one_more_defer : (one : codes.Later) (its : List codes.Later) (other : plans.Later) (others : List plans.Later)
    → IsLater one other → AllZip IsLater its (reverse others) → AllZip IsLater (one ∷ its) (reverse (others ++ other ∷ []))
one_more_defer one its other others is are =
    subst (λ (x : List plans.Later). AllZip IsLater (one ∷ its) x) (sym (reverse-append others (other ∷ []))) (is, are)

put_off_alike : (k : Known) (a : Acting) (call : PlannedCall) → IsActing k a (act.Defer call)
    → is_some a.function.recover ≡ true → (later : codes.Later) (it : plans.Later) → IsLater later it
    → Follows k (steps.defers_call (site_of k a) later)
    (planned.puts_off it (plans.advanced a.planned ∷ a.others) (acting_on a))
put_off_alike k a call acting recovers later it is = (
  [],
  settled_machine k _ _
      (settled_frames k a.m a.q acting.top.around a.g acting.top.there
      (codes.advanced (record (a.frame) { defers = later ∷ a.frame.defers }) ∷ a.below)
      (record (a.q.current) {
        frames = record (plans.advanced a.planned) { defers = a.planned.defers ++ it ∷ [] } ∷ a.others;
      }) (
        record {
          function = a.function;
          is = frame_moved k a.function a.frame (top_of a.q.current.slots) a.planned acting.top.is a.frame.block (suc a.frame.place)
              a.frame.state (later ∷ a.frame.defers) a.planned.block a.planned.steps (suc a.planned.step) a.planned.state
              (a.planned.defers ++ it ∷ []) acting.top.is.state
              (one_more_defer later a.frame.defers it a.planned.defers is acting.top.is.defers) recovers;
          placed = placed_as k a.function (codes.advanced a.frame) (plans.advanced a.planned) acting.place a.frame.state
              (later ∷ a.frame.defers) a.planned.state (a.planned.defers ++ it ∷ []);
          result = acting.top.result;
        },
        acting.top.below,
      )
      acting.top.begin acting.top.fault
      (acting.top.sources ∙ same_count (is_source k.code) a.frame
      (codes.advanced (record (a.frame) { defers = later ∷ a.frame.defers })) a.below refl)),
)

pub defer_alike : (call : Call) → IsAlike (op.Defer call)
unfolding steps.acts planned.acts
defer_alike call k known a register (act.Defer it) may is acting =
    with_later_alike k known a (act.Defer it) acting (calls.readied k.code a.function a.frame call) _
    (readied_alike k known a (act.Defer it) acting call it is.0) _ _
    (λ later made alike. put_off_alike k a it acting is.1 later made alike)
defer_alike call k known a register _ may is acting = absurd is
