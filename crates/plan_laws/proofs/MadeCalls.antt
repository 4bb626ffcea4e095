-- Calls that were put off, or with which goroutines begin, in both machines.
use Rattle.std.proofs.Common.{◌≡◌, ℕ, Bool, true, false, List, [], ◌∷◌, Option, None, ap, refl, sym, subst, ◌∙◌}
use Rattle.std.specs.Prelude.{◌||◌}
use Rattle.std.specs.Option.{option_map_or}
use Rattle.code_plan.specs.Calls.{meant_by, with_counted}
use Rattle.code_plan.specs.declared.steps.BuiltinForm.{BuiltinForm}
use Rattle.code_plan.specs.declared.steps.BuiltinForm.TheVariants as form
use Rattle.go_base.specs.declared.ids.FuncId.{FuncId}
use Rattle.go_type.specs.declared.operators.Builtin.TheVariants as builtin
use Rattle.go_value.specs.Values.{Val}
use Rattle.go_value.specs.declared.faults.Fault.TheVariants as fault
use Rattle.plan_laws.proofs.Settled.{settled_machine}
use Rattle.plan_laws.proofs.Acting.{Agree, IsSettled}
use Rattle.plan_laws.proofs.Alike.{Known, IsKnown, IsLater, IsCalled, Follows}
use Rattle.plan_laws.proofs.BuiltIns.{plain_of, built_ins_agree}
use Rattle.plan_laws.proofs.Entering.{IsEntry, enters_alike}
use Rattle.plan_laws.proofs.Readying.{follows_stuck}
use Rattle.plan_laws.proofs.Settling.{no_result, same_deferral, settled_written}
use Rattle.plan_laws.proofs.Throwing.{meets_alike, panics_on_alike}
use Rattle.plan_laws.proofs.Waiting.{close_alike}
use Rattle.plan_mean.specs.BuiltIns as planned_built_ins
use Rattle.plan_mean.specs.Calls as planned_calls
use Rattle.plan_mean.specs.State as plans
use Rattle.plan_mean.specs.Step as planned
use Rattle.plan_mean.specs.Unwinding as planned_unwinding
use Rattle.ssa_mean.specs.Answers.{Answers}
use Rattle.ssa_mean.specs.BuiltIns as built_ins
use Rattle.ssa_mean.specs.BuiltIns.{Done}
use Rattle.ssa_mean.specs.Calls as calls
use Rattle.ssa_mean.specs.Comes.{Comes, to, faults, nowhere}
use Rattle.ssa_mean.specs.State as codes
use Rattle.ssa_mean.specs.State.{BuiltIn, appends_items, appends_slice, appends_text, clears_slice, plain}
use Rattle.ssa_mean.specs.Step as steps
use Rattle.ssa_mean.specs.Unwinding as unwinding
use Rattle.ssa_ir.specs.declared.code.Code.{Code}

-- ---- functions

entry_alike : (k : Known) → IsKnown k → (m : codes.Machine) (q : plans.Machine) (settled : IsSettled k m q)
    (id : FuncId) (free held : List Val) (n : ℕ) → n ≡ id.number → held ≡ free → (later : codes.Later) (it : plans.Later)
    → IsLater later it → (deferred : Bool)
    → IsEntry k settled.g.frames (calls.entry_of k.code m id free later deferred None)
    (planned_calls.entry_of n held it deferred None q)
entry_alike k known m q settled id free held n same values later it is deferred =
    record {
      function = same;
      free = values;
      arguments = is.arguments;
      deferred = ap (λ (b : Bool). deferred || b)
          (same_deferral k known settled.g.frames q.current.slots q.current.frames settled.frames
          ∙ sym (ap (λ (x : Option codes.Goroutine).
          option_map_or (λ (g : codes.Goroutine). calls.passes_deferral k.code g.frames) x false)
          settled.there));
      chain = is.chain;
      result = no_result k settled.g.frames;
    }

-- ---- built-in functions: but for those that switch, panic or recover

abbrev pub is_usual : BuiltIn → Bool
is_usual (plain builtin.Close) = false
is_usual (plain builtin.Panic) = false
is_usual (plain builtin.Recover) = false
is_usual _ = true

pub usual_of : (it : BuiltIn) (of : BuiltIn) → with_counted it ≡ of → is_usual of ≡ true → is_usual it ≡ true
usual_of (appends_items leaves) of same h = refl
usual_of (appends_slice leaves) of same h = refl
usual_of (appends_text leaves) of same h = refl
usual_of (clears_slice zero_value) of same h = refl
usual_of (plain it) of same h = ap is_usual same ∙ h

alone_usual : (answers : Answers) (code : Code) (m : codes.Machine) (it : BuiltIn) → is_usual it ≡ true → (arguments : List Val)
    → steps.wrote code m (built_ins.built_in_call answers m.store m.sched it arguments)
    ≡ steps.alone answers code m it arguments
alone_usual answers code m (plain builtin.Close) h arguments = cc
alone_usual answers code m (plain builtin.Panic) h arguments = cc
alone_usual answers code m (plain builtin.Recover) h arguments = cc
alone_usual answers code m _ h arguments = refl

-- ---- what one gives that is made alone

wrote_alike : (k : Known) → IsKnown k → (m : codes.Machine) (q : plans.Machine) → IsSettled k m q → (one other : Comes Done)
    → Agree one other → Follows k (steps.wrote k.code m one) (planned.finishes k.w q None other)
wrote_alike k known m q settled (to it) (to other) same =
    subst (λ (x : Done). Follows k (steps.wrote k.code m (to it)) (planned.finishes k.w q None (to x))) (sym same)
    ([], settled_machine k _ _ (settled_written k m q settled it.store it.written))
wrote_alike k known m q settled (faults it) (faults other) same =
    subst (λ x. Follows k (unwinding.meets k.code m it) (planned_unwinding.meets k.w x q)) (sym same)
    (meets_alike k known m q (settled_machine k m q settled) it)
wrote_alike k known m q settled nowhere other same = tt
wrote_alike k known m q settled one nowhere same = follows_stuck k (steps.wrote k.code m one)
wrote_alike k known m q settled _ _ same = absurd same

usual_alike : (k : Known) → IsKnown k → (m : codes.Machine) (q : plans.Machine) → IsSettled k m q → (it : BuiltIn)
    → (of : BuiltinForm) → with_counted it ≡ meant_by of → is_usual (meant_by of) ≡ true → (arguments : List Val)
    → Follows k (steps.alone k.w.answers k.code m it arguments)
    (planned.finishes k.w q None (planned_built_ins.built_in_call k.w.answers q.store q.sched of arguments))
usual_alike k known m q settled it of same usual arguments =
    subst (λ (x : codes.Next). Follows k x
    (planned.finishes k.w q None (planned_built_ins.built_in_call k.w.answers q.store q.sched of arguments)))
    (alone_usual k.w.answers k.code m it (usual_of it (meant_by of) same usual) arguments)
    (wrote_alike k known m q settled (built_ins.built_in_call k.w.answers m.store m.sched it arguments) _
    (subst (λ (x : Comes Done). Agree (built_ins.built_in_call k.w.answers m.store m.sched it arguments) x)
    (λ i. planned_built_ins.built_in_call k.w.answers (sym settled.around.store i) (sym settled.around.sched i) of arguments)
    (built_ins_agree k.w.answers m.store m.sched it of same arguments)))

panic_alike : (k : Known) → IsKnown k → (m : codes.Machine) (q : plans.Machine) → IsSettled k m q → (arguments : List Val)
    → Follows k (steps.panic_of k.code m arguments) (planned.panic_of k.w q arguments)
panic_alike k known m q settled (it ∷ []) = panics_on_alike k known m q (settled_machine k m q settled) it
panic_alike k known m q settled _ = tt

alone_alike : (k : Known) → IsKnown k → (m : codes.Machine) (q : plans.Machine) → IsSettled k m q → (it : BuiltIn)
    → (of : BuiltinForm) → with_counted it ≡ meant_by of → (arguments : List Val)
    → Follows k (steps.alone k.w.answers k.code m it arguments) (planned.alone k.w q of arguments)
alone_alike k known m q settled it form.Close same arguments =
    subst (λ (x : BuiltIn). Follows k (steps.alone k.w.answers k.code m x arguments) (planned.close_of k.w q arguments))
    (sym (plain_of it builtin.Close same))
    (close_alike k known m m q (settled_machine k m q settled)
    (meets_alike k known m q (settled_machine k m q settled)) refl arguments)
alone_alike k known m q settled it form.Panic same arguments =
    subst (λ (x : BuiltIn). Follows k (steps.alone k.w.answers k.code m x arguments) (planned.panic_of k.w q arguments))
    (sym (plain_of it builtin.Panic same)) (panic_alike k known m q settled arguments)
alone_alike k known m q settled it form.Recover same arguments =
    subst (λ (x : BuiltIn). Follows k (steps.alone k.w.answers k.code m x arguments) (plans.goes q))
    (sym (plain_of it builtin.Recover same)) ([], settled_machine k m q settled)
alone_alike k known m q settled it of same arguments = usual_alike k known m q settled it of same refl arguments

-- ---- all of them

called_alike : (k : Known) → IsKnown k → (m : codes.Machine) (q : plans.Machine) → IsSettled k m q
    → (later : codes.Later) (it : plans.Later) → IsLater later it → (deferred : Bool) → (callee : codes.Callee)
    → (called : plans.Called) → IsCalled callee called
    → Follows k (steps.makes k.w.answers k.code m later deferred callee) (planned.makes k.w q it deferred called)
called_alike k known m q settled later it is deferred (codes.of_function id free) (plans.of_function n held) same =
    enters_alike k known m q settled _ _ (entry_alike k known m q settled id free held n same.0 same.1 later it is deferred)
called_alike k known m q settled later it is deferred (codes.of_built_in one) (plans.of_built_in of) same =
    subst (λ (x : List Val). Follows k (steps.alone k.w.answers k.code m one later.arguments) (planned.alone k.w q of x))
    (sym is.arguments) (alone_alike k known m q settled one of same later.arguments)
called_alike k known m q settled later it is deferred codes.of_nil plans.of_nil same =
    meets_alike k known m q (settled_machine k m q settled) fault.NilPointer
called_alike k known m q settled later it is deferred _ _ same = absurd same

-- a call that was put off, or with which a goroutine begins: in the frames that are there, or in none
pub makes_alike : (k : Known) → IsKnown k → (m : codes.Machine) (q : plans.Machine) → IsSettled k m q
    → (later : codes.Later) (it : plans.Later) → IsLater later it → (deferred : Bool)
    → Follows k (steps.makes k.w.answers k.code m later deferred later.callee) (planned.makes k.w q it deferred it.called)
makes_alike k known m q settled later it is deferred =
    called_alike k known m q settled later it is deferred later.callee it.called is.called
