-- Steps by their forms: what calls of built-in functions come to.
use Rattle.std.proofs.Common.{◌≡◌, ℕ, List, Option, Some, None, refl}
use Rattle.std.specs.Global.{Vec}
use Rattle.code_plan.specs.declared.steps.Arg.{Arg}
use Rattle.code_plan.specs.declared.steps.BuiltinForm.{BuiltinForm}
use Rattle.code_plan.specs.declared.steps.BuiltinForm.TheVariants as forms
use Rattle.code_plan.specs.declared.steps.Callee.TheVariants as callee
use Rattle.code_plan.specs.declared.steps.Step.TheVariants as act
use Rattle.go_value.specs.Values.{Val}
use Rattle.plan_mean.specs.BuiltIns.{built_in_call}
use Rattle.plan_mean.specs.Operands.{look_at_all}
use Rattle.plan_mean.specs.State.{World, Machine, where_there}
use Rattle.plan_mean.specs.Step.{acts, alone, calls, calls_built_in, finishes, with_later}

called_with : (w : World) (m : Machine) (form : BuiltinForm) (arguments : Vec Arg) (slot : Option ℕ)
    (its : Option (List Val)) → look_at_all m arguments.items ≡ its
    → with_later w m (record { callee = callee.Builtin form; arguments = arguments })
    (λ it. calls w m slot it it.called)
    ≡ where_there (calls_built_in w m slot form) its
called_with w m form arguments slot None is = rw is refl
called_with w m form arguments slot (Some its) is = rw is refl

-- a step that calls a built-in function
pub built_in_call_is : (w : World) (m : Machine) (form : BuiltinForm) (arguments : Vec Arg) (slot : Option ℕ)
    → acts w m (act.Call (record { callee = callee.Builtin form; arguments = arguments }) slot)
    ≡ where_there (calls_built_in w m slot form) (look_at_all m arguments.items)
unfolding acts
built_in_call_is w m form arguments slot = called_with w m form arguments slot (look_at_all m arguments.items) refl

-- ---- forms that are not of some kinds

pub plain_is : (w : World) (m : Machine) (slot : Option ℕ) (it : BuiltinForm) (arguments : List Val)
    → (it ≡ forms.Close → ⊥) → (it ≡ forms.Panic → ⊥) → (it ≡ forms.Recover → ⊥)
    → calls_built_in w m slot it arguments
    ≡ finishes w m slot (built_in_call w.answers m.store m.sched it arguments)
plain_is w m slot (forms.Append leaves) arguments close panic recover = refl
plain_is w m slot (forms.AppendSlice leaves) arguments close panic recover = refl
plain_is w m slot (forms.AppendText leaves) arguments close panic recover = refl
plain_is w m slot forms.Cap arguments close panic recover = refl
plain_is w m slot forms.ClearMap arguments close panic recover = refl
plain_is w m slot (forms.ClearSlice zero) arguments close panic recover = refl
plain_is w m slot forms.Close arguments close panic recover = absurd (close refl)
plain_is w m slot forms.Copy arguments close panic recover = refl
plain_is w m slot forms.CopyText arguments close panic recover = refl
plain_is w m slot forms.Delete arguments close panic recover = refl
plain_is w m slot forms.Len arguments close panic recover = refl
plain_is w m slot forms.Max arguments close panic recover = refl
plain_is w m slot forms.Min arguments close panic recover = refl
plain_is w m slot forms.Panic arguments close panic recover = absurd (panic refl)
plain_is w m slot forms.Print arguments close panic recover = refl
plain_is w m slot forms.Println arguments close panic recover = refl
plain_is w m slot forms.Recover arguments close panic recover = absurd (recover refl)

pub alone_is : (w : World) (m : Machine) (it : BuiltinForm) (arguments : List Val) → (it ≡ forms.Recover → ⊥)
    → alone w m it arguments ≡ calls_built_in w m None it arguments
alone_is w m (forms.Append leaves) arguments recover = refl
alone_is w m (forms.AppendSlice leaves) arguments recover = refl
alone_is w m (forms.AppendText leaves) arguments recover = refl
alone_is w m forms.Cap arguments recover = refl
alone_is w m forms.ClearMap arguments recover = refl
alone_is w m (forms.ClearSlice zero) arguments recover = refl
alone_is w m forms.Close arguments recover = refl
alone_is w m forms.Copy arguments recover = refl
alone_is w m forms.CopyText arguments recover = refl
alone_is w m forms.Delete arguments recover = refl
alone_is w m forms.Len arguments recover = refl
alone_is w m forms.Max arguments recover = refl
alone_is w m forms.Min arguments recover = refl
alone_is w m forms.Panic arguments recover = refl
alone_is w m forms.Print arguments recover = refl
alone_is w m forms.Println arguments recover = refl
alone_is w m forms.Recover arguments recover = absurd (recover refl)
