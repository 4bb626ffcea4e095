use Rattle.std.proofs.Common.{◌≡◌, ◌∙◌, ◌∷◌, ◌++◌, [], List, Option, Some, None, get_or, length, subst, sym, take, arith}
use Rattle.std.specs.List.{AllZip}
use Rattle.std.proofs.lemmas.Grind.{take_at_read}
use Rattle.std.proofs.lemmas.List.{take_all}
use Rattle.go_type.specs.declared.term.MethodType.{MethodType}
use Rattle.cg_sets.specs.Implementing.{IsRequired}
use Rattle.cg_sets.specs.declared.implementing.Required.{Required}
use Rattle.cg_sets.proofs.Founds.{zip_push}
use Rattle.cg_sets.proofs.implementing.required_of.Goals as goal

never : {A : Type 0} (x : A) → ◌≡◌ {A = Option A} (Some x) None → ⊥
never x h = cc

pub loop-method-preserved : goal.loop-method-preserved
loop-method-preserved c =
    let R = IsRequired c.args.likeness.now c.args.classes.now in
    let methods = c.args.methods.now in
    let i = c.loop-method.method-index in
    let m : MethodType = record { name = record { number = 0 }; «package» = 0; of = record { number = 0 } } in
    let r : Required = record { name = c.in-Some.name; of = c.bare-of.result } in
    subst (λ (l : List MethodType). AllZip R l c.push.new.self.items) (sym (take_at_read methods i m c.loop-method-test.true).1)
    (subst (λ (l : List Required). AllZip R (take i methods ++ get_or methods i m ∷ []) l) (sym c.in_ok-push.ensures.items)
    (zip_push R (take i methods) c.loop-method.required.items (get_or methods i m) r c.loop-method.invariant (record { named = c.in-Some.ensures.some; of = c.bare-of.ensures })))

pub returns : goal.returns
returns c = record {
  some = subst (λ (l : List MethodType). AllZip (IsRequired c.args.likeness.now c.args.classes.now) l c.loop-method.required.items) (take_all c.loop-method.method-index c.args.methods.now c.loop-method-test.false) c.loop-method.invariant;
  none = λ h. absurd (never c.loop-method.required h);
}
