use Rattle.std.proofs.Common.{◌≡◌, List, subst, sym}
use Rattle.std.specs.Prelude.{IfSome}
use Rattle.std.specs.List.{AllZip, Contains}
use Rattle.std.proofs.lemmas.Result.{IfOk-weaker}
use Rattle.go_type.specs.Table.{term_at}
use Rattle.go_type.specs.declared.term.MethodType.{MethodType}
use Rattle.cg_numbers.specs.declared.likeness.Likeness.{Likeness}
use Rattle.cg_sets.specs.Implementing.{AreImplementers, IsRequired, methods_in}
use Rattle.cg_sets.specs.declared.implementing.Required.{Required}
use Rattle.cg_sets.proofs.Implementers.{implementers, none_implements}
use Rattle.cg_sets.proofs.implementing.implementers.Goals as goal

pub returns-in-Some : goal.returns-in-Some
returns-in-Some c = λ p n e classes.
    let l = c.args.likeness.now in
    let cs = c.args.classes.now in
    let id = c.args.interface in
    let methods = c.methods_of-methods.result.now in
    let required = c.as_slice.result.now in
    let found : AllZip (IsRequired l cs) methods c.in-Some.required.items = subst (λ o. IfSome o (λ r. AllZip (IsRequired l cs) methods r.items)) c.in-Some.is c.in_ok-required.ensures.some in
    let here : AllZip (IsRequired l cs) methods required = subst (λ (r : List Required). AllZip (IsRequired l cs) methods r) (sym c.as_slice.ensures.value) found in
    let zip : AllZip (IsRequired n.likeness cs) (methods_in (term_at n.likeness.types id)) required =
    subst (λ (k : Likeness). AllZip (IsRequired k cs) (methods_in (term_at k.types id)) required) (sym e) (subst (λ (m : List MethodType). AllZip (IsRequired l cs) m required) c.methods_of-methods.ensures here)
    in
    IfOk-weaker c.having.result _ _ (λ places h. subst (AreImplementers p n cs id) (sym h.2) (implementers p n cs classes c.laws.ensures id required h.0 zip h.1)) c.having.ensures

pub returns-in-None : goal.returns-in-None
returns-in-None c = λ p n e classes.
    let cs = c.args.classes.now in
    let id = c.args.interface in
    let none = c.in_ok-required.ensures.none c.in-None.is in
    let there : Contains (methods_in (term_at n.likeness.types id)) none.0 =
    subst (λ (k : Likeness). Contains (methods_in (term_at k.types id)) none.0) (sym e) (subst (λ (m : List MethodType). Contains m none.0) c.methods_of-methods.ensures none.1)
    in
    subst (AreImplementers p n cs id) (sym c.new.ensures.items) (none_implements p n cs classes c.laws.ensures id none.0 there none.2)
