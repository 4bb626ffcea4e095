use Rattle.std.proofs.Common.{◌≡◌, ◌∙◌, ℕ, length, refl, subst, sym, arith}
use Rattle.cg_numbers.proofs.Collecting.{extends_on, extends_self}
use Rattle.cg_sets.specs.Classes.{Below, HasMethods}
use Rattle.cg_sets.specs.declared.class_list.ClassList.{ClassList}
use Rattle.cg_sets.proofs.classes.Classes.add_methods.Goals as goal

pub loop-class-init : goal.loop-class-init
loop-class-init c = record { list = refl; extends = extends_self c.args.numbers.now; methods = λ h. h }

pub loop-class-preserved : goal.loop-class-preserved
loop-class-preserved c =
    let i = c.loop-class.invariant in
    let e = c.in_ok-add_methods_of.ensures in
    record { list = e.list ∙ i.list; extends = extends_on i.extends e.extends; methods = λ h. e.methods (i.methods h) }

pub returns-clause-list : goal.returns-clause-list
returns-clause-list c = c.loop-class.invariant.list

pub returns-clause-extends : goal.returns-clause-extends
returns-clause-extends c = c.loop-class.invariant.extends

pub returns-clause-methods : goal.returns-clause-methods
returns-clause-methods c = λ h.
    let p = c.args.program.now in
    let n = c.loop-class.numbers in
    let s = c.loop-class.self in
    let i = c.loop-class.invariant in
    let e : c.loop-class.class ≡ length c.args.self.now.list.types.keys = omega (arith, c.len-class-end.ensures.len, c.loop-class-test.false, c.loop-class.auto.class-end) in
    subst (λ (l : ClassList). HasMethods p n s (Below (length l.types.keys))) (sym i.list) (subst (λ (k : ℕ). HasMethods p n s (Below k)) e (i.methods h))
