use Rattle.std.proofs.Common.{◌≡◌, ℕ, length, subst, arith}
use Rattle.cg_sets.specs.ClassLists.{AddsBases, IsStructBase}
use Rattle.cg_sets.proofs.ClassLists.{structs_none, structs_next}
use Rattle.cg_sets.proofs.class_list.ClassList.add_structs.Goals as goal

pub loop-number-init : goal.loop-number-init
loop-number-init c = structs_none c.args.numbers.now c.args.self.now

pub loop-number-preserved : goal.loop-number-preserved
loop-number-preserved c = structs_next c.args.numbers.now c.loop-number.numbers c.add_struct.new.numbers c.args.self.now c.loop-number.self c.add_struct.new.self c.loop-number.number c.loop-number.invariant c.in_ok-add_struct.ensures

pub returns : goal.returns
returns c =
    let e : c.loop-number.number ≡ length c.args.program.now.types.terms = omega (arith, c.len-number-end.ensures.value, c.loop-number-test.false, c.loop-number.auto.number-end) in
    subst (λ (k : ℕ). AddsBases c.args.numbers.now c.loop-number.numbers c.args.self.now c.loop-number.self (IsStructBase k c.args.numbers.now.likeness.types c.args.numbers.now.likeness.bares)) e c.loop-number.invariant
