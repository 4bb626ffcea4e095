use Rattle.std.proofs.Common.{◌≡◌, ◌∙◌, List, None, subst, take, arith}
use Rattle.std.proofs.lemmas.List.{take_all}
use Rattle.go_tree.specs.declared.variables.DeclaredType.{DeclaredType}
use Rattle.cg_sets.specs.ClassLists.{AddsBases, IsDeclaredBase}
use Rattle.cg_sets.proofs.ClassLists.{declared_none, declared_next}
use Rattle.cg_sets.proofs.class_list.ClassList.add_declared.Goals as goal

pub loop-declared-init : goal.loop-declared-init
loop-declared-init c = declared_none c.args.program.now c.args.numbers.now c.args.self.now

pub loop-declared-preserved : goal.loop-declared-preserved
loop-declared-preserved c =
    let items = c.as_slice-declared-items.result.now in
    let i = c.loop-declared.declared-index in
    let d : DeclaredType = record { id = record { number = 0 }; at = record { file = 0; offset = 0 }; function = None } in
    declared_next c.args.program.now c.args.numbers.now c.loop-declared.numbers c.add_one_declared.new.numbers c.args.self.now c.loop-declared.self c.add_one_declared.new.self items i d (omega arith) c.loop-declared.invariant c.in_ok-add_one_declared.ensures

pub returns : goal.returns
returns c =
    let items = c.as_slice-declared-items.result.now in
    let p = c.args.program.now in
    let all : take c.loop-declared.declared-index items ≡ p.declared = take_all c.loop-declared.declared-index items c.loop-declared-test.false ∙ c.as_slice-declared-items.ensures in
    subst (λ (l : List DeclaredType). AddsBases c.args.numbers.now c.loop-declared.numbers c.args.self.now c.loop-declared.self (IsDeclaredBase l p c.args.numbers.now.likeness.types c.args.numbers.now.likeness.bares)) all c.loop-declared.invariant
