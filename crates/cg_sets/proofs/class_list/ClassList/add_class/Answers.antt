use Rattle.std.proofs.Common.{◌≡◌, sym, subst}
use Rattle.go_base.specs.declared.ids.TypeId.{TypeId}
use Rattle.cg_sets.specs.ClassLists.{AddsBases, IsThat}
use Rattle.cg_sets.proofs.ClassLists.{class_added}
use Rattle.cg_sets.proofs.class_list.ClassList.add_class.Goals as goal

pub returns : goal.returns
returns c =
    let m = c.args.numbers.now in
    let o = c.add_type-2.new.numbers in
    let a = c.args.self.now in
    let z = c.add_type-2.new.self in
    let first = c.in_ok-add_type.ensures in
    let second = c.in_ok-add_type-2.ensures in
    subst (λ (b : TypeId). AddsBases m o a z (IsThat b)) c.bare-bare.ensures
    (class_added m c.add_type.new.numbers o c.laws.ensures a c.add_type.new.self z c.bare-bare.result c.in_ok-pointer.pointer c.in_ok-pointer.ensures first.extends second.extends first.valued second.valued first.listed second.listed)
