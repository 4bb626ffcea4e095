use Rattle.std.proofs.Common.{◌≡◌, subst, sym}
use Rattle.cg_numbers.proofs.Collecting.{extends_on}
use Rattle.cg_sets.specs.ClassLists.{AreListed}
use Rattle.cg_sets.specs.declared.class_list.ClassList.{ClassList}
use Rattle.cg_sets.specs.declared.classes.Classes.{Classes}
use Rattle.cg_sets.proofs.ClassLists.{listed_later, pointed_later}
use Rattle.cg_sets.proofs.ClassMethods.{methods_none, none_in}
use Rattle.cg_sets.proofs.classes.classes_of.Goals as goal

pub returns-clause-classes : goal.returns-clause-classes
returns-clause-classes c =
    let p = c.args.program.now in
    let m = c.class_list.new.numbers in
    let n = c.add_methods.new.numbers in
    let first : Classes = record { list = c.in_ok-list.list; names = c.new.result; methods = c.new-2.result; having = c.new-3.result } in
    let e = c.in_ok-add_methods.ensures in
    record {
      list = subst (λ (l : ClassList). AreListed p n l) (sym e.list) (listed_later p m n c.in_ok-list.list e.extends c.in_ok-list.ensures.listed);
      methods = e.methods (methods_none p m first (none_in first c.new-2.ensures.empty));
    }

pub returns-clause-pointed : goal.returns-clause-pointed
returns-clause-pointed c = pointed_later c.args.program.now c.class_list.new.numbers c.add_methods.new.numbers c.in_ok-add_methods.ensures.extends c.in_ok-list.ensures.pointed

pub returns-clause-extends : goal.returns-clause-extends
returns-clause-extends c = extends_on c.in_ok-list.ensures.extends c.in_ok-add_methods.ensures.extends
