use Rattle.cg_numbers.proofs.Collecting.{extends_on}
use Rattle.cg_sets.specs.declared.class_list.ClassList.{ClassList}
use Rattle.cg_sets.proofs.ClassLists.{listed_all, pointed_all}
use Rattle.cg_sets.proofs.class_list.class_list.Goals as goal

pub returns-clause-listed : goal.returns-clause-listed
returns-clause-listed c =
    let first : ClassList = record { types = c.new.result; values = c.new-2.result } in
    listed_all c.args.program.now c.args.numbers.now c.add_declared.new.numbers c.add_structs.new.numbers first c.add_declared.new.self c.add_structs.new.self c.new.ensures.empty c.new-2.ensures.items c.in_ok-add_declared.ensures c.in_ok-add_structs.ensures

pub returns-clause-pointed : goal.returns-clause-pointed
returns-clause-pointed c =
    let first : ClassList = record { types = c.new.result; values = c.new-2.result } in
    pointed_all c.args.program.now c.args.numbers.now c.add_declared.new.numbers c.add_structs.new.numbers first c.add_declared.new.self c.add_structs.new.self c.in_ok-add_declared.ensures c.in_ok-add_structs.ensures

pub returns-clause-extends : goal.returns-clause-extends
returns-clause-extends c = extends_on c.in_ok-add_declared.ensures.extends c.in_ok-add_structs.ensures.extends
