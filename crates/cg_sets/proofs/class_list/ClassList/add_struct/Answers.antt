use Rattle.std.proofs.Common.{◌≡◌, ◌∙◌, sym}
use Rattle.cg_sets.proofs.ClassLists.{one_struct, no_struct}
use Rattle.cg_sets.proofs.class_list.ClassList.add_struct.Goals as goal

pub returns-then-is_struct : goal.returns-then-is_struct
returns-then-is_struct c = one_struct c.args.numbers.now _ c.args.self.now _ c.args.of (sym c.is_struct.ensures ∙ c.if-is_struct.true) c.in_ok-add_class.ensures

pub returns : goal.returns
returns c = no_struct c.args.numbers.now c.args.self.now c.args.of (sym c.is_struct.ensures ∙ c.if-is_struct.false)
