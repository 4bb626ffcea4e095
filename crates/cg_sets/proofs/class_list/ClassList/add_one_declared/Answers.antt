use Rattle.std.proofs.Common.{◌≡◌, ◌∙◌, sym}
use Rattle.cg_sets.proofs.ClassLists.{one_declared, no_declared}
use Rattle.cg_sets.proofs.class_list.ClassList.add_one_declared.Goals as goal

pub returns-then-is_base : goal.returns-then-is_base
returns-then-is_base c = one_declared c.args.program.now c.args.numbers.now _ c.args.self.now _ c.args.declared (sym c.is_base.ensures ∙ c.if-is_base.true) c.in_ok-add_class.ensures

pub returns : goal.returns
returns c = no_declared c.args.program.now c.args.numbers.now c.args.self.now c.args.declared (sym c.is_base.ensures ∙ c.if-is_base.false)
