use Rattle.std.proofs.Common.{ℕ, List, codes}
use Rattle.std.proofs.lemmas.Result.{on_ok_weaker}
use Rattle.ssa_print.specs.Operands.{operand_text}
use Rattle.ssa_print.proofs.Chained.{then}
use Rattle.ssa_print.proofs.instructions.Writer.assertion.Goals as goal

pub returns : goal.returns
returns c =
    let named : List ℕ = operand_text c.args.self.now.setting.now c.args.self.now.given.now.keys c.args.operand.now in
    on_ok_weaker c.asserted.result
    (λ e. then c.args.text.now.items c.push_words.new.text.items c.asserted.new.text.items (codes "typeassert ") _ c.in_ok-push_words.ensures
    (then c.push_words.new.text.items c.operand.new.text.items c.asserted.new.text.items named _ c.in_ok-operand.ensures e))
    c.asserted.ensures
