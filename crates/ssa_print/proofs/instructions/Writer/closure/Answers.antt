use Rattle.std.proofs.Common.{ℕ, List, codes}
use Rattle.std.proofs.lemmas.Result.{on_ok_weaker}
use Rattle.ssa_print.specs.Instructions.{operands_text}
use Rattle.ssa_print.specs.Operands.{function_text}
use Rattle.ssa_print.proofs.Chained.{then}
use Rattle.ssa_print.proofs.instructions.Writer.closure.Goals as goal

pub returns : goal.returns
returns c =
    let setting = c.args.self.now.setting.now in
    let named : List ℕ = function_text setting c.args.function in
    let held : List ℕ = operands_text setting c.args.self.now.given.now.keys c.args.captured.now in
    let last = c.push_words-3.new.text.items in
    on_ok_weaker c.push_words-3.result
    (λ e. then c.args.text.now.items c.push_words.new.text.items last (codes "make closure ") _ c.in_ok-push_words.ensures
    (then c.push_words.new.text.items c.push_function.new.text.items last named _ c.in_ok-push_function.ensures
    (then c.push_function.new.text.items c.push_words-2.new.text.items last (codes " [") _ c.in_ok-push_words-2.ensures
    (then c.push_words-2.new.text.items c.operands.new.text.items last held _ c.in_ok-operands.ensures e))))
    c.push_words-3.ensures
