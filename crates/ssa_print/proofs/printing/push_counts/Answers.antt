use Rattle.std.proofs.Common.{codes, decimal}
use Rattle.std.proofs.lemmas.Result.{on_ok_weaker}
use Rattle.ssa_print.proofs.Chained.{then}
use Rattle.ssa_print.proofs.printing.push_counts.Goals as goal

pub returns : goal.returns
returns c =
    let last = c.push_words-3.new.text.items in
    on_ok_weaker c.push_words-3.result
    (λ e. then c.args.text.now.items c.push_words.new.text.items last (codes ": blocks ") _ c.in_ok-push_words.ensures
    (then c.push_words.new.text.items c.push_number.new.text.items last (decimal c.args.blocks) _ c.in_ok-push_number.ensures
    (then c.push_number.new.text.items c.push_words-2.new.text.items last (codes ", available ") _ c.in_ok-push_words-2.ensures
    (then c.push_words-2.new.text.items c.push_number-2.new.text.items last (decimal c.args.available) _ c.in_ok-push_number-2.ensures e))))
    c.push_words-3.ensures
