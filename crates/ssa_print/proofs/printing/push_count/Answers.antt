use Rattle.std.proofs.Common.{◌++◌, ap, ◌∙◌, codes}
use Rattle.std.proofs.lemmas.Result.{on_ok_weaker}
use Rattle.ssa_print.specs.Codes.{counts_text}
use Rattle.ssa_print.proofs.Chained.{then}
use Rattle.ssa_print.proofs.printing.push_count.Goals as goal

pub returns : goal.returns
returns c =
    let last = c.push_counts.new.text.items in
    let named = c.push_name.new.text.items in
    on_ok_weaker c.push_counts.result
    (λ e. then c.args.text.now.items c.push_words.new.text.items last (codes "# ") _ c.in_ok-push_words.ensures
    (then c.push_words.new.text.items named last c.args.function.now.name _ c.in_ok-push_name.ensures
    (e ∙ ap (λ n. named ++ counts_text n c.args.available) c.len.ensures)))
    c.push_counts.ensures
