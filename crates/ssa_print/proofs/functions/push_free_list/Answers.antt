use Rattle.std.proofs.Common.{arith, codes, refl, ◌∙◌, ap, ◌++◌}
use Rattle.ssa_print.proofs.Numbered.{numbered-turn, numbered-whole}
use Rattle.go_text.specs.Joined.{joined}
use Rattle.ssa_print.specs.Functions.{free_text}
use Rattle.ssa_print.proofs.functions.push_free_list.Goals as goal

pub loop-index-preserved : goal.loop-index-preserved
loop-index-preserved c =
    numbered-turn (codes ", ") (free_text c.args.setting.now) c.args.free.now c.loop-index.index _ _ _ _ _ _
    (omega arith) refl c.loop-index.invariant c.in_ok-separate.ensures c.in_ok-push_free.ensures

pub returns : goal.returns
returns c =
    c.loop-index.invariant ∙ ap (λ numbered. c.args.text.now.items ++ joined (codes ", ") (free_text c.args.setting.now) numbered)
    (numbered-whole c.args.free.now c.loop-index.index (omega arith))
