use Rattle.std.proofs.Common.{arith, codes, refl, length, ◌∙◌, ap, ◌++◌}
use Rattle.ssa_print.proofs.Numbered.{numbered-turn, numbered-whole}
use Rattle.go_text.specs.Joined.{joined}
use Rattle.ssa_print.specs.Functions.{param_text}
use Rattle.ssa_print.proofs.functions.push_params.Goals as goal

pub loop-index-preserved : goal.loop-index-preserved
loop-index-preserved c =
    numbered-turn (codes ", ") (param_text c.args.setting.now c.args.variadic (length c.args.params.now)) c.args.params.now c.loop-index.index _ _ _ _ _ _
    (omega arith) refl c.loop-index.invariant c.in_ok-separate.ensures c.in_ok-push_param.ensures

pub returns : goal.returns
returns c =
    c.loop-index.invariant ∙ ap (λ numbered. c.args.text.now.items ++ joined (codes ", ") (param_text c.args.setting.now c.args.variadic (length c.args.params.now)) numbered)
    (numbered-whole c.args.params.now c.loop-index.index (omega arith))
