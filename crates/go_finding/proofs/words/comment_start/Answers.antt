use Rattle.std.proofs.Common.{◌∙◌, sym, arith}
use Rattle.go_finding.proofs.Steps.{comment_kept}
use Rattle.go_finding.proofs.words.comment_start.Goals as goal

pub loop-index-preserved : goal.loop-index-preserved
loop-index-preserved c =
    comment_kept c.args.line.now c.loop-index.index (omega arith) (sym c.begins_comment.ensures ∙ c.if-begins_comment.false) c.loop-index.invariant
