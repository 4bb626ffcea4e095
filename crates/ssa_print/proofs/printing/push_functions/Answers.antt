use Rattle.std.proofs.Common.{arith}
use Rattle.ssa_print.proofs.Shown.{shows-more}
use Rattle.ssa_print.proofs.printing.push_functions.Goals as goal

pub loop-function-preserved : goal.loop-function-preserved
loop-function-preserved c =
    shows-more c.args.setting.now c.args.show.functions c.args.show.available c.args.functions.now c.loop-function.function-index c.function-item.result _
    c.args.text.now.items c.loop-function.text.items c.push_shown.new.text.items (omega arith) c.function-item.is c.loop-function.invariant c.in_ok-push_shown.ensures
