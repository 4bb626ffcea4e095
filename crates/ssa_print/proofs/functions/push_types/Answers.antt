use Rattle.std.proofs.Common.{arith, codes, refl}
use Rattle.go_text.specs.Joining.{joined-turn}
use Rattle.go_text.specs.TypeText.{type_text_of}
use Rattle.ssa_print.proofs.functions.push_types.Goals as goal

pub loop-index-preserved : goal.loop-index-preserved
loop-index-preserved c =
    joined-turn (codes ", ") (type_text_of c.args.setting.now.naming) c.args.ids.now c.loop-index.index _ _ _ _ _ _
    (omega arith) refl c.loop-index.invariant c.in_ok-separate.ensures c.in_ok-push_type.ensures
