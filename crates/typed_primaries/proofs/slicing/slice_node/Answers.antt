use Rattle.std.proofs.Common.{◌≡◌, ◌∙◌, sym, subst, Ok, Result}
use Rattle.std.specs.Prelude.{IfOk}
use Rattle.go_base.specs.declared.memory.NoMemory.{NoMemory}
use Rattle.typed_parts.proofs.Turns.{first_came, second_stays}
use Rattle.typed_primaries.specs.declared.slicing.Written.{Written}
use Rattle.typed_primaries.specs.Slicing.{IsBoxedBound}
use Rattle.typed_primaries.proofs.Slices.{slice_node_made}
use Rattle.typed_primaries.proofs.slicing.slice_node.Goals as goal

pub returns : goal.returns
returns c =
    let b = c.in_ok-operand.bounds in
    let w = c.in_ok-written.written in
    let came : c.each_written.result ≡ Ok w =
    first_came w c.in_ok-written.operand c.each_written.result c.in_ok-operand.operand (sym c.beside-2.ensures ∙ c.in_ok-written.was) in
    slice_node_made c.args.at c.args.typed c.args.operand c.node.result c.args.bounds b c.in_ok-operand.operand c.in_ok-written.operand
    w.low w.high w.max c.boxed.result c.boxed.ensures (sym c.beside.ensures ∙ c.in_ok-operand.was)
    (subst (λ (r : Result Written NoMemory). IfOk r (λ (it : Written). IsBoxedBound b.low it.low)) came c.each_written.ensures.low)
    (subst (λ (r : Result Written NoMemory). IfOk r (λ (it : Written). IsBoxedBound b.high it.high)) came c.each_written.ensures.high)
    (subst (λ (r : Result Written NoMemory). IfOk r (λ (it : Written). IsBoxedBound b.max it.max)) came c.each_written.ensures.max)
    (second_stays w c.in_ok-written.operand c.each_written.result c.in_ok-operand.operand (sym c.beside-2.ensures ∙ c.in_ok-written.was))
    c.node.ensures
