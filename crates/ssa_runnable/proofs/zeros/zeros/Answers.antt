use Rattle.std.proofs.Common.{arith, subst, sym, ◌∙◌}
use Rattle.std.proofs.lemmas.Slice.Eq.{slice_eq-Decides}
use Rattle.std.specs.Cmp.{booleans_Decides}
use Rattle.ssa_runnable.proofs.Nesting.{IsDeeper, Knows, none_known, stays, steps, zeros_known}
use Rattle.ssa_runnable.proofs.zeros.zeros.Goals as goal

pub loop-depth-init : goal.loop-depth-init
loop-depth-init c = none_known c.args.code.now.types c.new-known.result.items c.new-known.ensures.items

pub returns-then-eq : goal.returns-then-eq
returns-then-eq c =
    let types = c.args.code.now.types in
    let known = c.loop-depth.known.items in
    let same = (slice_eq-Decides booleans_Decides _ _ c.eq.result c.eq.ensures).0 c.if-eq.true in
    zeros_known c.args.code.now known
    (stays types c.loop-depth.depth known c.in_ok-deeper.deeper.items c.loop-depth.invariant
    (subst (λ l. IsDeeper types l c.in_ok-deeper.deeper.items) c.as_slice.ensures.value c.in_ok-deeper.ensures)
    (sym c.as_slice-in-loop-depth.ensures.value ∙ same ∙ c.as_slice-in-loop-depth-2.ensures.value) 1000 (omega arith))

pub loop-depth-preserved : goal.loop-depth-preserved
loop-depth-preserved c =
    let types = c.args.code.now.types in
    steps types c.loop-depth.depth c.loop-depth.known.items c.in_ok-deeper.deeper.items c.loop-depth.invariant
    (subst (λ l. IsDeeper types l c.in_ok-deeper.deeper.items) c.as_slice.ensures.value c.in_ok-deeper.ensures)

pub returns : goal.returns
returns c =
    zeros_known c.args.code.now c.loop-depth.known.items
    (subst (λ n. Knows c.args.code.now.types n c.loop-depth.known.items) (omega arith) c.loop-depth.invariant)
