use Rattle.std.proofs.Common.{ℕ, arith, subst, slice_index_or}
use Rattle.go_store.specs.Cells.{IsPlain}
use Rattle.go_value.specs.Values.{Field}
use Rattle.go_store.proofs.Integers.{plain_from, plain_at}
use borrow.Author.Count.{below_more}
use Rattle.go_store.proofs.cells.are_ints.Goals as goal

pub loop-part-preserved : goal.loop-part-preserved
loop-part-preserved c =
    let parts = c.args.parts.now in
    let i = c.loop-part.part-index in
    let plain : IsPlain c.part-item.result = subst IsPlain c.part.view_is (plain_from _ c.integer.result c.if-part.false c.integer.ensures (cc (c.is_none.ensures, c.if-is_none.ensures))) in
    let here : (d : Field) → IsPlain (slice_index_or parts i d) = λ d. plain_at parts i c.part-item.result d c.part-item.result c.loop-part-test.true c.part-item.is plain in
    let more = below_more (λ (k : ℕ). (d : Field) → IsPlain (slice_index_or parts k d)) i (λ k below d. c.loop-part.invariant k d below) here in
    λ k d below. more k below d

pub returns : goal.returns
returns c = λ r k d below. c.loop-part.invariant k d (omega (arith, c.loop-part-test.false, below))
