use Rattle.std.proofs.Common.{arith, sym, ◌∙◌}
use Rattle.ssa_typed.specs.Typed.{in_header}
use Rattle.ssa_typed.proofs.Places.{ill-block, blocks-more, given-block, function-typed}
use Rattle.ssa_typed.proofs.checking.first_ill_typed.Goals as goal

pub returns-then-not-fits_header : goal.returns-then-not-fits_header
returns-then-not-fits_header c = in_header (sym c.fits_header.ensures ∙ c.if-not-fits_header.true)

pub returns-in-Some : goal.returns-in-Some
returns-in-Some c =
    ill-block c.args.frame.code.now c.args.frame.function.now c.as_slice-block-items.result.now c.loop-number.number c.in-Some.instr c.block-item.result _ c.as_slice.result.now c.loop-number.given.keys
    (sym c.fits_header.ensures ∙ c.if-not-fits_header.false) c.as_slice-block-items.ensures (omega arith) c.block-item.is c.as_slice.ensures c.loop-number.invariant.given c.loop-number.invariant.typed
    (rw c.in-Some.is at c.in_ok-instr.ensures)

pub loop-number-preserved : goal.loop-number-preserved
loop-number-preserved c =
    let all = rw c.in_default.is at c.in_ok-instr.ensures in
    record {
      typed =
          blocks-more c.args.frame.code.now c.args.frame.function.now c.as_slice-block-items.result.now c.loop-number.number c.block-item.result _ c.as_slice.result.now c.loop-number.given.keys
          c.as_slice-block-items.ensures (omega arith) c.block-item.is c.as_slice.ensures c.loop-number.invariant.given all.0 c.loop-number.invariant.typed;
      given =
          given-block c.args.frame.code.now c.args.frame.function.now c.as_slice-block-items.result.now c.loop-number.number c.block-item.result _ c.as_slice.result.now c.loop-number.given.keys _
          c.as_slice-block-items.ensures (omega arith) c.block-item.is c.as_slice.ensures c.loop-number.invariant.given all.1;
    }

pub returns : goal.returns
returns c =
    function-typed c.args.frame.code.now c.args.frame.function.now c.as_slice-block-items.result.now c.loop-number.number
    (sym c.fits_header.ensures ∙ c.if-not-fits_header.false) c.as_slice-block-items.ensures (omega arith) c.loop-number.invariant.typed
