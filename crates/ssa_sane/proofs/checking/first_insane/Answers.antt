use Rattle.std.proofs.Common.{◌≡◌, length, subst, ap, arith}
use Rattle.std.proofs.lemmas.Option.{MatchOption-at_some, MatchOption-at_none}
use Rattle.ssa_sane.specs.Checks.{IsRight, IsFirstIn, AreRightBelow}
use Rattle.ssa_sane.proofs.Checked.{stands_at, first_fault, rights_more}
use Rattle.ssa_sane.proofs.checking.first_insane.Goals as goal

pub returns-in-Some : goal.returns-in-Some
returns-in-Some c =
    let f = c.args.function.now in
    first_fault f c.requires.recovers c.loop-number.number c.in-Some.instr c.loop-number.invariant.right
    (MatchOption-at_some (IsRight f c.loop-number.number c.block-item.result) (IsFirstIn f c.loop-number.number) c.in-Some.instr c.in-Some.is c.in_ok-found.ensures.first)

pub loop-number-preserved : goal.loop-number-preserved
loop-number-preserved c =
    let f = c.args.function.now in
    record {
      seen = c.in_ok-found.ensures.seen c.in-None.is;
      right = rights_more f c.loop-number.number c.block-item.result (stands_at _ f.blocks c.loop-number.number c.block-item.result _ c.as_slice-block-items.ensures (omega arith) c.block-item.is)
          (MatchOption-at_none (IsRight f c.loop-number.number c.block-item.result) (IsFirstIn f c.loop-number.number) c.in-None.is c.in_ok-found.ensures.first) c.loop-number.invariant.right;
    }

pub returns : goal.returns
returns c =
    let e : c.loop-number.number ≡ length c.args.function.now.blocks = omega (arith, ap length c.as_slice-block-items.ensures) in
    subst (AreRightBelow c.args.function.now) e c.loop-number.invariant.right
