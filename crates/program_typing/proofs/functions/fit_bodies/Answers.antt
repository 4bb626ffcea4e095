use Rattle.std.proofs.Common.{sym, refl, arith}
use Rattle.program_typing.proofs.Numbered.{bodies-unequal, bodies-kept, bodies-ended, bodies-done}
use Rattle.program_typing.proofs.functions.fit_bodies.Goals as goal

pub returns-then-decls-bodies : goal.returns-then-decls-bodies
returns-then-decls-bodies c = λ told. sym (bodies-unequal c.args.program.now told.tests 0 c.args.decls.now c.args.bodies.now c.if-decls-bodies.true)

pub returns-then-not-branch : goal.returns-then-not-branch
returns-then-not-branch c = λ told. bodies-ended c.args.program.now told.tests c.args.decls.now c.args.bodies.now c.loop-number.number _ _ c.index-bodies-number.result _ _ _ (omega arith) (omega arith) refl c.index-bodies-number.is (c.in_ok-fits_body.ensures told) c.if-not-branch.true (c.loop-number.invariant told)

pub loop-number-preserved : goal.loop-number-preserved
loop-number-preserved c = λ told. bodies-kept c.args.program.now told.tests c.args.decls.now c.args.bodies.now c.loop-number.number _ _ c.index-bodies-number.result _ _ _ (omega arith) (omega arith) refl c.index-bodies-number.is (c.in_ok-fits_body.ensures told) c.if-not-branch.false (c.loop-number.invariant told)

pub returns : goal.returns
returns c = λ told. bodies-done c.args.program.now told.tests c.args.decls.now c.args.bodies.now c.loop-number.number _ (omega arith) (omega arith) (c.loop-number.invariant told)
