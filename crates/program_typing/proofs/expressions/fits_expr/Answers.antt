use Rattle.program_typing.proofs.expressions.fits_expr.Goals as goal

pub returns : goal.returns
returns c = λ told. c.in_ok-seen.ensures.fits told.tests told.told
