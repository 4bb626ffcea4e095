use Rattle.expr_typing.proofs.seeing.fits_part.Goals as goal

pub returns : goal.returns
returns c = λ tests told. c.in_ok-fits.ensures (record { tests = tests; told = told })
