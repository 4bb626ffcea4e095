use Rattle.expr_typing.proofs.seeing.see.Goals as goal

pub returns-clause-fits : goal.returns-clause-fits
returns-clause-fits c = λ tests told. c.in_ok-fits.ensures (record { tests = tests; told = told })
