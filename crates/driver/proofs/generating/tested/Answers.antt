use Rattle.driver.proofs.generating.tested.Goals as goal

pub returns-then-typed-clause-typed : goal.returns-then-typed-clause-typed
returns-then-typed-clause-typed c = c.in-Ok.ensures.typed c.if-typed.true
