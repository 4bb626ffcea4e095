use Rattle.go_load.proofs.loader.Loader.refuse_empty.Goals as goal

pub returns-in-Some-clause-why : goal.returns-in-Some-clause-why
returns-in-Some-clause-why c = λ files. c.refuse.ensures.why files (λ place. tt)
