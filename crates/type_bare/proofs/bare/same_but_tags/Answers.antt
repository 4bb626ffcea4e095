use Rattle.type_bare.proofs.Telling.{same_answer}
use Rattle.go_type.proofs.Growing.{grows_on}
use Rattle.type_bare.proofs.bare.same_but_tags.Goals as goal

pub returns-in_err-second-clause-grows : goal.returns-in_err-second-clause-grows
returns-in_err-second-clause-grows c = grows_on _ _ _ c.of.ensures.grows c.of-2.ensures.grows

pub returns-clause-ok : goal.returns-clause-ok
returns-clause-ok c = λ known.
    same_answer c.of-2.new.self c.of-2.new.types c.laws.ensures (c.of-2.ensures.known (c.of.ensures.known known)) c.args.a c.args.b c.in_ok-first.first c.in_ok-second.second _
    (c.of-2.ensures.keeps c.args.a c.in_ok-first.first c.in_ok-first.ensures.ok) c.in_ok-second.ensures.ok c.eq.ensures

pub returns-clause-grows : goal.returns-clause-grows
returns-clause-grows c = grows_on _ _ _ c.of.ensures.grows c.of-2.ensures.grows
