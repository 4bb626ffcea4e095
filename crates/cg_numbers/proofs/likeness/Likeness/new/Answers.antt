use Rattle.cg_numbers.proofs.Likened.{stands}
use Rattle.cg_numbers.proofs.likeness.Likeness.new.Goals as goal

pub returns : goal.returns
returns c =
    stands c.args.types.now c.in_ok-copy.copy c.know_all.new.types c.hold_pointers.new.types c.know_all.new.self c.in_ok-copy.ensures
    (c.know_all.ensures.known (c.new-bares.ensures.known c.in_ok-copy.copy)) c.in_ok-know_all.ensures.ok c.know_all.ensures.grows c.know_all.ensures.definitions c.hold_pointers.ensures.grows c.hold_pointers.ensures.definitions
