use Rattle.std.proofs.Common.{refl}
use Rattle.typed_primaries.proofs.Indexes.{index_asked, no_index}
use Rattle.typed_primaries.proofs.indexing.index_below.Goals as goal

pub returns-in-Some : goal.returns-in-Some
returns-in-Some c =
    index_asked c.args.ground.now c.whole_index.new.ground c.ask_below.new.ground c.args.len c.args.i c.in_ok-index.field-0 c.in-Some.index c.args.i.at
    c.ask_below.result refl c.in-Some.is c.in_ok-index.ensures c.ask_below.ensures.answer c.ask_below.ensures.broken

pub returns-in-None : goal.returns-in-None
returns-in-None c =
    no_index c.args.ground.now c.whole_index.new.ground c.args.len c.args.i c.in_ok-index.field-0 c.in-None.is c.in_ok-index.ensures
