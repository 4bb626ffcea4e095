use Rattle.std.proofs.Common.{◌<◌, Bool, List, length, ◌∙◌, ap}
use Rattle.cg_solve.specs.LeastSets.{marked}
use Rattle.cg_solve.proofs.Members.{Has-all}
use Rattle.cg_solve.proofs.solving.Search.new.Goals as goal

pub returns : goal.returns
returns c = record {
  none = λ k. c.in_ok-cover_rules.ensures.same k ∙ ap (λ (ms : List Bool). marked ms k) c.new-marks.ensures.items;
  queue = c.new.ensures.items;
  found = c.new-2.ensures.items;
  room = Has-all (λ r. r.then < length c.cover_rules.new.marks.items) c.args.rules.now c.in_ok-cover_rules.ensures.room;
}
