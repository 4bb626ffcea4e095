use Rattle.std.proofs.Common.{◌≡◌, ◌∙◌, List, subst, sym}
use Rattle.cg_numbers.proofs.Collecting.{extends_self}
use Rattle.cg_solve.specs.Tables.{row}
use Rattle.cg_vta.specs.Passing.{PutsWays}
use Rattle.cg_vta.specs.declared.ways.Way.{Way}
use Rattle.cg_vta.proofs.Choices.{one_there}
use Rattle.cg_vta.proofs.Gathering.{not_there}
use Rattle.cg_vta.proofs.Streams.{put_node}
use Rattle.cg_vta.proofs.passing.put_station.Goals as goal

pub returns-clause-puts : goal.returns-clause-puts
returns-clause-puts c = λ node at.
    let m = c.args.numbers.now in
    let n = c.put_ways.new.numbers in
    let put = c.in_ok-put_ways.ensures in
    let ways = c.in_ok-ways.ways.items in
    let old = c.args.rules.now.items in
    let new = c.put_ways.new.rules.items in
    let same : c.in-Some.node ≡ node = one_there m.nodes.keys c.args.number c.in-Some.node node (sym c.node_at.ensures ∙ c.in-Some.is) at in
    put_node (row c.args.all.now.rows) c.args.called.now m n c.in-Some.node node ways old new same put.same c.in_ok-ways.ensures (subst (λ (l : List Way). PutsWays n l old new) c.as_slice.ensures.value put.puts)

pub returns-in_default-clause-puts : goal.returns-in_default-clause-puts
returns-in_default-clause-puts c = λ node at. absurd (not_there c.args.numbers.now.nodes.keys c.args.number node (sym c.node_at.ensures ∙ c.in_default.is) at)

pub returns-in_default-clause-extends : goal.returns-in_default-clause-extends
returns-in_default-clause-extends c = extends_self c.args.numbers.now
