use Rattle.std.proofs.Common.{refl}
use Rattle.cg_numbers.proofs.Collecting.{extends_on}
use Rattle.cg_numbers.proofs.Lists.{at_later}
use Rattle.cg_vta.proofs.Streams.{same_on}
use Rattle.cg_vta.proofs.passing.put_way.Goals as goal

pub returns-clause-puts : goal.returns-clause-puts
returns-clause-puts c =
    let m = c.bare_node.new.self in
    let n = c.bare_node-2.new.self in
    let from = c.in_ok-from.from in (
      record { left = from; right = from; then = c.in_ok-to.to },
      record { source = at_later m.nodes.keys n.nodes.keys from c.args.way.from c.in_ok-to.ensures.extends.nodes c.in_ok-from.ensures.ok; both = refl; target = c.in_ok-to.ensures.ok },
      c.in_ok-push.ensures.items,
    )

pub returns-clause-extends : goal.returns-clause-extends
returns-clause-extends c = extends_on c.in_ok-from.ensures.extends c.in_ok-to.ensures.extends

pub returns-clause-same : goal.returns-clause-same
returns-clause-same c = same_on c.args.numbers.now c.bare_node.new.self c.bare_node-2.new.self c.bare_node.ensures.same c.bare_node-2.ensures.same
