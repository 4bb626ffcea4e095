use Rattle.std.proofs.Common.{◌≡◌, arith, of_z, to_z}
use Rattle.std.proofs.lemmas.Int.{ints, to_z-of_z}
use Rattle.std.specs.Int.{w128}
use Rattle.ssa_mean.specs.Channels.{case_number}
use Rattle.interp_builtins.proofs.Received.{tuple_is}
use Rattle.interp_builtins.proofs.channels.select_value.Goals as goal

pub returns : goal.returns
returns c =
    let number : to_z w128 (of_z w128 c.case_number.result) ≡ case_number c.args.chosen =
    grind (arith, ints, to_z-of_z, c.case_number.ensures) in
    tuple_is c.parts.result c.args.cases.now c.args.chosen c.args.value c.push_received.new.parts.items
    c.new-parts.result.items c.push.new.self.items c.push-2.new.self.items c.plain.result c.plain-2.result
    (to_z w128 (of_z w128 c.case_number.result)) c.is_some-ok.result c.parts.ensures c.in_ok-push_received.ensures
    c.in_ok-push-2.ensures.items c.in_ok-push.ensures.items c.new-parts.ensures.items c.plain.ensures c.plain-2.ensures
    number c.is_some-ok.ensures
