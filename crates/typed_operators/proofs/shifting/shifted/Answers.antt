use Rattle.std.proofs.Common.{◌≡◌, ◌∙◌, sym, to_z, of_z, arith}
use Rattle.std.specs.Int.{w128}
use Rattle.std.proofs.lemmas.Int.{to_z-of_z, ints}
use Rattle.typed_operators.proofs.Compared.{shifted_constants, shifted_nodes}
use Rattle.typed_operators.proofs.shifting.shifted.Goals as goal

pub returns-in-Some : goal.returns-in-Some
returns-in-Some c =
    let plain_a : to_z w128 (of_z w128 c.in-Some.a) ≡ c.in-Some.a = grind (arith, ints, to_z-of_z) in
    let plain_b : to_z w128 (of_z w128 c.in-Some.b) ≡ c.in-Some.b = grind (arith, ints, to_z-of_z) in
    shifted_constants c.args.ground.now c.folded.new.ground c.args.left c.args.x c.args.count c.in-Some.a c.in-Some.b (to_z w128 (of_z w128 c.in-Some.a)) (to_z w128 (of_z w128 c.in-Some.b))
    c.folded.result (cc) plain_a plain_b c.folded.ensures.answer c.folded.ensures.broken

pub returns : goal.returns
returns c =
    shifted_nodes c.args.ground.now c.args.left c.args.x c.args.count c.shift_op.result c.binary_of.result (cc) c.shift_op.ensures c.binary_of.ensures
