use Rattle.std.proofs.Common.{◌≡◌, ◌∙◌, pos, arith, map}
use Rattle.std.specs.Int.{w128}
use Rattle.std.proofs.lemmas.Int.{ints, to_z-of_z}
use Rattle.std.proofs.Common.{to_z, of_z}
use Rattle.go_store.proofs.Reached.{byte_here, byte_past, empty_list, no_number_deeper}
use Rattle.go_store.proofs.parts.byte_at.Goals as goal

pub returns-then-not-is_empty : goal.returns-then-not-is_empty
returns-then-not-is_empty c = no_number_deeper (map pos c.args.bytes.now) c.args.step c.args.rest.now c.is_empty.result c.is_empty.ensures c.if-not-is_empty.true

pub returns-in-Some : goal.returns-in-Some
returns-in-Some c =
    let plain : to_z w128 (of_z w128 c.from.result) ≡ c.from.result = grind (arith, ints, to_z-of_z) in
    byte_here c.args.bytes.now c.args.step c.args.rest.now c.in-Some.byte.now _ (empty_list c.args.rest.now c.is_empty.result c.is_empty.ensures c.if-not-is_empty.false) c.in-Some.ensures.lookup.3.0 c.in-Some.ensures.lookup.1 (plain ∙ c.from.ensures)

pub returns-in-None : goal.returns-in-None
returns-in-None c = byte_past c.args.bytes.now c.args.step c.args.rest.now (empty_list c.args.rest.now c.is_empty.result c.is_empty.ensures c.if-not-is_empty.false) c.in-None.ensures.lookup.3
