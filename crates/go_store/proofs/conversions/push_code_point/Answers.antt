use Rattle.std.proofs.Common.{◌<◌, drop, length, length-drop, arith}
use Rattle.go_store.proofs.Spelled.{width_within}
use Rattle.go_store.proofs.conversions.push_code_point.Goals as goal

pub returns-clause-within : goal.returns-clause-within
returns-clause-within c =
    let rest = drop c.args.at c.args.bytes.now in
    let some : 0 < length rest = omega (arith, length-drop c.args.at c.args.bytes.now, c.requires) in
    let w = width_within rest c.decode_rune-rune.result.0 c.decode_rune-rune.result.1 some c.decode_rune-rune.ensures in
    (omega (arith, w.0, c.from-2.ensures), omega (arith, w.1, c.from-2.ensures, length-drop c.args.at c.args.bytes.now, c.requires))
