use Rattle.std.proofs.Common.{◌≡◌, ◌∙◌, ap, pos, ◌+◌, arith, replicate, length}
use Rattle.std.proofs.lemmas.Int.{ints, to_z-of_z}
use Rattle.go_value.specs.Values as vals
use Rattle.go_store.specs.Arrays.{with_elements}
use Rattle.go_store.specs.Cells.{packed_bytes}
use Rattle.go_store.proofs.Overwritten.{byte_times, resized}
use Rattle.go_store.proofs.runs.fill_bytes.Goals as goal

pub returns : goal.returns
returns c =
    let old = c.args.bytes.now in
    let long : old.len ≡ length old.items = omega (arith, old.ok) in
    let room : c.in-Some.len ≡ old.len + c.args.times = omega (arith, c.len.ensures, c.in-Some.ensures) in
    let same : pos c.in-Ok.byte ≡ c.args.number = grind (arith, ints, to_z-of_z) in
    ap packed_bytes (resized old.items c.resize.new.self.items old.len c.args.times c.in-Some.len c.in-Ok.byte long room c.in_ok-resize.ensures.items)
    ∙ byte_times old.items c.args.times c.in-Ok.byte
    ∙ ap (λ n. with_elements (replicate c.args.times (vals.number n)) (packed_bytes old.items)) same
