use Rattle.std.proofs.Common.{◌≡◌, ◌∙◌, ap, ◌+◌, arith, replicate, length}
use Rattle.std.specs.Int.{w128}
use Rattle.std.proofs.lemmas.Int.{to_z-of_z}
use Rattle.go_value.specs.Values as vals
use Rattle.go_store.specs.Arrays.{with_elements}
use Rattle.go_store.specs.Cells.{packed}
use Rattle.go_store.proofs.Overwritten.{number_times, resized}
use Rattle.go_store.proofs.runs.fill_ints.Goals as goal

pub returns : goal.returns
returns c =
    let old = c.args.ints.now in
    let long : old.len ≡ length old.items = omega (arith, old.ok) in
    let room : c.in-Some.len ≡ old.len + c.args.times = omega (arith, c.len.ensures, c.in-Some.ensures) in
    ap packed (resized old.items c.resize.new.self.items old.len c.args.times c.in-Some.len _ long room c.in_ok-resize.ensures.items)
    ∙ number_times old.items c.args.times _
    ∙ ap (λ n. with_elements (replicate c.args.times (vals.number n)) (packed old.items)) (to_z-of_z w128 c.args.number c.ranges.number)
