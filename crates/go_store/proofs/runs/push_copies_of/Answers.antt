use Rattle.std.proofs.Common.{◌≡◌, ◌∷◌, [], ◌∙◌, ap, sym, arith, replicate}
use Rattle.go_value.specs.Values.{Val, value_of}
use Rattle.go_store.specs.Arrays.{with_elements}
use Rattle.go_store.specs.Cells.{held}
use Rattle.go_store.proofs.Lengthened.{once_more, no_more}
use Rattle.go_store.proofs.runs.push_copies_of.Goals as goal

pub loop-init : goal.loop-init
loop-init c = sym (no_more (held c.args.array.now))

pub loop-preserved : goal.loop-preserved
loop-preserved c =
    once_more c.loop.counter (value_of c.args.value.now) (held c.args.array.now) (held c.loop.array) _ c.loop.invariant
    (c.in_ok-push_element.ensures ∙ ap (λ (v : Val). with_elements (v ∷ []) (held c.loop.array)) c.in_ok-cell_of_copy.ensures)

pub returns : goal.returns
returns c =
    let done : c.loop.counter ≡ c.args.times = omega arith in
    c.loop.invariant ∙ ap (λ n. with_elements (replicate n (value_of c.args.value.now)) (held c.args.array.now)) done
