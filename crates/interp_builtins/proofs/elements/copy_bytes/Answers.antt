use Rattle.std.proofs.Common.{◌≡◌, ◌∙◌, ap, arith, length, map, min, pos, take, to_z}
use Rattle.std.proofs.lemmas.Int.{ints}
use Rattle.std.specs.Int.{w128}
use Rattle.go_store.specs.Stores.{stored}
use Rattle.go_value.specs.Values.{value_of}
use Rattle.ssa_mean.specs.BuiltIns.{overwritten_from}
use Rattle.interp_builtins.proofs.Slices.{first_bytes, int_done}
use Rattle.interp_builtins.proofs.elements.copy_bytes.Goals as goal

pub returns-in-Ok-put_first : goal.returns-in-Ok-put_first
returns-in-Ok-put_first c =
    let bytes = c.args.text.now in
    let len = c.args.to.now.len in
    let least : c.min-count.result ≡ min len (length bytes) = grind (arith, c.min-count.ensures, c.len.ensures) in
    let plain : to_z w128 c.min-count.result ≡ pos (min len (length bytes)) =
    grind (arith, ints, least) in
    let front = c.split_at.ensures.front in
    int_done _ (min len (length bytes)) _ _ plain
    (c.in-Ok-put_first.ensures
    ∙ ap (overwritten_from (stored c.args.store.now) c.args.to.now)
    (ap (map value_of) c.as_slice-in-Ok.ensures.value
    ∙ first_bytes bytes _ c.in-Ok.items.items len (front ∙ ap (λ n. take n c.as_slice.result.now) least
    ∙ ap (take (min len (length bytes))) c.as_slice.ensures) c.in-Ok.ensures))
