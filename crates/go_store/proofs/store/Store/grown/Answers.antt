use Rattle.std.proofs.Common.{[], ◌++◌, ◌∙◌, ap, sym, map, replicate, unwrap_or, append_assoc}
use Rattle.go_value.specs.Values.{value_of}
use Rattle.go_value.specs.Zeros.{zeroed}
use Rattle.go_store.specs.Arrays.{array_of, with_elements}
use Rattle.go_store.specs.Slices.{elements_of}
use Rattle.go_store.specs.Stores.{stored}
use Rattle.go_store.proofs.Lengthened.{more}
use Rattle.go_store.proofs.store.Store.grown.Goals as goal

pub returns-clause-ok : goal.returns-clause-ok
returns-clause-ok c =
    let had = unwrap_or (elements_of (stored c.args.self.now) c.args.slice.now) [] in
    let items = map value_of c.args.items.now in
    let zeros = replicate c.args.zeros (zeroed (value_of c.args.first.now)) in
    c.in_ok-push_zeros.ensures
    ∙ ap (with_elements zeros) (c.in_ok-push_all.ensures ∙ ap (with_elements items) (c.in_ok-push_slice.ensures.ok ∙ ap (with_elements had) c.in_ok-array.ensures))
    ∙ more items zeros (array_of had)
    ∙ more had (items ++ zeros) (array_of [])
    ∙ ap array_of (sym (append_assoc had items zeros))
