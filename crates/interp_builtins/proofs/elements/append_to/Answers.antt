use Rattle.std.proofs.Common.{sym, length, map}
use Rattle.std.proofs.lemmas.List.{length-map}
use Rattle.go_store.specs.Stores.{stored}
use Rattle.go_value.specs.Values.{value_of}
use Rattle.interp_builtins.proofs.Slices.{appended_is, given_slice}
use Rattle.interp_builtins.proofs.elements.append_to.Goals as goal

pub returns-in-Ok : goal.returns-in-Ok
returns-in-Ok c =
    given_slice c.slice_of.result c.in-Ok.appended _ _ _ c.slice_of.ensures.value c.slice_of.ensures.lost
    (appended_is c.args.leaves (length c.args.items.now) (stored c.args.store.now) (stored c.append.new.self)
    c.args.slice.now c.in-Ok.appended (map value_of c.args.items.now) (sym (length-map c.args.items.now value_of))
    c.in-Ok.ensures.fault c.in-Ok.ensures.value c.in-Ok.ensures.ok)
