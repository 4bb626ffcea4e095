use Rattle.std.proofs.Common.{refl, sym, map}
use Rattle.std.proofs.lemmas.List.{length-map}
use Rattle.go_store.specs.Stores.{stored}
use Rattle.go_value.specs.Values.{value_of}
use Rattle.interp_builtins.proofs.Slices.{put_first_is}
use Rattle.interp_builtins.proofs.elements.put_first.Goals as goal

pub returns-in-Ok : goal.returns-in-Ok
returns-in-Ok c =
    put_first_is (stored c.args.store.now) (stored c.append.new.self) c.args.slice.now _ (map value_of c.args.items.now)
    c.in_ok-copy.ensures refl (sym (length-map c.args.items.now value_of)) c.in-Ok.ensures.ok
