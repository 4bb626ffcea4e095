use Rattle.std.proofs.Common.{◌∙◌, ap, sym, List, map}
use Rattle.std.proofs.lemmas.List.{take_all}
use Rattle.go_value.specs.Values as vals
use Rattle.go_value.specs.Values.{Field, parts_of}
use Rattle.go_store.proofs.Held.{bytes_parts, plain_byte}
use Rattle.go_store.proofs.Mapped.{shown_push}
use Rattle.go_store.proofs.cells.bytes_of_parts.Goals as goal

pub loop-part-preserved : goal.loop-part-preserved
loop-part-preserved c =
    let it = c.part-item.result in
    ap (map plain_byte) c.in_ok-push-in-Some.ensures.items
    ∙ shown_push plain_byte c.loop-part.bytes.items c.args.parts.now c.loop-part.part-index c.in-Some.byte it it c.loop-part.invariant (sym c.in-Some.ensures) c.loop-part-test.true c.part-item.is

pub returns : goal.returns
returns c =
    bytes_parts c.loop-part.bytes.items ∙ ap (λ (fields : List Field). vals.parts (parts_of fields)) (c.loop-part.invariant ∙ take_all c.loop-part.part-index c.args.parts.now c.loop-part-test.false)
