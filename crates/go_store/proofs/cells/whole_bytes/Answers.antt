use Rattle.std.proofs.Common.{◌≡◌, ◌∙◌, ap, sym, subst, refl, IfOk, List, ℕ, ◌≤◌, arith, map, take, get_or, length}
use Rattle.std.specs.Int.{w128}
use Rattle.std.proofs.lemmas.Int.{ints, to_z-of_z}
use Rattle.std.proofs.Common.{to_z, of_z}
use Rattle.go_value.specs.Values as vals
use Rattle.go_value.specs.Values.{Field, parts_of}
use Rattle.std.proofs.lemmas.List.{take_all}
use Rattle.go_store.specs.Cells.{plain_number}
use Rattle.go_store.proofs.Held.{bytes_parts, plain_byte}
use Rattle.go_store.proofs.Mapped.{made_push}
use Rattle.go_store.proofs.cells.whole_bytes.Goals as goal

pub loop-byte-preserved : goal.loop-byte-preserved
loop-byte-preserved c =
    let plain : to_z w128 (of_z w128 c.from.result) ≡ c.from.result = grind (arith, ints, to_z-of_z) in
    ◌∙◌ {A = List Field} c.in_ok-push.ensures.items (made_push plain_byte c.loop-byte.parts.items c.args.bytes.now c.loop-byte.byte-index c.plain.result 0 (get_or c.args.bytes.now c.loop-byte.byte-index 0) c.loop-byte.invariant (c.plain.ensures ∙ ap plain_number (plain ∙ c.from.ensures)) c.loop-byte-test.true refl)

all_bytes : (bytes : List ℕ) (parts : List Field) (i : ℕ) → parts ≡ map plain_byte (take i bytes) → length bytes ≤ i → vals.parts (parts_of parts) ≡ vals.parts (parts_of (map plain_byte bytes))
all_bytes bytes parts i made all = ap (λ (fields : List Field). vals.parts (parts_of fields)) (made ∙ ap (map plain_byte) (take_all i bytes all))

pub returns : goal.returns
returns c =
    subst (λ it. IfOk c.parts.result (λ value. vals.value_of value ≡ it))
    (all_bytes c.args.bytes.now c.loop-byte.parts.items c.loop-byte.byte-index c.loop-byte.invariant c.loop-byte-test.false ∙ sym (bytes_parts c.args.bytes.now))
    c.parts.ensures
