use Rattle.std.proofs.Common.{◌∷◌, [], ◌++◌, ◌∙◌, ap, sym, ℕ, pos}
use Rattle.std.specs.Global.{Vec}
use Rattle.go_value.specs.Values as vals
use Rattle.go_store.specs.Arrays.{with_elements}
use Rattle.go_store.specs.Cells.{held, packed_bytes}
use Rattle.go_store.proofs.Held.{bytes_are}
use Rattle.go_store.proofs.Lengthened.{byte_pushed}
use Rattle.go_store.proofs.Written.{put_bytes_is}
use Rattle.go_store.proofs.runs.push_byte.Goals as goal

pub returns-in_ok-push-in-Bytes : goal.returns-in_ok-push-in-Bytes
returns-in_ok-push-in-Bytes c =
    ap held (put_bytes_is c.args.array.now c.in-Bytes.bytes _ c.in-Bytes.is)
    ∙ bytes_are _
    ∙ ap packed_bytes c.in_ok-push-in-Bytes.ensures.items
    ∙ ap (λ (v : Vec ℕ). packed_bytes (v.items ++ (c.args.byte ∷ []))) c.in-Bytes.bytes-is
    ∙ byte_pushed c.in-Bytes.bytes.items c.args.byte
    ∙ sym (ap (with_elements (vals.number (pos c.args.byte) ∷ [])) (ap held c.in-Bytes.is ∙ bytes_are c.in-Bytes.bytes))
