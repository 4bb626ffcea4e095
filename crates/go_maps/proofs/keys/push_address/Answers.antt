use Rattle.std.proofs.lemmas.Result.{IfOk-weaker, IfOk-at_ok}
use Rattle.go_maps.proofs.CodesOf.{address_code}
use Rattle.go_maps.proofs.keys.push_address.Goals as goal

pub returns : goal.returns
returns c =
    IfOk-weaker c.push_steps.result _ _
    (λ _ h. address_code c.args.address.now c.in_ok-pointer.pointer c.in-Some.cell c.args.bytes.now.items _ _ _ c.push_steps.new.bytes.items _ _
    (IfOk-at_ok _ c.in_ok-pointer.was c.pointer.ensures) c.in-Some.is c.in_ok-push_byte.ensures c.in_ok-push_number.ensures c.in_ok-push_number-2.ensures c.len.ensures c.as_slice.ensures h)
    c.push_steps.ensures
