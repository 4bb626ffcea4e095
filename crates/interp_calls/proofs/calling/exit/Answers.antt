use Rattle.std.proofs.Common.{◌≡◌, ◌∙◌, List, ℤ, ap, arith, of_z, pos, to_z}
use Rattle.std.specs.Prelude.{slice_get, unsigned_abs}
use Rattle.std.specs.Int.{int_rem_euclid, w128}
use Rattle.std.proofs.lemmas.Int.{ints, to_z-of_z}
use Rattle.go_value.specs.declared.values.Value.{Value}
use Rattle.interp_calls.proofs.Puts.{exits_with}
use Rattle.interp_calls.proofs.calling.exit.Goals as goal

pub returns-in-Some-Int : goal.returns-in-Some-Int
returns-in-Some-Int c =
    let status = c.in-Some-Int.status in
    let plain : to_z w128 (of_z w128 status) ≡ status = grind (arith, ints, to_z-of_z) in
    exits_with c.end.result c.args.machine.now c.end.new.self c.in-Some-Int.field-0.now status
    c.exit_status-status.result
    (c.in-Some-Int.ensures.value ∙ ap (λ (items : List Value). slice_get items 0) c.deref.ensures.value)
    c.in-Some-Int.field-0-is
    (c.exit_status-status.ensures ∙ ap (λ (status : ℤ). unsigned_abs (int_rem_euclid status (pos 256)))
    (ap (λ z. to_z w128 (of_z w128 z)) c.in-Some-Int.status-is ∙ plain)) c.end.ensures.ends c.end.ensures.ending
