use Rattle.std.proofs.Common.{◌∙◌, ap, sym, ◌∷◌, ◌++◌, [], Some, List, map, take}
use Rattle.std.proofs.lemmas.List.{map-append, take_more}
use Rattle.go_value.specs.Values.{Val, pointer}
use Rattle.go_value.specs.declared.address.Pointer.{Pointer}
use Rattle.code_plan.specs.declared.steps.Arg.{Arg}
use Rattle.interp_state.specs.Machines.{machine_of}
use Rattle.interp_values.proofs.Made.{one_looked}
use Rattle.plan_mean.specs.Operands.{look_at_all}
use Rattle.interp_values.proofs.making.addresses.Goals as goal

pub loop-arg-preserved : goal.loop-arg-preserved
loop-arg-preserved c =
    let m = c.args.machine.now in
    let args = c.args.args.now in
    let i = c.loop-arg.arg-index in
    let items = c.loop-arg.captured.items in
    ap (look_at_all (machine_of m))
    (take_more args i c.arg-item.result c.loop-arg-test.true
    ∙ ap (λ (arg : Arg). take i args ++ arg ∷ []) (sym c.arg-item.is))
    ∙ one_looked m (take i args) c.arg-item.result (map pointer items) (pointer c.in_ok-address.field-0.now)
    c.loop-arg.invariant
    c.in_ok-address.ensures
    ∙ ap (λ (them : List Val). Some them)
    (ap (λ (at : Pointer). map pointer items ++ pointer at ∷ []) (sym c.in_ok-address-2.ensures)
    ∙ sym (map-append pointer items (c.in_ok-address-2.address ∷ []))
    ∙ ap (map pointer) (sym c.in_ok-push.ensures.items))
