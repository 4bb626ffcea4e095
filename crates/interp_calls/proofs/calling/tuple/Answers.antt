use Rattle.std.proofs.Common.{◌+◌, ◌∙◌, ◌++◌, ◌∷◌, [], ap, sym, take}
use Rattle.std.proofs.lemmas.List.{take_all, take_more}
use Rattle.code_plan.specs.declared.steps.Arg.{Arg}
use Rattle.interp_calls.proofs.Puts.{part_more, tuple_made}
use Rattle.interp_calls.proofs.calling.tuple.Goals as goal

pub loop-value-preserved : goal.loop-value-preserved
loop-value-preserved c =
    let args = c.args.values.now in
    let i = c.loop-value.value-index in
    part_more c.args.machine.now (take i args) (take (i + 1) args) c.value-item.result c.in_ok-read.field-0
    c.plain.result c.loop-value.parts.items c.push.new.self.items c.loop-value.invariant.0
    (take_more args i c.value-item.result c.loop-value-test.true
    ∙ ap (λ (arg : Arg). take i args ++ arg ∷ []) (sym c.value-item.is)) c.in_ok-read.ensures c.plain.ensures
    c.in_ok-push.ensures.items c.loop-value.invariant.1.0 c.loop-value.invariant.1.1

pub returns : goal.returns
returns c =
    let args = c.args.values.now in
    let i = c.loop-value.value-index in
    tuple_made c.parts.result c.args.machine.now args (take i args) c.loop-value.parts.items c.loop-value.invariant.0
    (take_all i args c.loop-value-test.false) c.loop-value.invariant.1.0 c.loop-value.invariant.1.1 c.parts.ensures
