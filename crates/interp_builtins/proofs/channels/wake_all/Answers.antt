use Rattle.std.proofs.Common.{◌≡◌, ◌∙◌, ◌∷◌, [], ap, arith, length, map, sym}
use Rattle.std.proofs.lemmas.List.{nil_from_length}
use Rattle.std.specs.Option.{option_and_then}
use Rattle.std.specs.Vec.Iter.{into_iter_items}
use Rattle.go_sched.specs.Operations.{woken_of}
use Rattle.interp_state.specs.Machines.{machine_of}
use Rattle.interp_state.specs.declared.machine.Machine.{Machine}
use Rattle.plan_mean.specs.Channels.{all_woken}
use Rattle.interp_builtins.proofs.channels.wake_all.Goals as goal

pub loop-wake-preserved : goal.loop-wake-preserved
loop-wake-preserved c =
    let at = c.loop-wake in
    let after = c.wake_up.new.machine in
    let rest = into_iter_items c.next.new.self in
    let steps : into_iter_items at.wake-iterator ≡ c.in-Some.wake ∷ rest = c.in-Some.ensures.steps.0 in
    record {
      woken = sym (ap (option_and_then (all_woken (map woken_of rest))) c.in_ok-wake_up.ensures.woken)
          ∙ sym (ap (λ them. all_woken (map woken_of them) (machine_of at.machine)) steps) ∙ at.invariant.woken;
      others = c.wake_up.ensures.others
          ∙ ap (λ (m : Machine). record m { goroutines = after.goroutines }) at.invariant.others;
      counted = let was = at.invariant.counted in let gone = c.in-Some.ensures.steps.1 in let short = ap length steps in
          omega arith;
    }

pub returns-clause-woken : goal.returns-clause-woken
returns-clause-woken c =
    let at = c.loop-wake in
    let none = c.in-None.ensures.steps in
    let empty : into_iter_items at.wake-iterator ≡ [] =
    nil_from_length (into_iter_items at.wake-iterator) (sym at.invariant.counted ∙ none.0) in
    ap (λ them. all_woken (map woken_of them) (machine_of c.args.machine.now))
    (sym (c.into_iter-wake-iterator.ensures.into_iter_gives.0 ∙ c.into_items-wake-items.ensures))
    ∙ sym at.invariant.woken ∙ ap (λ them. all_woken (map woken_of them) (machine_of at.machine)) empty
