use Rattle.std.proofs.Common.{◌∙◌, ap, sym}
use Rattle.go_sched.specs.Goroutines.{state_of}
use Rattle.go_store.specs.Stores.{stored}
use Rattle.std.specs.List.{filter}
use Rattle.plan_mean.specs.Ranges.{is_standing}
use Rattle.ssa_mean.specs.MapCalls.{entries_of}
use Rattle.interp_values.proofs.Turned.{drawn_spared, sched_spared}
use Rattle.interp_values.proofs.ranging.drawn.Goals as goal

pub returns : goal.returns
returns c =
    let sched = state_of c.args.machine.now.sched in
    let entries = entries_of (stored c.args.machine.now.store) c.args.map in
    let standing = c.in_ok-standing.ensures ∙ ap (filter (is_standing entries)) c.as_slice.ensures.value in
    record {
      drawn = c.in_ok-entry.ensures.drawn ∙ drawn_spared sched entries c.args.left.now.items
          c.in_ok-standing.standing.items
          (sym c.if-is_spent.ensures) standing;
      sched = c.in_ok-entry.ensures.sched ∙ sched_spared sched entries c.args.left.now.items
          c.in_ok-standing.standing.items
          (sym c.if-is_spent.ensures) standing;
      others = c.in_ok-entry.ensures.others;
    }
