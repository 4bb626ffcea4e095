use Rattle.std.proofs.Common.{◌∙◌, ap, sym, reverse}
use Rattle.go_store.specs.Stores.{stored}
use Rattle.interp_values.proofs.Turned.{next_last}
use Rattle.plan_mean.specs.Ranges.{first_drawn}
use Rattle.ssa_mean.specs.MapCalls.{entries_of}
use Rattle.interp_values.proofs.ranging.first_entry.Goals as goal

pub loop-number-preserved : goal.loop-number-preserved
loop-number-preserved c =
    let entries = entries_of (stored c.args.machine.now.store) c.args.map in
    sym (next_last entries c.pop.new.self.items c.in-Some.number (sym c.if-has_entry.ensures))
    ∙ ap (λ xs. first_drawn entries (reverse xs)) (sym c.in-Some.ensures.items) ∙ c.loop-number.invariant
