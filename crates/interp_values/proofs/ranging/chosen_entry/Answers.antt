use Rattle.std.proofs.Common.{◌≡◌, ◌-◌, ◌<◌, ◌∙◌, ap, refl, length, arith, ℕ}
use Rattle.std.proofs.lemmas.List.{get_or_read}
use Rattle.interp_values.proofs.Turned.{drawn_is}
use Rattle.go_sched.specs.Choices.{chosen, picked}
use Rattle.go_sched.specs.Goroutines.{state_of}
use Rattle.interp_values.proofs.ranging.chosen_entry.Goals as goal

pub returns : goal.returns
returns c =
    let sched = state_of c.args.machine.now.sched in
    let standing = c.args.standing.now in
    let items = standing.items in
    let count : c.len-count.result ≡ length items = c.len-count.ensures ∙ standing.ok.0 in
    let within : c.saturating_sub-place.result < length items = omega
    (arith, c.if-place-len.false, c.len.ensures, standing.ok.0) in
    let pick = c.pick-chosen.result in
    record {
      drawn = drawn_is sched items c.remove.new.self.items c.saturating_sub-place.result c.remove.result within
          (c.saturating_sub-place.ensures ∙ ap (λ (n : ℕ). n - pick) c.saturating_sub.ensures ∙ ap
          (λ (n : ℕ). (n - 1) - pick) count
          ∙ ap (λ (k : ℕ). (length items - 1) - k) (c.pick-chosen.ensures.value ∙ ap (λ (n : ℕ). chosen n sched) count))
          (get_or_read items c.saturating_sub-place.result c.remove.result within c.remove.ensures.value 0)
          c.remove.ensures.items;
      sched = c.pick-chosen.ensures.after ∙ ap (λ (n : ℕ). picked n sched) count;
      others = refl;
    }
