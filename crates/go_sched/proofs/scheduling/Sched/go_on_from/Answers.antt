use Rattle.std.proofs.Common.{◌≡◌, ◌∙◌, ap, arith, ℕ, length, ◌+◌, ◌%◌, ◌<◌}
use Rattle.go_sched.specs.Goroutines.{State, state_of}
use Rattle.go_sched.specs.Choices.{chosen, picked, goes_to}
use Rattle.go_sched.proofs.Reached.{got}
use Rattle.go_sched.proofs.Turned.{chosen_less, picked_runnable, next_is, switched_is}
use Rattle.go_sched.proofs.scheduling.Sched.go_on_from.Goals as goal

at_is : (first chosen_one n count sum : ℕ) → n ≡ count → sum ≡ first + chosen_one → sum % n ≡ (first + chosen_one) % count
at_is first chosen_one n count sum counted is = ap (λ m. m % n) is ∙ ap (λ m. (first + chosen_one) % m) counted

pub returns-in-Some-clause-next : goal.returns-in-Some-clause-next
returns-in-Some-clause-next c =
    let s = c.args.self.now in
    let st = state_of s in
    let xs = s.runnable.items in
    let count : c.len-count.result ≡ length xs = c.len-count.ensures ∙ s.runnable.ok.0 in
    let some : 0 < length xs = omega (arith, count, c.if-count-eq0.false) in
    let one : c.pick-chosen.result ≡ chosen (length xs) st = c.pick-chosen.ensures.value ∙ ap (λ n. chosen n st) count in
    let less = chosen_less (length xs) st some in
    let fits = c.len-count.type_inv in
    let sum : c.saturating_add.result ≡ c.args.first + chosen (length xs) st = omega (arith, c.saturating_add.ensures, one, less, c.requires, s.runnable.small, s.runnable.ok.0) in
    let same = c.deref.ensures.value ∙ ap (λ (it : State). it.runnable) c.pick-chosen.ensures.after ∙ picked_runnable c.len-count.result st in
    next_is c.args.first _ c.in-Some.number.now st c.requires some (at_is c.args.first (chosen (length xs) st) c.len-count.result (length xs) c.saturating_add.result count sum)
    (got xs c.deref.result.now (c.saturating_add.result % c.len-count.result) c.in-Some.number.now same c.in-Some.ensures.lookup.3.0 c.in-Some.ensures.lookup.1)

pub returns-in-Some-clause-after : goal.returns-in-Some-clause-after
returns-in-Some-clause-after c =
    let s = c.args.self.now in
    let st = state_of s in
    let xs = s.runnable.items in
    let count : c.len-count.result ≡ length xs = c.len-count.ensures ∙ s.runnable.ok.0 in
    let some : 0 < length xs = omega (arith, count, c.if-count-eq0.false) in
    let one : c.pick-chosen.result ≡ chosen (length xs) st = c.pick-chosen.ensures.value ∙ ap (λ n. chosen n st) count in
    let less = chosen_less (length xs) st some in
    let sum : c.saturating_add.result ≡ c.args.first + chosen (length xs) st = omega (arith, c.saturating_add.ensures, one, less, c.requires, s.runnable.small, s.runnable.ok.0) in
    let same = c.deref.ensures.value ∙ ap (λ (it : State). it.runnable) c.pick-chosen.ensures.after ∙ picked_runnable c.len-count.result st in
    ap (λ (it : State). goes_to c.in-Some.number.now it) (c.pick-chosen.ensures.after ∙ ap (λ n. picked n st) count)
    ∙ switched_is c.args.first _ c.in-Some.number.now st c.requires some (at_is c.args.first (chosen (length xs) st) c.len-count.result (length xs) c.saturating_add.result count sum)
    (got xs c.deref.result.now (c.saturating_add.result % c.len-count.result) c.in-Some.number.now same c.in-Some.ensures.lookup.3.0 c.in-Some.ensures.lookup.1)
