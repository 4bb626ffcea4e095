use Rattle.std.proofs.Common.{List, ap, sym, ℕ}
use Rattle.std.proofs.lemmas.List.{drop-drop}
use Rattle.go_sched.specs.Goroutines.{state_of}
use Rattle.go_sched.proofs.scheduling.Sched.used_up.Goals as goal

pub returns-then-self-len : goal.returns-then-self-len
returns-then-self-len c =
    ap (λ (xs : List ℕ). record (state_of c.args.self.now) { choices = xs }) (sym (drop-drop 1 c.args.self.now.used c.args.self.now.choices.items))
