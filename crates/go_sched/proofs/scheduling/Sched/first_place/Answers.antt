use Rattle.std.proofs.Common.{◌≡◌, ◌⊎◌, ◌∙◌, ap, sym, arith, length, inl, inr}
use Rattle.go_sched.specs.Goroutines.{State, state_of}
use Rattle.go_sched.specs.Choices.{from_place, candidates, cyclic_from}
use Rattle.go_sched.specs.declared.scheduling.Point.{Point}
use Rattle.go_sched.specs.declared.scheduling.Point.TheVariants as point
use Rattle.go_sched.proofs.Ascending.{below_within}
use Rattle.go_sched.proofs.Turned.{turned_below}
use Rattle.go_sched.proofs.scheduling.Sched.first_place.Goals as goal

from_first : (at : Point) (state : State) → (at ≡ point.After) ⊎ ((at ≡ point.Blocked) ⊎ (at ≡ point.Ended)) → candidates at state ≡ cyclic_from state.current.number state.runnable
from_first at state (inl e) = ap (λ it. candidates it state) e
from_first at state (inr (inl e)) = ap (λ it. candidates it state) e
from_first at state (inr (inr e)) = ap (λ it. candidates it state) e

pub returns-in-After : goal.returns-in-After
returns-in-After c =
    let s = c.args.self.now in
    let n = s.current.number in
    let xs = s.runnable.items in
    let le = below_within n xs in
    record {
      within = omega (arith, le, c.place.ensures);
      first = ap (λ i. from_place i xs) c.place.ensures ∙ turned_below n 0 (length s.waits.items) xs s.ascending ∙ sym (from_first c.args.point (state_of s) c.in-After.is);
    }
