use Rattle.std.proofs.Common.{◌+◌, ◌<◌, length, sym, subst}
use Rattle.init_order.specs.Naming.{Naming}
use Rattle.init_order.proofs.RowLaws.{still_graph}
use Rattle.init_order.proofs.initialising.Reliance.add.Goals as goal

pub invariant_of-self : goal.invariant_of-self
invariant_of-self c =
    let s = c.self.inside in
    still_graph c.push_number.result s.graph c.deref_mut.result.now c.push_number.new.rows c.in-Some.from c.in-Some-place.to (s.variables + s.steps + s.functions)
    c.deref_mut.ensures.value c.push_number.auto.rows c.deref_mut.ensures.len c.push_number.ensures.pushed c.push_number.ensures.err c.self.invariant
    (subst (λ (n : Naming). c.in-Some-place.to < length n.rows) (sym c.self.view_is) c.in-Some-place.ensures.within)
