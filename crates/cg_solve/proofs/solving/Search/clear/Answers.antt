use Rattle.std.proofs.Common.{◌≡◌, [], false, length-set, arith, subst, ◌∙◌}
use Rattle.std.proofs.lemmas.List.{nil_from_length}
use Rattle.cg_solve.specs.Lists.{Has}
use Rattle.cg_solve.proofs.Worklist.{cleared, past_cleared, nothing_marked}
use Rattle.cg_solve.proofs.solving.Search.clear.Goals as goal

pub loop-number-preserved-then-number-len : goal.loop-number-preserved-then-number-len
loop-number-preserved-then-number-len c = record {
  listed = cleared c.loop-number.self.marks.items c.loop-number.self.found.items c.pop.new.self.items c.in-Some.number c.in-Some.ensures.items c.loop-number.invariant.listed;
  same = length-set c.loop-number.self.marks.items c.in-Some.number false ∙ c.loop-number.invariant.same;
}

pub loop-number-preserved : goal.loop-number-preserved
loop-number-preserved c = record {
  listed = past_cleared c.loop-number.self.marks.items c.loop-number.self.found.items c.pop.new.self.items c.in-Some.number c.in-Some.ensures.items (omega (arith, c.loop-number.self.marks.ok.0)) c.loop-number.invariant.listed;
  same = c.loop-number.invariant.same;
}

pub returns : goal.returns
returns c =
    let s = c.loop-number.self in
    let found : s.found.items ≡ [] = nil_from_length s.found.items (omega (arith, s.found.ok.0, c.in_default.ensures.cases.0)) in
    record {
      none = nothing_marked s.marks.items (λ k h. subst (λ l. Has l k) found (c.loop-number.invariant.listed k h));
      queue = c.clear.ensures.items;
      found = nil_from_length c.pop.new.self.items (omega (arith, c.pop.new.self.ok.0, c.in_default.ensures.cases.1));
      room = λ r h. let l = c.requires.room r h in let e = c.loop-number.invariant.same in omega arith;
    }
