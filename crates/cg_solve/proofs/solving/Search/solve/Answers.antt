use Rattle.std.proofs.Common.{◌≡◌, ◌≤◌, ◌++◌, ◌∷◌, [], arith, ap, sym, subst, length, length-append, ◌∙◌}
use Rattle.cg_solve.specs.LeastSets.{IsSearch, IsSolved, search_of, followed, Found}
use Rattle.std.proofs.lemmas.List.{nil_from_length}
use Rattle.cg_solve.specs.Tables.{row}
use Rattle.cg_solve.proofs.Worklist.{weight, followed_weight, take_kept, follow_kept, exact}
use Rattle.cg_solve.proofs.solving.Search.solve.Goals as goal

pub loop-number-smaller : goal.loop-number-smaller
loop-number-smaller c =
    let s : Found = record { marks = c.loop-number.self.marks.items; queue = c.pop.new.self.items; found = c.loop-number.self.found.items } in
    let h : weight (search_of c.follow.new.self) ≤ weight s = subst (λ t. weight t ≤ weight s) (sym c.in_ok-follow.ensures) (followed_weight c.row.result.now s) in
    let q : c.loop-number.self.queue.items ≡ c.pop.new.self.items ++ c.in-Some.number ∷ [] = c.in-Some.ensures.items in
    let l = ap length q ∙ length-append c.pop.new.self.items (c.in-Some.number ∷ []) in
    omega arith

pub loop-number-preserved : goal.loop-number-preserved
loop-number-preserved c =
    let s : Found = record { marks = c.loop-number.self.marks.items; queue = c.pop.new.self.items; found = c.loop-number.self.found.items } in
    let q : c.loop-number.self.queue.items ≡ c.pop.new.self.items ++ c.in-Some.number ∷ [] = c.in-Some.ensures.items in
    let k : IsSearch c.args.seeds.now c.args.rules.now (row c.args.table.now c.in-Some.number) s = take_kept c.args.seeds.now c.args.rules.now c.args.table.now c.requires.index (search_of c.loop-number.self) c.pop.new.self.items c.in-Some.number q c.loop-number.invariant in
    subst (IsSearch c.args.seeds.now c.args.rules.now []) (sym (c.in_ok-follow.ensures ∙ ap (λ l. followed l s) c.row.ensures))
    (follow_kept c.args.seeds.now c.args.rules.now (row c.args.table.now c.in-Some.number) s (c.requires.index.sound c.in-Some.number) k)

pub returns : goal.returns
returns c =
    let s = c.loop-number.self in
    let r : IsSolved c.args.seeds.now c.args.rules.now (search_of s) = exact c.args.seeds.now c.args.rules.now (search_of s) (nil_from_length s.queue.items (omega (arith, s.queue.ok.0, c.in_default.ensures.cases.0))) c.loop-number.invariant in
    record { exact = r.exact; listed = r.listed; only = r.only; room = r.room }
