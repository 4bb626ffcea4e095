use Rattle.std.proofs.Common.{◌<◌, [], sym, subst, ap, length, ◌∙◌, arith}
use Rattle.cg_solve.specs.LeastSets.{IsSearch, added_all}
use Rattle.cg_solve.proofs.Members.{Has-all}
use Rattle.cg_solve.proofs.Worklist.{begun}
use Rattle.cg_solve.proofs.solving.Search.start.Goals as goal

pub returns : goal.returns
returns c =
    let ms = c.cover_seeds.new.marks.items in
    let old = c.args.self.now in
    let more = c.in_ok-cover_seeds.ensures.more in
    subst (IsSearch c.args.seeds.now c.args.rules.now [])
    (sym (c.in_ok-add_all.ensures ∙ (ap (λ q. added_all c.args.seeds.now (record { marks = ms; queue = q; found = old.found.items })) c.requires.queue ∙ ap (λ f. added_all c.args.seeds.now (record { marks = ms; queue = []; found = f })) c.requires.found)))
    (begun c.args.seeds.now c.args.rules.now ms (λ k. c.in_ok-cover_seeds.ensures.same k ∙ c.requires.none k)
    (λ r h. let l = c.requires.room r h in omega arith)
    (Has-all (λ n. n < length ms) c.args.seeds.now c.in_ok-cover_seeds.ensures.room))
