use Rattle.std.proofs.Common.{◌∷◌, [], ◌++◌, sym, ◌∙◌}
use Rattle.go_type.proofs.Stands.{drop_seen, drop_twice, keep}
use Rattle.go_type.proofs.levels.Thinning.add.Goals as goal

pub returns-then-contains : goal.returns-then-contains
returns-then-contains c = λ types paths all thin. drop_seen types c.args.seen.now.keys paths all c.args.spot c.args.self.now thin (sym c.contains.ensures ∙ c.if-contains.true)

pub returns-then-contains-2 : goal.returns-then-contains-2
returns-then-contains-2 c = λ types paths all thin. drop_twice types c.args.seen.now.keys paths all c.args.spot c.args.self.now thin (sym c.contains-2.ensures ∙ c.if-contains-2.true)

pub returns : goal.returns
returns c = λ types paths all thin.
    keep types c.args.seen.now.keys paths all c.args.spot c.args.self.now (record { kept = c.push.new.self; once = c.count.new.self.once; twice = c.count.new.self.twice }) thin
    c.in_ok-count.ensures.once c.in_ok-count.ensures.twice (c.in_ok-push.ensures.items ∙ (λ i. (c.count.ensures.kept i).items ++ c.args.spot ∷ []))
