use Rattle.std.proofs.Common.{◌≡◌, Bool, true, false, not, refl, sym, ◌∙◌}
use Rattle.go_type.proofs.Stands.{inserted_twice}
use Rattle.go_type.proofs.levels.Thinning.count.Goals as goal

there : (b r : Bool) → r ≡ not b → r ≡ false → b ≡ true
there true r e h = refl
there false r e h = sym h ∙ e

pub returns-clause-twice : goal.returns-clause-twice
returns-clause-twice c = inserted_twice c.args.of c.args.self.now.once.keys c.args.self.now.twice.keys c.insert-2.new.self.keys (there _ _ c.in_ok-insert.ensures.added c.if-branch.false) c.in_ok-insert-2.ensures.keys
