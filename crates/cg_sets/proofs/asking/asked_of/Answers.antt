use Rattle.std.proofs.Common.{subst, sym}
use Rattle.std.proofs.lemmas.List.Filters.{dedup_is}
use Rattle.std.proofs.lemmas.List.Kept.{Contains-dedup_nat}
use Rattle.std.proofs.lemmas.List.Sorted.{Contains-permutation}
use Rattle.cg_solve.specs.Lists.{Has}
use Rattle.cg_solve.proofs.Members.{Has-Contains, Contains-Has}
use Rattle.cg_sets.proofs.Questions.{asks_of}
use Rattle.cg_sets.proofs.asking.asked_of.Goals as goal

pub returns : goal.returns
returns c = λ q h answer e.
    let is = dedup_is _ _ _ c.dedup.ensures.filtered in
    let met = subst (λ l. Has l answer) (sym c.in_ok-asked.ensures) (asks_of c.args.questions.now q h answer e) in
    Contains-Has c.dedup.new.self.items answer (rw is (Contains-dedup_nat _ answer (Contains-permutation _ _ answer c.in_ok-sort.ensures.permutation (Has-Contains c.in_ok-asked.asked.items answer met))))
