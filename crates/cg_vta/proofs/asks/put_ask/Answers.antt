use Rattle.std.proofs.Common.{◌≡◌, ◌∙◌, List, subst, sym}
use Rattle.cg_sets.specs.declared.candidates.Goal.{Goal}
use Rattle.cg_solve.specs.Lists.{Has}
use Rattle.cg_solve.specs.Tables.{row}
use Rattle.cg_vta.specs.Asks.{IsGoalOf, PutsGoals}
use Rattle.cg_vta.specs.declared.asks.Ask.{Ask}
use Rattle.cg_vta.proofs.Gathering.{not_there, puts_as}
use Rattle.cg_vta.proofs.Choices.{one_there}
use Rattle.cg_vta.proofs.asks.put_ask.Goals as goal

pub returns : goal.returns
returns c = λ rows goals a at.
    let facts = row c.args.facts.now in
    let nothing = c.args.nothing in
    let number = c.args.number in
    let ask = c.in-Some.ask in
    let before = c.args.asks.now.list.keys in
    let after = c.put_goals.new.asks.list.keys in
    let old = c.args.rules.now.items in
    let new = c.put_goals.new.rules.items in
    let items = c.in_ok-found.found.items in
    let same : ask ≡ a = one_there before number ask a (sym c.at.ensures ∙ c.in-Some.is) at in
    let put : PutsGoals nothing number ask (Has items) before after old new = subst (λ (l : List Goal). PutsGoals nothing number ask (Has l) before after old new) c.as_slice.ensures.value c.in_ok-put_goals.ensures in
    subst (λ (x : Ask). PutsGoals nothing number x (IsGoalOf facts rows x) before after old new) same
    (puts_as nothing number ask (Has items) (IsGoalOf facts rows ask) before after old new (c.in_ok-found.ensures rows goals) put)

pub returns-in_default : goal.returns-in_default
returns-in_default c = λ rows goals a at. absurd (not_there c.args.asks.now.list.keys c.args.number a (sym c.at.ensures ∙ c.in_default.is) at)
