use Rattle.std.proofs.Common.{◌≡◌, ◌∙◌, List, sym, subst}
use Rattle.cg_sets.specs.Implementing.{AreImplementers}
use Rattle.cg_sets.proofs.Selecting.{not_selected, selected, unnamed, unoffered}
use Rattle.cg_solve.specs.Tables.{row}
use Rattle.cg_sets.proofs.answers.Answers.add_group.Goals as goal

pub returns-in_default-clause-puts : goal.returns-in_default-clause-puts
returns-in_default-clause-puts c = λ p classes found. not_selected p c.args.numbers.now c.args.group (row c.args.self.now.rows) (c.selector_at.ensures.none c.in_default.is)

pub returns-then-not-offers-clause-puts : goal.returns-then-not-offers-clause-puts
returns-then-not-offers-clause-puts c = λ p classes found. unoffered p c.args.numbers.now c.args.classes.now classes c.args.group c.in-Some.selector c.in-Some.ensures.some (row c.args.self.now.rows) (sym c.offers.ensures ∙ c.if-not-offers.true)

pub returns-in_default-name-clause-puts : goal.returns-in_default-name-clause-puts
returns-in_default-name-clause-puts c = λ p classes found. unnamed p c.args.numbers.now c.args.classes.now classes c.args.group c.in-Some.selector c.in-Some.ensures.some (row c.args.self.now.rows) (c.name.ensures.none c.in_default-name.is)

pub returns-clause-puts : goal.returns-clause-puts
returns-clause-puts c = λ p classes found.
    let n = c.args.numbers.now in
    let cs = c.args.classes.now in
    let s = c.in-Some.selector in
    let known = c.in_ok-place.ensures.found p classes found in
    let all : AreImplementers p n cs s.of c.list.result.now = subst (AreImplementers p n cs s.of) (sym c.list.ensures) (known.rows c.in_ok-place.place s.of c.in_ok-place.ensures.place) in
    selected p n cs classes c.args.group s c.in-Some.ensures.some c.laws.ensures (sym c.offers.ensures ∙ c.if-not-offers.false) c.in-Some-name.name c.in-Some-name.ensures.some c.list.result.now all
    (row c.args.self.now.rows) (row c.add_classes.new.self.rows) c.in_ok-add_classes.ensures
