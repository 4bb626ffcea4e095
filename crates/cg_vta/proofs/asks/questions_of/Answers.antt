use Rattle.std.proofs.Common.{List, subst}
use Rattle.std.proofs.lemmas.List.{take_all}
use Rattle.cg_numbers.specs.declared.sites.Call.TheVariants as call
use Rattle.cg_numbers.specs.declared.sites.Site.{Site}
use Rattle.cg_vta.proofs.Gathering.{Questions, questions_more, questions_none}
use Rattle.cg_vta.proofs.asks.questions_of.Goals as goal

pub loop-site-init : goal.loop-site-init
loop-site-init c = questions_none c.args.asks.now.list.keys _ c.new-questions.ensures.items

pub loop-site-preserved : goal.loop-site-preserved
loop-site-preserved c =
    let asked = c.in_ok-asked.ensures in
    let d : Site = record { caller = record { number = 0 }; at = record { file = 0; offset = 0 }; call = call.Fixed (record { number = 0 }) } in
    questions_more c.args.asks.now.list.keys c.loop-site.asks.list.keys c.asked_by.new.asks.list.keys c.args.sites.now c.loop-site.site-index d c.loop-site.questions.items c.push.new.self.items c.in_ok-asked.asked c.loop-site-test.true asked.at asked.grows c.in_ok-push.ensures.items c.loop-site.invariant

pub returns-clause-questions : goal.returns-clause-questions
returns-clause-questions c =
    (subst (λ (l : List Site). Questions c.args.asks.now.list.keys c.loop-site.asks.list.keys l c.loop-site.questions.items) (take_all c.loop-site.site-index c.args.sites.now c.loop-site-test.false) c.loop-site.invariant).asked

pub returns-clause-only : goal.returns-clause-only
returns-clause-only c =
    (subst (λ (l : List Site). Questions c.args.asks.now.list.keys c.loop-site.asks.list.keys l c.loop-site.questions.items) (take_all c.loop-site.site-index c.args.sites.now c.loop-site-test.false) c.loop-site.invariant).only
