use Rattle.std.proofs.Common.{◌≡◌, ◌∙◌, Some, ap, sym}
use Rattle.cg_numbers.specs.declared.numbers.Numbers.{Numbers}
use Rattle.cg_numbers.proofs.Collecting.{extends_on}
use Rattle.cg_sets.specs.Embedding.{last_on, pointed}
use Rattle.cg_sets.proofs.Aims.{asking_aims}
use Rattle.cg_sets.proofs.aiming.asking.Goals as goal

pub returns-clause-aims : goal.returns-clause-aims
returns-clause-aims c = λ functions kind.
    let e = c.args.entry.now in
    let n = c.args.numbers.now in
    let is : last_on n.likeness.types (pointed n.likeness.types c.args.class) e.path ≡ Some c.in-Some.last = cc in
    asking_aims n c.node.new.self c.group.new.self c.node-2.new.self functions c.args.class e c.in-Some.last _ _ _ c.in_ok-of.ensures.extends c.in_ok-group.ensures.extends c.in_ok-receiver.ensures.extends is c.in_ok-of.ensures.ok c.in_ok-group.ensures.ok c.in_ok-receiver.ensures.ok kind

pub returns-clause-extends : goal.returns-clause-extends
returns-clause-extends c = extends_on c.in_ok-of.ensures.extends (extends_on c.in_ok-group.ensures.extends c.in_ok-receiver.ensures.extends)

pub returns-clause-values : goal.returns-clause-values
returns-clause-values c = ap (λ (n : Numbers). n.values) c.node-2.ensures.same ∙ (ap (λ (n : Numbers). n.values) c.group.ensures.same ∙ ap (λ (n : Numbers). n.values) c.node.ensures.same)
