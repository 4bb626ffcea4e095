use Rattle.std.proofs.Common.{◌∙◌, ap}
use Rattle.std.proofs.lemmas.List.{with_items_is}
use Rattle.flow_rules.proofs.Levels.{seen, after_continue}
use Rattle.flow_rules.proofs.branches.Branches.continue_levels.Goals as goal

pub returns-in_err-levels-clause-behind : goal.returns-in_err-levels-clause-behind
returns-in_err-levels-clause-behind c =
    rw (← c.self.view_is) (
    let s = c.self.inside in
    let labels = with_items_is s.labels c.name_labels.new.labels (c.name_labels.auto.labels ∙ c.deref_mut.ensures.len) in
    ap (λ l. seen s.declared.keys l s.around.items) labels
    ∙ after_continue s.declared.keys s.labels.items c.deref_mut.result.now c.name_labels.new.labels s.around.items c.args.label c.deref_mut.ensures.value c.name_labels.ensures
    )

pub returns-clause-behind : goal.returns-clause-behind
returns-clause-behind c =
    rw (← c.self.view_is) (
    let s = c.self.inside in
    let labels = with_items_is s.labels c.name_labels.new.labels (c.name_labels.auto.labels ∙ c.deref_mut.ensures.len) in
    ap (λ l. seen s.declared.keys l s.around.items) labels
    ∙ after_continue s.declared.keys s.labels.items c.deref_mut.result.now c.name_labels.new.labels s.around.items c.args.label c.deref_mut.ensures.value c.name_labels.ensures
    )
